use Rattle.std.proofs.Common.{◌<◌, refl, sym, ap, subst, arith, inl}
use Rattle.std.specs.Prelude.{Contains, option_copied}
use Rattle.advertised_index.specs.declared.index_key.IndexKey.TheVariants.{To, By, Forwarded}
use Rattle.advertised_index.specs.LsasByKey.{IsIndexedUnder}
use Rattle.advertised_index.proofs.Listing.{come_by, listed_in_all}
use Rattle.advertised_index.proofs.lsas_by_key.LsasByKey.list.Goals as goal

pub returns-in_err-add-clause-only : goal.returns-in_err-add-clause-only
returns-in_err-add-clause-only c =
    let k = c.args.key in
    let o = option_copied c.args.route in
    let to : IsIndexedUnder o k (To c.dest.result) = (c.in-Some.route.now, ap option_copied c.in-Some.is, sym c.dest.ensures) in
    come_by k o c.args.self.now c.args.self.now c.add.new.self (To c.dest.result) to c.add.ensures.only (λ m had. inl had)

pub returns-in_err-add-2-clause-only : goal.returns-in_err-add-2-clause-only
returns-in_err-add-2-clause-only c =
    let k = c.args.key in
    let o = option_copied c.args.route in
    let to : IsIndexedUnder o k (To c.dest.result) = (c.in-Some.route.now, ap option_copied c.in-Some.is, sym c.dest.ensures) in
    let by : IsIndexedUnder o k (By k.router) = (c.in-Some.route.now, ap option_copied c.in-Some.is, refl) in
    come_by k o c.args.self.now c.add.new.self c.add-2.new.self (By k.router) by c.add-2.ensures.only
    (come_by k o c.args.self.now c.args.self.now c.add.new.self (To c.dest.result) to c.add.ensures.only (λ m had. inl had))

pub returns-then-forwarding-eq0-clause-only : goal.returns-then-forwarding-eq0-clause-only
returns-then-forwarding-eq0-clause-only c =
    let k = c.args.key in
    let o = option_copied c.args.route in
    let to : IsIndexedUnder o k (To c.dest.result) = (c.in-Some.route.now, ap option_copied c.in-Some.is, sym c.dest.ensures) in
    let by : IsIndexedUnder o k (By k.router) = (c.in-Some.route.now, ap option_copied c.in-Some.is, refl) in
    come_by k o c.args.self.now c.add.new.self c.add-2.new.self (By k.router) by c.add-2.ensures.only
    (come_by k o c.args.self.now c.args.self.now c.add.new.self (To c.dest.result) to c.add.ensures.only (λ m had. inl had))

pub returns-then-forwarding-eq0-clause-listed : goal.returns-then-forwarding-eq0-clause-listed
returns-then-forwarding-eq0-clause-listed c =
    let k = c.args.key in
    let route = c.in-Some.route.now in
    let to : Contains c.add-2.new.self (To route.dest, k) = c.add-2.ensures.kept (To route.dest, k) (subst (λ d. Contains c.add.new.self (To d, k)) c.dest.ensures c.in_ok-add.ensures.added) in
    let none : 0 < route.forwarding → Contains c.add-2.new.self (Forwarded route.forwarding, k) = λ some. absurd (omega (arith, some, c.forwarding.ensures, c.if-forwarding-eq0.true)) in
    listed_in_all k (option_copied c.args.route) route (ap option_copied c.in-Some.is) c.add-2.new.self to c.in_ok-add-2.ensures.added none

pub returns-in_err-add-3-clause-kept : goal.returns-in_err-add-3-clause-kept
returns-in_err-add-3-clause-kept c = λ m there. c.add-3.ensures.kept m (c.add-2.ensures.kept m (c.add.ensures.kept m there))

pub returns-in_err-add-3-clause-only : goal.returns-in_err-add-3-clause-only
returns-in_err-add-3-clause-only c =
    let k = c.args.key in
    let o = option_copied c.args.route in
    let to : IsIndexedUnder o k (To c.dest.result) = (c.in-Some.route.now, ap option_copied c.in-Some.is, sym c.dest.ensures) in
    let by : IsIndexedUnder o k (By k.router) = (c.in-Some.route.now, ap option_copied c.in-Some.is, refl) in
    let some : 0 < c.forwarding-2.result = omega (arith, c.forwarding.ensures, c.forwarding-2.ensures, c.if-forwarding-eq0.false) in
    let forwarded : IsIndexedUnder o k (Forwarded c.forwarding-2.result) = (c.in-Some.route.now, ap option_copied c.in-Some.is, (some, sym c.forwarding-2.ensures)) in
    come_by k o c.args.self.now c.add-2.new.self c.add-3.new.self (Forwarded c.forwarding-2.result) forwarded c.add-3.ensures.only
    (come_by k o c.args.self.now c.add.new.self c.add-2.new.self (By k.router) by c.add-2.ensures.only
    (come_by k o c.args.self.now c.args.self.now c.add.new.self (To c.dest.result) to c.add.ensures.only (λ m had. inl had)))

pub returns-clause-kept : goal.returns-clause-kept
returns-clause-kept c = λ m there. c.add-3.ensures.kept m (c.add-2.ensures.kept m (c.add.ensures.kept m there))

pub returns-clause-only : goal.returns-clause-only
returns-clause-only c =
    let k = c.args.key in
    let o = option_copied c.args.route in
    let to : IsIndexedUnder o k (To c.dest.result) = (c.in-Some.route.now, ap option_copied c.in-Some.is, sym c.dest.ensures) in
    let by : IsIndexedUnder o k (By k.router) = (c.in-Some.route.now, ap option_copied c.in-Some.is, refl) in
    let some : 0 < c.forwarding-2.result = omega (arith, c.forwarding.ensures, c.forwarding-2.ensures, c.if-forwarding-eq0.false) in
    let forwarded : IsIndexedUnder o k (Forwarded c.forwarding-2.result) = (c.in-Some.route.now, ap option_copied c.in-Some.is, (some, sym c.forwarding-2.ensures)) in
    come_by k o c.args.self.now c.add-2.new.self c.add-3.new.self (Forwarded c.forwarding-2.result) forwarded c.add-3.ensures.only
    (come_by k o c.args.self.now c.add.new.self c.add-2.new.self (By k.router) by c.add-2.ensures.only
    (come_by k o c.args.self.now c.args.self.now c.add.new.self (To c.dest.result) to c.add.ensures.only (λ m had. inl had)))

pub returns-clause-listed : goal.returns-clause-listed
returns-clause-listed c =
    let k = c.args.key in
    let route = c.in-Some.route.now in
    let to : Contains c.add-3.new.self (To route.dest, k) =
    c.add-3.ensures.kept (To route.dest, k) (c.add-2.ensures.kept (To route.dest, k) (subst (λ d. Contains c.add.new.self (To d, k)) c.dest.ensures c.in_ok-add.ensures.added)) in
    let forwarded : 0 < route.forwarding → Contains c.add-3.new.self (Forwarded route.forwarding, k) =
    λ some. subst (λ n. Contains c.add-3.new.self (Forwarded n, k)) c.forwarding-2.ensures c.in_ok-add-3.ensures.added in
    listed_in_all k (option_copied c.args.route) route (ap option_copied c.in-Some.is) c.add-3.new.self to (c.add-3.ensures.kept (By k.router, k) c.in_ok-add-2.ensures.added) forwarded

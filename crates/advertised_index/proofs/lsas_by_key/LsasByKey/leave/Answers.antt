use Rattle.std.proofs.Common.{◌≡◌, ◌<◌, Some, refl, sym, ap, subst, arith}
use Rattle.std.specs.Prelude.{option_copied}
use Rattle.advertised_index.specs.AdvertisedRoute.{AdvertisedValue}
use Rattle.advertised_index.specs.declared.index_key.IndexKey.TheVariants.{To, By, Forwarded}
use Rattle.advertised_index.specs.LsasByKey.{IsIndexedUnder}
use Rattle.advertised_index.proofs.Listing.{stays_at, stays_in_each}
use Rattle.advertised_index.proofs.lsas_by_key.LsasByKey.leave.Goals as goal

pub returns-then-forwarding-eq0-clause-kept : goal.returns-then-forwarding-eq0-clause-kept
returns-then-forwarding-eq0-clause-kept c =
    let k = c.args.key in
    let o = option_copied c.args.gone in
    let stays = option_copied c.args.stays in
    let is : o ≡ Some c.in-Some.gone.now = ap option_copied c.in-Some.is in
    let to : IsIndexedUnder o k (To c.dest.result) = (c.in-Some.gone.now, is, sym c.dest.ensures) in
    let by : IsIndexedUnder o k (By k.router) = (c.in-Some.gone.now, is, refl) in
    λ m there both. c.leave_group-2.ensures.kept m (c.leave_group.ensures.kept m there (stays_at k o stays (To c.dest.result) to m both)) (stays_at k o stays (By k.router) by m both)

pub returns-then-forwarding-eq0-clause-only : goal.returns-then-forwarding-eq0-clause-only
returns-then-forwarding-eq0-clause-only c =
    let k = c.args.key in
    let stays = option_copied c.args.stays in
    let gone : AdvertisedValue = c.in-Some.gone.now in
    λ m left.
    let second = c.leave_group-2.ensures.only m left in
    let first = c.leave_group.ensures.only m second.0 in (
      first.0,
      stays_in_each k (option_copied c.args.gone) gone (ap option_copied c.in-Some.is) stays m
          (subst (λ d. m ≡ (To d, k) → IsIndexedUnder stays k (To d)) c.dest.ensures first.1) second.1
          (λ some. absurd (omega (arith, some, c.forwarding.ensures, c.if-forwarding-eq0.true))),
    )

pub returns-clause-kept : goal.returns-clause-kept
returns-clause-kept c =
    let k = c.args.key in
    let o = option_copied c.args.gone in
    let stays = option_copied c.args.stays in
    let is : o ≡ Some c.in-Some.gone.now = ap option_copied c.in-Some.is in
    let to : IsIndexedUnder o k (To c.dest.result) = (c.in-Some.gone.now, is, sym c.dest.ensures) in
    let by : IsIndexedUnder o k (By k.router) = (c.in-Some.gone.now, is, refl) in
    let some : 0 < c.forwarding-2.result = omega (arith, c.forwarding.ensures, c.forwarding-2.ensures, c.if-forwarding-eq0.false) in
    let forwarded : IsIndexedUnder o k (Forwarded c.forwarding-2.result) = (c.in-Some.gone.now, is, (some, sym c.forwarding-2.ensures)) in
    λ m there both. c.leave_group-3.ensures.kept m
    (c.leave_group-2.ensures.kept m (c.leave_group.ensures.kept m there (stays_at k o stays (To c.dest.result) to m both)) (stays_at k o stays (By k.router) by m both))
    (stays_at k o stays (Forwarded c.forwarding-2.result) forwarded m both)

pub returns-clause-only : goal.returns-clause-only
returns-clause-only c =
    let k = c.args.key in
    let stays = option_copied c.args.stays in
    let gone : AdvertisedValue = c.in-Some.gone.now in
    λ m left.
    let third = c.leave_group-3.ensures.only m left in
    let second = c.leave_group-2.ensures.only m third.0 in
    let first = c.leave_group.ensures.only m second.0 in (
      first.0,
      stays_in_each k (option_copied c.args.gone) gone (ap option_copied c.in-Some.is) stays m
          (subst (λ d. m ≡ (To d, k) → IsIndexedUnder stays k (To d)) c.dest.ensures first.1) second.1
          (λ some. subst (λ n. m ≡ (Forwarded n, k) → IsIndexedUnder stays k (Forwarded n)) c.forwarding-2.ensures third.1),
    )

use Rattle.std.proofs.Common.{◌∙◌, sym, ap, subst}
use Rattle.std.specs.Ordering.{eq_by_cmp, nat_cmp}
use Rattle.advertised_index.specs.declared.index_key.IndexKey.TheVariants.{To, Forwarded}
use Rattle.advertised_index.specs.declared.known_keys.KnownKeys.{KnownKeys}
use Rattle.advertised_index.specs.KnownKeys.{IsNoted}
use Rattle.route_choice.proofs.DestOrder.{dests_equal}
use Rattle.advertised_index.proofs.NotedGroups.{kept_each, left_each}
use Rattle.advertised_index.proofs.Sets.{dests_exact, dests_laws, numbers_exact, numbers_laws, taken_gone, taken_only, taken_kept}
use Rattle.advertised_index.proofs.known_keys.KnownKeys.forget.Goals as goal

pub returns-in-To-clause-gone : goal.returns-in-To-clause-gone
returns-in-To-clause-gone c = λ there.
    let old = c.args.self.now in
    let new : KnownKeys = record { dests = c.swap_remove.new.self; addresses = old.addresses } in
    taken_gone dests_equal dests_exact dests_laws old.dests.keys new.dests.keys c.in-To.dest c.swap_remove.ensures.updates.0 (subst (λ g. IsNoted new g) c.in-To.is there)

pub returns-in-To-clause-only : goal.returns-in-To-clause-only
returns-in-To-clause-only c =
    let old = c.args.self.now in
    let new : KnownKeys = record { dests = c.swap_remove.new.self; addresses = old.addresses } in
    kept_each new old (taken_only dests_equal dests_exact dests_laws old.dests.keys new.dests.keys c.in-To.dest c.swap_remove.ensures.updates.0) (λ a there. there)

pub returns-in-To-clause-kept : goal.returns-in-To-clause-kept
returns-in-To-clause-kept c =
    let old = c.args.self.now in
    let new : KnownKeys = record { dests = c.swap_remove.new.self; addresses = old.addresses } in
    left_each old new c.args.group.now
    (λ d there other. taken_kept dests_equal dests_exact dests_laws old.dests.keys new.dests.keys c.in-To.dest c.swap_remove.ensures.updates.0 d there (λ is. other (ap To is ∙ sym c.in-To.is)))
    (λ a there other. there)

pub returns-in-Forwarded-clause-gone : goal.returns-in-Forwarded-clause-gone
returns-in-Forwarded-clause-gone c = λ there.
    let old = c.args.self.now in
    let new : KnownKeys = record { dests = old.dests; addresses = c.remove.new.self } in
    taken_gone (eq_by_cmp nat_cmp) numbers_exact numbers_laws old.addresses.keys new.addresses.keys c.in-Forwarded.address c.remove.ensures.updates.0 (subst (λ g. IsNoted new g) c.in-Forwarded.is there)

pub returns-in-Forwarded-clause-only : goal.returns-in-Forwarded-clause-only
returns-in-Forwarded-clause-only c =
    let old = c.args.self.now in
    let new : KnownKeys = record { dests = old.dests; addresses = c.remove.new.self } in
    kept_each new old (λ d there. there) (taken_only (eq_by_cmp nat_cmp) numbers_exact numbers_laws old.addresses.keys new.addresses.keys c.in-Forwarded.address c.remove.ensures.updates.0)

pub returns-in-Forwarded-clause-kept : goal.returns-in-Forwarded-clause-kept
returns-in-Forwarded-clause-kept c =
    let old = c.args.self.now in
    let new : KnownKeys = record { dests = old.dests; addresses = c.remove.new.self } in
    left_each old new c.args.group.now (λ d there other. there)
    (λ a there other. taken_kept (eq_by_cmp nat_cmp) numbers_exact numbers_laws old.addresses.keys new.addresses.keys c.in-Forwarded.address c.remove.ensures.updates.0 a there (λ is. other (ap Forwarded is ∙ sym c.in-Forwarded.is)))

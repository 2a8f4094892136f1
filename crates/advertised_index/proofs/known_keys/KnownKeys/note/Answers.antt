use Rattle.std.proofs.Common.{◌∙◌, sym, ap, subst, inl, inr}
use Rattle.std.specs.Ordering.{eq_by_cmp, nat_cmp}
use Rattle.advertised_index.specs.declared.index_key.IndexKey.TheVariants.{To, Forwarded}
use Rattle.advertised_index.specs.declared.known_keys.KnownKeys.{KnownKeys}
use Rattle.advertised_index.specs.KnownKeys.{IsNoted}
use Rattle.route_choice.proofs.DestOrder.{dests_equal}
use Rattle.advertised_index.proofs.NotedGroups.{kept_each, only_each}
use Rattle.advertised_index.proofs.Sets.{dests_exact, dests_laws, numbers_exact, numbers_laws, put_kept, put_only, put_there}
use Rattle.advertised_index.proofs.known_keys.KnownKeys.note.Goals as goal

pub returns-in_ok-insert-in-To-clause-kept : goal.returns-in_ok-insert-in-To-clause-kept
returns-in_ok-insert-in-To-clause-kept c =
    let old = c.args.self.now in
    let new : KnownKeys = record { dests = c.insert.new.self; addresses = old.addresses } in
    kept_each old new (put_kept dests_equal dests_exact dests_laws old.dests.keys new.dests.keys c.in-To.dest c.in_ok-insert-in-To.ensures.updates.0) (λ a there. there)

pub returns-in_ok-insert-in-To-clause-only : goal.returns-in_ok-insert-in-To-clause-only
returns-in_ok-insert-in-To-clause-only c =
    let old = c.args.self.now in
    let new : KnownKeys = record { dests = c.insert.new.self; addresses = old.addresses } in
    only_each old new c.args.group.now
    (λ d there. elim (put_only dests_equal dests_exact dests_laws old.dests.keys new.dests.keys c.in-To.dest c.in_ok-insert-in-To.ensures.updates.0 d there) [ inl was ↦ inl was | inr is ↦ inr (ap To is ∙ sym c.in-To.is) ])
    (λ a there. inl there)

pub returns-in_ok-insert-in-To-clause-noted : goal.returns-in_ok-insert-in-To-clause-noted
returns-in_ok-insert-in-To-clause-noted c = λ _.
    let old = c.args.self.now in
    let new : KnownKeys = record { dests = c.insert.new.self; addresses = old.addresses } in
    subst (λ g. IsNoted new g) (sym c.in-To.is) (put_there dests_equal dests_exact dests_laws old.dests.keys new.dests.keys c.in-To.dest c.in_ok-insert-in-To.ensures.updates.0)

pub returns-in_ok-insert-in-Forwarded-clause-kept : goal.returns-in_ok-insert-in-Forwarded-clause-kept
returns-in_ok-insert-in-Forwarded-clause-kept c =
    let old = c.args.self.now in
    let new : KnownKeys = record { dests = old.dests; addresses = c.insert-in-Forwarded.new.self } in
    kept_each old new (λ d there. there) (put_kept (eq_by_cmp nat_cmp) numbers_exact numbers_laws old.addresses.keys new.addresses.keys c.in-Forwarded.address c.in_ok-insert-in-Forwarded.ensures.updates.0)

pub returns-in_ok-insert-in-Forwarded-clause-only : goal.returns-in_ok-insert-in-Forwarded-clause-only
returns-in_ok-insert-in-Forwarded-clause-only c =
    let old = c.args.self.now in
    let new : KnownKeys = record { dests = old.dests; addresses = c.insert-in-Forwarded.new.self } in
    only_each old new c.args.group.now (λ d there. inl there)
    (λ a there. elim (put_only (eq_by_cmp nat_cmp) numbers_exact numbers_laws old.addresses.keys new.addresses.keys c.in-Forwarded.address c.in_ok-insert-in-Forwarded.ensures.updates.0 a there) [ inl was ↦ inl was | inr is ↦ inr (ap Forwarded is ∙ sym c.in-Forwarded.is) ])

pub returns-in_ok-insert-in-Forwarded-clause-noted : goal.returns-in_ok-insert-in-Forwarded-clause-noted
returns-in_ok-insert-in-Forwarded-clause-noted c = λ _.
    let old = c.args.self.now in
    let new : KnownKeys = record { dests = old.dests; addresses = c.insert-in-Forwarded.new.self } in
    subst (λ g. IsNoted new g) (sym c.in-Forwarded.is) (put_there (eq_by_cmp nat_cmp) numbers_exact numbers_laws old.addresses.keys new.addresses.keys c.in-Forwarded.address c.in_ok-insert-in-Forwarded.ensures.updates.0)

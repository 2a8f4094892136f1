use Rattle.std.proofs.Common.{not, true, subst, ap, ◌∙◌}
use Rattle.std.specs.BTreeSet.{contains, Updates}
use Rattle.event_state.specs.contracts.base_checks.ScopedKeyOrd.TheImpl as scoped_order
use Rattle.event_state.specs.declared.base_checks.ScopedKey.{ScopedKey}
use Rattle.event_state.specs.Ascending.{scoped_key}
use Rattle.event_state.specs.BaseFaults.{is_same_place}
use Rattle.event_state.proofs.Doubles.{place_is, seen_first, seen_next, seen_twice, seen_all}
use Rattle.event_state.proofs.base_checks.has_doubled_lsa.Goals as goal

pub loop-scope-init : goal.loop-scope-init
loop-scope-init c = seen_first scoped_order.ghosts.cmp scoped_key is_same_place place_is c.args.lsas.now c.new-places.result c.new-places.ensures.empty

pub loop-scope-preserved : goal.loop-scope-preserved
loop-scope-preserved c =
    let x = c.loop-scope-item.result in
    let added = c.in_ok-insert.ensures.added ∙ ap (λ (k : ScopedKey). not (contains scoped_order.ghosts.cmp c.loop-scope.places k)) c.of.ensures in
    let updates = subst (λ (k : ScopedKey). Updates scoped_order.ghosts.cmp c.loop-scope.places c.insert.new.self k true) c.of.ensures c.in_ok-insert.ensures.updates in
    seen_next scoped_order.ghosts.cmp scoped_key is_same_place place_is c.args.lsas.now c.loop-scope.scope-index x c.loop-scope.places c.insert.new.self c.in_ok-insert.field-0 c.loop-scope-test.true c.loop-scope-item.is c.loop-scope.invariant
    added updates c.if-not-branch.false

pub returns-then-not-branch : goal.returns-then-not-branch
returns-then-not-branch c =
    let x = c.loop-scope-item.result in
    let added = c.in_ok-insert.ensures.added ∙ ap (λ (k : ScopedKey). not (contains scoped_order.ghosts.cmp c.loop-scope.places k)) c.of.ensures in
    seen_twice scoped_order.ghosts.cmp scoped_key is_same_place place_is c.args.lsas.now c.loop-scope.scope-index x c.loop-scope.places c.insert.new.self c.in_ok-insert.field-0 c.loop-scope-test.true c.loop-scope-item.is c.loop-scope.invariant
    added c.if-not-branch.true

pub returns : goal.returns
returns c = seen_all scoped_order.ghosts.cmp scoped_key is_same_place place_is c.args.lsas.now c.loop-scope.scope-index c.loop-scope.places c.loop-scope-test.false c.loop-scope.invariant

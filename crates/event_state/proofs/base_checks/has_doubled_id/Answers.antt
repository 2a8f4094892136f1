use Rattle.std.proofs.Common.{◌≤◌, ℕ, false, length, get_or, arith}
use Rattle.std.proofs.lemmas.List.{get_or_default}
use Rattle.std.specs.Ordering.{nat_cmp}
use Rattle.ospf_types.specs.declared.config.Interface.{Interface}
use Rattle.event_state.specs.BaseFaults.{is_same_id}
use Rattle.event_state.proofs.Doubles.{id_is, seen_first, seen_next, seen_twice, seen_all}
use Rattle.event_state.proofs.base_checks.has_doubled_id.Goals as goal

abbrev none : ℕ × Interface
none = (0, record { area = 0; address = 0; peer = 0; up = false })

pub loop-id-init : goal.loop-id-init
loop-id-init c = seen_first nat_cmp (λ (x : ℕ × Interface). x.0) is_same_id id_is c.args.interfaces.now c.new-ids.result c.new-ids.ensures.empty

pub loop-id-preserved : goal.loop-id-preserved
loop-id-preserved c =
    let xs = c.args.interfaces.now in
    let i = c.loop-id.id-index in
    let x = get_or xs i none in
    let added = c.in_ok-insert.ensures.added in
    seen_next nat_cmp (λ (x : ℕ × Interface). x.0) is_same_id id_is xs i x c.loop-id.ids c.insert.new.self c.in_ok-insert.field-0 c.loop-id-test.true (get_or_default xs i none x c.loop-id-test.true) c.loop-id.invariant added
    c.in_ok-insert.ensures.updates c.if-not-branch.false

pub returns-then-not-branch : goal.returns-then-not-branch
returns-then-not-branch c =
    let xs = c.args.interfaces.now in
    let i = c.loop-id.id-index in
    let x = get_or xs i none in
    seen_twice nat_cmp (λ (x : ℕ × Interface). x.0) is_same_id id_is xs i x c.loop-id.ids c.insert.new.self c.in_ok-insert.field-0 c.loop-id-test.true (get_or_default xs i none x c.loop-id-test.true) c.loop-id.invariant
    c.in_ok-insert.ensures.added c.if-not-branch.true

pub returns : goal.returns
returns c =
    let past : length c.args.interfaces.now ≤ c.loop-id.id-index = omega (arith, c.loop-id-test.false) in
    seen_all nat_cmp (λ (x : ℕ × Interface). x.0) is_same_id id_is c.args.interfaces.now c.loop-id.id-index c.loop-id.ids past c.loop-id.invariant

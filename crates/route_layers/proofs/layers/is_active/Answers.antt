use Rattle.std.proofs.Common.{ℕ, List, refl}
use Rattle.std.specs.FinMap.{entries}
use Rattle.ospf_types.specs.declared.config.Interface.{Interface}
use Rattle.route_layers.proofs.Examining.{one_left, one_up, last_left, left_up}
use Rattle.route_layers.proofs.layers.is_active.Goals as goal

pub returns-then-is_up_in : goal.returns-then-is_up_in
returns-then-is_up_in c =
    let all : List (ℕ × Interface) = entries c.args.state.now.interfaces in
    let e : ℕ × Interface = (c.in-Some.field-0-0.now, c.in-Some.interface.now) in
    let counts = c.is_up_in.ensures.0 c.if-is_up_in.true in
    let w = one_up all c.loop-interface.left c.next.new.self e c.args.area c.in-Some.ensures.steps c.loop-interface.invariant counts.0 counts.1 in
    (λ t. w, λ u. refl)

pub returns-then-is_last_up_in : goal.returns-then-is_last_up_in
returns-then-is_last_up_in c =
    let all : List (ℕ × Interface) = entries c.args.state.now.interfaces in
    let e : ℕ × Interface = (c.in-Some.field-0-0.now, c.in-Some.interface.now) in
    let before = one_left all c.loop-interface.left c.next.new.self e c.args.area c.in-Some.ensures.steps c.loop-interface.invariant
    (λ here up. let t = c.is_up_in.ensures.1 (here, up) in let f = c.if-is_up_in.false in absurd cc) in
    let w = left_up all c.next.new.self c.args.area before (c.is_last_up_in.ensures.up c.if-is_last_up_in.true) in
    (λ t. w, λ u. refl)

pub loop-interface-preserved : goal.loop-interface-preserved
loop-interface-preserved c =
    let all : List (ℕ × Interface) = entries c.args.state.now.interfaces in
    let e : ℕ × Interface = (c.in-Some.field-0-0.now, c.in-Some.interface.now) in
    let before = one_left all c.loop-interface.left c.next.new.self e c.args.area c.in-Some.ensures.steps c.loop-interface.invariant
    (λ here up. let t = c.is_up_in.ensures.1 (here, up) in let f = c.if-is_up_in.false in absurd cc) in
    last_left all c.next.new.self c.is_last_up_in.new.left c.args.area before c.is_last_up_in.ensures.among (c.is_last_up_in.ensures.rest c.if-is_last_up_in.false)

use Rattle.std.proofs.Common.{ℕ, List, sym, subst}
use Rattle.std.specs.FinMap.{entries}
use Rattle.ospf_types.specs.declared.config.Interface.{Interface}
use Rattle.vertex_graph.specs.Up.{Up}
use Rattle.route_layers.proofs.Ups.{AreTaken, one_taken, one_skipped, all_taken}
use Rattle.route_layers.proofs.inputs.ups.Goals as goal

pub loop-id-preserved-in-Continue-1 : goal.loop-id-preserved-in-Continue-1
loop-id-preserved-in-Continue-1 c =
    let all : List (ℕ × Interface) = entries c.args.state.now.interfaces in
    let e : ℕ × Interface = (c.in-Some.id.now, c.in-Some.interface.now) in
    let counts = c.is_up_in.ensures.0 c.if-is_up_in.true in
    subst (λ (list : List Up). AreTaken c.args.area all list c.next.new.self) (sym c.in_ok-push.ensures.items)
    (one_taken c.args.area all c.loop-id.ups.items c.loop-id.id-iterator c.next.new.self e c.in-Some.ensures.steps c.loop-id.invariant counts.0 counts.1)

pub loop-id-preserved : goal.loop-id-preserved
loop-id-preserved c =
    let all : List (ℕ × Interface) = entries c.args.state.now.interfaces in
    let e : ℕ × Interface = (c.in-Some.id.now, c.in-Some.interface.now) in
    one_skipped c.args.area all c.loop-id.ups.items c.loop-id.id-iterator c.next.new.self e c.in-Some.ensures.steps c.loop-id.invariant (λ here up. let t = c.is_up_in.ensures.1 (here, up) in let f = c.if-is_up_in.false in absurd cc)

pub returns : goal.returns
returns c = all_taken c.args.area (entries c.args.state.now.interfaces) c.loop-id.ups.items c.loop-id.id-iterator c.in-None.ensures.steps.0 c.loop-id.invariant

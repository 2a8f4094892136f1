use Rattle.std.proofs.Common.{◌≡◌, sym, ap, subst, ◌∙◌}
use Rattle.std.proofs.lemmas.Result.{on_ok_weaker}
use Rattle.ospf_types.specs.declared.config.Config.{Config}
use Rattle.intra.specs.Inputs.{InputsValue, AreReady}
use Rattle.intra.specs.Right.{AreInputsOf}
use Rattle.intra.specs.Changes.{InputsDifferAmong}
use Rattle.event_state.specs.States.{inputs_of}
use Rattle.route_layers.specs.Trees.{inputs_with}
use Rattle.route_layers.proofs.InputsAre.{ready_of, inputs_are, inputs_made}
use Rattle.route_layers.proofs.Turns.{trees_long}
use Rattle.calculation.proofs.calculation.follow_intra.Goals as goal

pub area_inputs-requires : goal.area_inputs-requires
area_inputs-requires c = trees_long c.args.state.now c.args.state.now.config.areas c.args.trees.now c.requires.trees

pub update-requires-clause-ready : goal.update-requires-clause-ready
update-requires-clause-ready c =
    let v : InputsValue = record { root = c.config.result.now.router; areas = c.deref.result.now; interfaces = c.interfaces.result } in
    let is : v ≡ inputs_with c.args.state.now c.args.trees.now =
    inputs_made c.args.state.now c.args.trees.now v (ap (λ (k : Config). k.router) c.config.ensures.value) (c.deref.ensures.value ∙ c.in_ok-areas.ensures) c.interfaces.ensures in
    subst AreReady (sym is) (ready_of c.args.state.now c.args.trees.now c.requires.trees)

pub update-requires-clause-before : goal.update-requires-clause-before
update-requires-clause-before c =
    let v : InputsValue = record { root = c.config.result.now.router; areas = c.deref.result.now; interfaces = c.interfaces.result } in
    let is : v ≡ inputs_with c.args.state.now c.args.trees.now =
    inputs_made c.args.state.now c.args.trees.now v (ap (λ (k : Config). k.router) c.config.ensures.value) (c.deref.ensures.value ∙ c.in_ok-areas.ensures) c.interfaces.ensures in
    let b = c.requires.before in
    (b.0, b.1, subst (InputsDifferAmong c.args.dirty.now.keys.items c.args.dirty.now.vertices.items c.args.dirty.now.interfaces.items b.0) (sym is) b.2)

pub returns-clause-routed : goal.returns-clause-routed
returns-clause-routed c =
    let v : InputsValue = record { root = c.config.result.now.router; areas = c.deref.result.now; interfaces = c.interfaces.result } in
    let is : v ≡ inputs_with c.args.state.now c.args.trees.now =
    inputs_made c.args.state.now c.args.trees.now v (ap (λ (k : Config). k.router) c.config.ensures.value) (c.deref.ensures.value ∙ c.in_ok-areas.ensures) c.interfaces.ensures in
    on_ok_weaker c.update.result (λ right. right (inputs_of c.args.state.now) (subst (AreInputsOf (inputs_of c.args.state.now)) (sym is) (inputs_are c.args.state.now c.args.trees.now (c.config.ensures.fit c.requires.apart) c.requires.trees))) c.update.ensures.right

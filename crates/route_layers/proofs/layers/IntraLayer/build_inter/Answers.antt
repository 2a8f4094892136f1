use Rattle.std.proofs.Common.{◌≡◌, sym, ap, subst}
use Rattle.std.proofs.lemmas.Result.{IfOk-weaker}
use Rattle.ospf_types.specs.declared.config.Config.{Config}
use Rattle.inter.specs.Inputs.{InterInputsValue}
use Rattle.inter.specs.Right.{AreInputsOf}
use Rattle.event_state.specs.States.{inputs_of}
use Rattle.route_layers.specs.Layers.{inter_inputs}
use Rattle.route_layers.proofs.Above.{inter_made, inter_are}
use Rattle.route_layers.proofs.layers.IntraLayer.build_inter.Goals as goal

pub returns-clause-right : goal.returns-clause-right
returns-clause-right c =
    let v : InterInputsValue = record { root = c.config.result.now.router; examined = c.examined.result; intra = c.args.self.intra.now; active = c.args.self.active.now } in
    let is : v ≡ inter_inputs c.args.self.state.now c.examined.result c.args.self.intra.now c.args.self.active.now =
    inter_made c.args.self.state.now c.examined.result c.args.self.intra.now c.args.self.active.now c.config.result.now.router (ap (λ (k : Config). k.router) c.config.ensures.value) in
    IfOk-weaker c.build.result _ _ (λ inter right. right (inputs_of c.args.self.state.now) (subst (AreInputsOf (inputs_of c.args.self.state.now)) (sym is) (inter_are c.args.self.state.now c.requires.fit c.args.self.intra.now c.args.self.active.now c.requires.routed c.requires.ranged c.examined.result c.examined.ensures))) c.build.ensures.right

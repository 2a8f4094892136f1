use Rattle.std.proofs.Common.{◌≡◌, sym, ap, subst, ◌∙◌}
use Rattle.std.proofs.lemmas.Result.{IfOk-weaker}
use Rattle.ospf_types.specs.declared.config.Config.{Config}
use Rattle.external.specs.Inputs.{ExternalInputsValue}
use Rattle.external.specs.Right.{AreInputsOf}
use Rattle.event_state.specs.States.{inputs_of}
use Rattle.route_layers.specs.Layers.{external_inputs}
use Rattle.route_layers.proofs.Above.{external_made, external_are}
use Rattle.route_layers.proofs.layers.IntraLayer.build_external.Goals as goal

pub returns-clause-right : goal.returns-clause-right
returns-clause-right c =
    let v : ExternalInputsValue = record { root = c.config-config.result.now.router; compat = c.config-config.result.now.compat; areas = c.deref.result.now; lsas = c.externals.result.now.lsas; intra = c.args.self.intra.now; active = c.args.self.active.now; inter = c.args.inter.now } in
    let is : v ≡ external_inputs c.args.self.state.now c.args.self.intra.now c.args.self.active.now c.args.inter.now =
    external_made c.args.self.state.now c.args.self.intra.now c.args.self.active.now c.args.inter.now c.config-config.result.now.router c.config-config.result.now.compat c.deref.result.now c.externals.result.now.lsas
    (ap (λ (k : Config). k.router) c.config-config.ensures.value) (ap (λ (k : Config). k.compat) c.config-config.ensures.value) (c.deref.ensures ∙ c.in_ok-areas.ensures) c.externals.ensures in
    IfOk-weaker c.build.result _ _ (λ external right. right (inputs_of c.args.self.state.now) (subst (AreInputsOf (inputs_of c.args.self.state.now)) (sym is) (external_are c.args.self.state.now c.requires.fit c.args.self.intra.now c.args.self.active.now c.requires.routed c.requires.ranged c.args.inter.now c.requires.between))) c.build.ensures.right

use Rattle.std.proofs.Common.{◌≡◌, sym, ap, subst, ◌∙◌}
use Rattle.std.proofs.lemmas.Result.{on_ok_weaker}
use Rattle.ospf_types.specs.declared.config.Config.{Config}
use Rattle.external.specs.Changes.{InputsDifferAmong}
use Rattle.external.specs.Inputs.{ExternalInputsValue}
use Rattle.external.specs.Right.{AreInputsOf}
use Rattle.event_state.specs.States.{inputs_of}
use Rattle.route_layers.specs.Layers.{external_inputs}
use Rattle.route_layers.proofs.Above.{external_made, external_are}
use Rattle.route_layers.proofs.layers.IntraLayer.follow_external.Goals as goal

pub update-requires : goal.update-requires
update-requires c =
    let v : ExternalInputsValue = record { root = c.config-config.result.now.router; compat = c.config-config.result.now.compat; areas = c.deref.result.now; lsas = c.externals.result.now.lsas; intra = c.args.self.intra.now; active = c.args.self.active.now; inter = c.args.inter.now } in
    let is : v ≡ external_inputs c.args.self.state.now c.args.self.intra.now c.args.self.active.now c.args.inter.now =
    external_made c.args.self.state.now c.args.self.intra.now c.args.self.active.now c.args.inter.now c.config-config.result.now.router c.config-config.result.now.compat c.deref.result.now c.externals.result.now.lsas
    (ap (λ (k : Config). k.router) c.config-config.ensures.value) (ap (λ (k : Config). k.compat) c.config-config.ensures.value) (c.deref.ensures ∙ c.in_ok-areas.ensures) c.externals.ensures in
    let b = c.requires.before in
    record { before = (b.0, b.1, subst (InputsDifferAmong c.args.dirty.now.keys.items c.args.dirty.now.dests.items b.0) (sym is) b.2) }

pub returns-clause-right : goal.returns-clause-right
returns-clause-right c =
    let v : ExternalInputsValue = record { root = c.config-config.result.now.router; compat = c.config-config.result.now.compat; areas = c.deref.result.now; lsas = c.externals.result.now.lsas; intra = c.args.self.intra.now; active = c.args.self.active.now; inter = c.args.inter.now } in
    let is : v ≡ external_inputs c.args.self.state.now c.args.self.intra.now c.args.self.active.now c.args.inter.now =
    external_made c.args.self.state.now c.args.self.intra.now c.args.self.active.now c.args.inter.now c.config-config.result.now.router c.config-config.result.now.compat c.deref.result.now c.externals.result.now.lsas
    (ap (λ (k : Config). k.router) c.config-config.ensures.value) (ap (λ (k : Config). k.compat) c.config-config.ensures.value) (c.deref.ensures ∙ c.in_ok-areas.ensures) c.externals.ensures in
    on_ok_weaker c.update.result (λ right. right (inputs_of c.args.self.state.now) (subst (AreInputsOf (inputs_of c.args.self.state.now)) (sym is) (external_are c.args.self.state.now c.requires.fit c.args.self.intra.now c.args.self.active.now c.requires.routed c.requires.ranged c.args.inter.now c.requires.between))) c.update.ensures.right

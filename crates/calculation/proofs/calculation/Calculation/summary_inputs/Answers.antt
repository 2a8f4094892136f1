use Rattle.std.proofs.Common.{◌≡◌, ap, ◌∙◌}
use Rattle.ospf_types.specs.declared.config.Config.{Config}
use Rattle.calculation.proofs.calculation.Calculation.summary_inputs.Goals as goal

pub returns : goal.returns
returns c =
    let listed : c.as_slice.result.now ≡ c.args.state.now.config.areas = c.as_slice.ensures ∙ ap (λ (k : Config). k.areas) c.config.ensures.value in
    let v = c.self.view_is in
    λ i. record { areas = listed i; active = c.args.active.now; intra = (v i).intra; ranges = (v i).active; inter = (v i).inter; external = (v i).external }

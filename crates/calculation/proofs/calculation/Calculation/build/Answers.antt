use Rattle.std.proofs.Common.{◌≡◌, List, sym, ap, subst, ◌∙◌}
use Rattle.ospf_types.specs.declared.config.AreaConfig.{AreaConfig}
use Rattle.ospf_types.specs.declared.config.Config.{Config}
use Rattle.area_trees.specs.Areas.{AreaTreeValue}
use Rattle.intra.specs.Intras.{IsIntraOf}
use Rattle.active_ranges.specs.Active.{AreRangesOf}
use Rattle.active_ranges.specs.Right.{AreConfigured}
use Rattle.event_state.specs.States.{inputs_of}
use Rattle.route_layers.specs.Trees.{inputs_with}
use Rattle.route_layers.proofs.Above.{configured}
use Rattle.calculation.proofs.calculation.Calculation.build.Goals as goal

pub build_inter-requires-clause-ranged : goal.build_inter-requires-clause-ranged
build_inter-requires-clause-ranged c =
    let s = c.args.state.now in
    let listed : c.as_slice.result.now ≡ s.config.areas = c.as_slice.ensures ∙ ap (λ (k : Config). k.areas) c.config.ensures.value in
    c.in_ok-active.ensures.right (inputs_of s) (subst (λ (areas : List AreaConfig). AreConfigured (inputs_of s).areas areas) (sym listed) (configured s s.config.areas)) c.in_ok-intra.ensures.routed

pub build_external-requires-clause-ranged : goal.build_external-requires-clause-ranged
build_external-requires-clause-ranged c =
    let s = c.args.state.now in
    let listed : c.as_slice.result.now ≡ s.config.areas = c.as_slice.ensures ∙ ap (λ (k : Config). k.areas) c.config.ensures.value in
    c.in_ok-active.ensures.right (inputs_of s) (subst (λ (areas : List AreaConfig). AreConfigured (inputs_of s).areas areas) (sym listed) (configured s s.config.areas)) c.in_ok-intra.ensures.routed

pub returns-clause-right : goal.returns-clause-right
returns-clause-right c =
    let s = c.args.state.now in
    let listed : c.as_slice.result.now ≡ s.config.areas = c.as_slice.ensures ∙ ap (λ (k : Config). k.areas) c.config.ensures.value in
    let inter = c.in_ok-inter.ensures.kept in
    record {
      fit = c.in_ok-intra.ensures.fit;
      trees = c.in_ok-trees.ensures.right;
      intra = subst (λ (trees : List AreaTreeValue). IsIntraOf (inputs_with s trees) c.in_ok-intra.intra) c.deref.ensures.value c.in_ok-intra.ensures.kept;
      routed = c.in_ok-intra.ensures.routed;
      active = subst (λ (areas : List AreaConfig). AreRangesOf areas c.in_ok-intra.intra.entries c.in_ok-active.active) listed c.in_ok-active.ensures.kept;
      ranged = c.in_ok-active.ensures.right (inputs_of s) (subst (λ (areas : List AreaConfig). AreConfigured (inputs_of s).areas areas) (sym listed) (configured s s.config.areas)) c.in_ok-intra.ensures.routed;
      examined = inter.0;
      examined_is = inter.1;
      inter = inter.2;
      between = c.in_ok-inter.ensures.right;
      external = c.in_ok-external.ensures.kept;
      outside = c.in_ok-external.ensures.right;
    }

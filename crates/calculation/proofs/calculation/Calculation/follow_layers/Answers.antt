use Rattle.std.proofs.Common.{◌≡◌, ◌++◌, List, map, sym, ap, subst, ◌∙◌}
use Rattle.std.specs.Prelude.{◌↔◌}
use Rattle.std.specs.List.{Contains}
use Rattle.ospf_types.specs.declared.config.AreaConfig.{AreaConfig}
use Rattle.ospf_types.specs.declared.config.Config.{Config}
use Rattle.ospf_types.specs.declared.key.Dest.{Dest}
use Rattle.ospf_types.specs.declared.key.Dest.TheVariants.{Net}
use Rattle.ospf_types.specs.declared.prefix.Prefix.{Prefix}
use Rattle.area_trees.specs.Areas.{AreaTreeValue}
use Rattle.intra.specs.Intras.{IsIntraOf}
use Rattle.active_ranges.specs.Active.{AreRangesOf, EntriesDifferAmong, IsRangeNamed, RangesDifferAt}
use Rattle.active_ranges.specs.Right.{AreConfigured}
use Rattle.active_ranges.specs.declared.member.RangeMember.{RangeMember}
use Rattle.event_state.specs.States.{inputs_of}
use Rattle.calculation.specs.Calculations.{CalculationValue, AreItemsKept}
use Rattle.route_layers.specs.Trees.{AreTreesOf, inputs_with}
use Rattle.calculation.specs.Summaries.{RoutesDifferAmong}
use Rattle.calculation.specs.Followed.{AreLayersOutOfDateBy, routers_in}
use Rattle.ospf_types.proofs.RangeChanges.{areas_kept}
use Rattle.route_layers.proofs.OtherRanges.{apart_kept}
use Rattle.route_layers.proofs.Above.{configured}
use Rattle.calculation.proofs.Following.{range_before, ranges_before, inter_before, external_before, items_kept, range_named, routes_kept}
use Rattle.calculation.proofs.calculation.Calculation.follow_layers.Goals as goal

pub follow_range-requires : goal.follow_range-requires
follow_range-requires c =
    let s = c.args.state.now in
    let k : CalculationValue = record { trees = c.self.inside.trees.items; intra = c.self.inside.intra; active = c.self.inside.active; inter = c.self.inside.inter; external = c.self.inside.external } in
    let b : AreLayersOutOfDateBy s c.args.dirty.now c.args.range k = subst (AreLayersOutOfDateBy s c.args.dirty.now c.args.range) (sym c.self.view_is) c.requires.before in
    let listed : c.as_slice-areas.result.now ≡ s.config.areas = c.as_slice-areas.ensures ∙ ap (λ (x : Config). x.areas) c.config.ensures.value in
    let before = range_before b.0 s c.args.dirty.now.keys.items c.args.dirty.now.interfaces.items c.args.range b.3 b.5 (record k { trees = b.1 }) b.2 in
    record {
      before = (
        before.0,
        before.1,
        subst (λ (areas : List AreaConfig). RangesDifferAt c.args.range before.0 areas) (sym listed) before.2,
        λ none. listed ∙ before.3 none,
      );
    }

pub follow_intra-requires-clause-apart : goal.follow_intra-requires-clause-apart
follow_intra-requires-clause-apart c =
    let b = c.requires.before in
    apart_kept b.0.config.areas c.args.state.now.config.areas (sym (areas_kept c.args.state.now.config b.0.config b.3.areas)) b.2.fit.apart

pub update-requires : goal.update-requires
update-requires c =
    let s = c.args.state.now in
    let k : CalculationValue = record { trees = c.self.inside.trees.items; intra = c.self.inside.intra; active = c.self.inside.active; inter = c.self.inside.inter; external = c.self.inside.external } in
    let b : AreLayersOutOfDateBy s c.args.dirty.now c.args.range k = subst (AreLayersOutOfDateBy s c.args.dirty.now c.args.range) (sym c.self.view_is) c.requires.before in
    let grown : AreTreesOf s s.config.areas k.trees = subst (λ (v : CalculationValue). AreTreesOf s s.config.areas v.trees) (sym c.self.view_is) c.requires.trees in
    let old : CalculationValue = record k { trees = b.1 } in
    let intra = c.follow_intra.new.intra in
    let kept : IsIntraOf (inputs_with s k.trees) intra = subst (λ (trees : List AreaTreeValue). IsIntraOf (inputs_with s trees) intra) c.deref.ensures.value c.in_ok-dests.ensures.kept in
    let dests : List Dest = c.in_ok-dests.dests.items in
    let listed : c.as_slice-areas.result.now ≡ s.config.areas = c.as_slice-areas.ensures ∙ ap (λ (x : Config). x.areas) c.config.ensures.value in
    let mid = c.follow_range.new.active in
    let mid_are : AreRangesOf s.config.areas old.intra.entries mid = subst (λ (areas : List AreaConfig). AreRangesOf areas old.intra.entries mid) listed c.in_ok-within.ensures.kept in
    let before = ranges_before b.0 s c.args.dirty.now.keys.items c.args.dirty.now.interfaces.items c.args.range b.3 b.5 old b.2 k.trees grown intra kept dests c.in_ok-dests.ensures.exact mid mid_are in
    record {
      before = (
        before.0,
        subst (λ (areas : List AreaConfig). AreRangesOf areas before.0 mid) (sym listed) before.1,
        subst (λ (ds : List Dest). EntriesDifferAmong ds before.0 intra.entries) (sym c.deref-2.ensures.value) before.2,
      );
    }

pub follow_inter-requires-clause-ranged : goal.follow_inter-requires-clause-ranged
follow_inter-requires-clause-ranged c =
    let s = c.args.state.now in
    let listed : c.as_slice-areas.result.now ≡ s.config.areas = c.as_slice-areas.ensures ∙ ap (λ (x : Config). x.areas) c.config.ensures.value in
    c.in_ok-ranges.ensures.right (inputs_of s) (subst (λ (areas : List AreaConfig). AreConfigured (inputs_of s).areas areas) (sym listed) (configured s s.config.areas)) c.in_ok-dests.ensures.routed

pub follow_inter-requires-clause-before : goal.follow_inter-requires-clause-before
follow_inter-requires-clause-before c =
    let s = c.args.state.now in
    let k : CalculationValue = record { trees = c.self.inside.trees.items; intra = c.self.inside.intra; active = c.self.inside.active; inter = c.self.inside.inter; external = c.self.inside.external } in
    let b : AreLayersOutOfDateBy s c.args.dirty.now c.args.range k = subst (AreLayersOutOfDateBy s c.args.dirty.now c.args.range) (sym c.self.view_is) c.requires.before in
    let grown : AreTreesOf s s.config.areas k.trees = subst (λ (v : CalculationValue). AreTreesOf s s.config.areas v.trees) (sym c.self.view_is) c.requires.trees in
    let old : CalculationValue = record k { trees = b.1 } in
    let intra = c.follow_intra.new.intra in
    let kept : IsIntraOf (inputs_with s k.trees) intra = subst (λ (trees : List AreaTreeValue). IsIntraOf (inputs_with s trees) intra) c.deref.ensures.value c.in_ok-dests.ensures.kept in
    let dests : List Dest = c.in_ok-dests.dests.items in
    let listed : c.as_slice-areas.result.now ≡ s.config.areas = c.as_slice-areas.ensures ∙ ap (λ (x : Config). x.areas) c.config.ensures.value in
    let mid = c.follow_range.new.active in
    let mid_are : AreRangesOf s.config.areas old.intra.entries mid = subst (λ (areas : List AreaConfig). AreRangesOf areas old.intra.entries mid) listed c.in_ok-within.ensures.kept in
    let pushed : c.add_networks.new.dests.items ≡ dests ++ map Net c.in_ok-ranges.ranges.items = c.in_ok-add_networks.ensures ∙ ap (λ (ps : List Prefix). dests ++ map Net ps) c.deref-3.ensures.value in
    inter_before b.0 s c.args.dirty.now.keys.items c.args.dirty.now.interfaces.items c.args.range b.3 b.5 old b.2 k.trees grown intra kept dests c.in_ok-dests.ensures.exact mid mid_are c.update.new.self c.in_ok-ranges.ranges.items c.in_ok-ranges.ensures.exact c.add_networks.new.dests.items c.push_range.new.dests.items pushed c.in_ok-push_range.ensures

pub follow_external-requires-clause-ranged : goal.follow_external-requires-clause-ranged
follow_external-requires-clause-ranged c =
    let s = c.args.state.now in
    let listed : c.as_slice-areas.result.now ≡ s.config.areas = c.as_slice-areas.ensures ∙ ap (λ (x : Config). x.areas) c.config.ensures.value in
    c.in_ok-ranges.ensures.right (inputs_of s) (subst (λ (areas : List AreaConfig). AreConfigured (inputs_of s).areas areas) (sym listed) (configured s s.config.areas)) c.in_ok-dests.ensures.routed

pub follow_external-requires-clause-before : goal.follow_external-requires-clause-before
follow_external-requires-clause-before c =
    let s = c.args.state.now in
    let k : CalculationValue = record { trees = c.self.inside.trees.items; intra = c.self.inside.intra; active = c.self.inside.active; inter = c.self.inside.inter; external = c.self.inside.external } in
    let b : AreLayersOutOfDateBy s c.args.dirty.now c.args.range k = subst (AreLayersOutOfDateBy s c.args.dirty.now c.args.range) (sym c.self.view_is) c.requires.before in
    let grown : AreTreesOf s s.config.areas k.trees = subst (λ (v : CalculationValue). AreTreesOf s s.config.areas v.trees) (sym c.self.view_is) c.requires.trees in
    let old : CalculationValue = record k { trees = b.1 } in
    let intra = c.follow_intra.new.intra in
    let kept : IsIntraOf (inputs_with s k.trees) intra = subst (λ (trees : List AreaTreeValue). IsIntraOf (inputs_with s trees) intra) c.deref.ensures.value c.in_ok-dests.ensures.kept in
    let dests : List Dest = c.in_ok-dests.dests.items in
    let listed : c.as_slice-areas.result.now ≡ s.config.areas = c.as_slice-areas.ensures ∙ ap (λ (x : Config). x.areas) c.config.ensures.value in
    let mid = c.follow_range.new.active in
    let mid_are : AreRangesOf s.config.areas old.intra.entries mid = subst (λ (areas : List AreaConfig). AreRangesOf areas old.intra.entries mid) listed c.in_ok-within.ensures.kept in
    let pushed : c.add_networks.new.dests.items ≡ dests ++ map Net c.in_ok-ranges.ranges.items = c.in_ok-add_networks.ensures ∙ ap (λ (ps : List Prefix). dests ++ map Net ps) c.deref-3.ensures.value in
    let more : c.extend_from_slice.new.self.items ≡ c.push_range.new.dests.items ++ c.in_ok-dests-2.dests.items = c.in_ok-extend_from_slice.ensures.items ∙ ap (λ (ds : List Dest). c.push_range.new.dests.items ++ ds) c.deref-4.ensures.value in
    external_before b.0 s c.args.dirty.now.keys.items c.args.dirty.now.interfaces.items c.args.range b.3 b.5 old b.2 k.trees grown intra kept dests c.in_ok-dests.ensures.exact mid mid_are c.update.new.self c.in_ok-ranges.ranges.items c.in_ok-ranges.ensures.exact c.add_networks.new.dests.items c.push_range.new.dests.items pushed c.in_ok-push_range.ensures c.follow_inter.new.inter c.in_ok-dests-2.dests.items c.in_ok-dests-2.ensures.exact c.extend_from_slice.new.self.items more

pub returns-clause-right : goal.returns-clause-right
returns-clause-right c =
    let s = c.args.state.now in
    let k : CalculationValue = record { trees = c.self.inside.trees.items; intra = c.self.inside.intra; active = c.self.inside.active; inter = c.self.inside.inter; external = c.self.inside.external } in
    let b : AreLayersOutOfDateBy s c.args.dirty.now c.args.range k = subst (AreLayersOutOfDateBy s c.args.dirty.now c.args.range) (sym c.self.view_is) c.requires.before in
    let grown : AreTreesOf s s.config.areas k.trees = subst (λ (v : CalculationValue). AreTreesOf s s.config.areas v.trees) (sym c.self.view_is) c.requires.trees in
    let old : CalculationValue = record k { trees = b.1 } in
    let intra = c.follow_intra.new.intra in
    let kept : IsIntraOf (inputs_with s k.trees) intra = subst (λ (trees : List AreaTreeValue). IsIntraOf (inputs_with s trees) intra) c.deref.ensures.value c.in_ok-dests.ensures.kept in
    let dests : List Dest = c.in_ok-dests.dests.items in
    let listed : c.as_slice-areas.result.now ≡ s.config.areas = c.as_slice-areas.ensures ∙ ap (λ (x : Config). x.areas) c.config.ensures.value in
    let mid = c.follow_range.new.active in
    let mid_are : AreRangesOf s.config.areas old.intra.entries mid = subst (λ (areas : List AreaConfig). AreRangesOf areas old.intra.entries mid) listed c.in_ok-within.ensures.kept in
    let inter = c.in_ok-dests-2.ensures.kept in
    record {
      fit = c.in_ok-dests.ensures.fit;
      trees = grown;
      intra = kept;
      routed = c.in_ok-dests.ensures.routed;
      active = subst (λ (areas : List AreaConfig). AreRangesOf areas intra.entries c.update.new.self) listed c.in_ok-ranges.ensures.kept;
      ranged = c.in_ok-ranges.ensures.right (inputs_of s) (subst (λ (areas : List AreaConfig). AreConfigured (inputs_of s).areas areas) (sym listed) (configured s s.config.areas)) c.in_ok-dests.ensures.routed;
      examined = inter.0;
      examined_is = inter.1;
      inter = inter.2;
      between = c.in_ok-dests-2.ensures.right;
      external = c.in_ok-all.ensures.kept;
      outside = c.in_ok-all.ensures.right;
    }

-- what is kept at the end
abbrev now : goal.After-drop-within-2 → CalculationValue
now c = record { trees = c.self.inside.trees.items; intra = c.follow_intra.new.intra; active = c.update.new.self; inter = c.follow_inter.new.inter; external = c.follow_external.new.external }

-- A network that no layer named has its item still; what is due rests on the same routes; and the
-- range is named.
layers_kept : (c : goal.After-drop-within-2) → AreItemsKept c.in_ok-networks.networks.items c.args.self.now (now c) × RoutesDifferAmong c.push_members.new.dests.items c.args.self.now (now c)
    × IsRangeNamed c.args.range c.push_members.new.dests.items c.args.self.now.intra.entries
layers_kept c =
    let s = c.args.state.now in
    let k : CalculationValue = record { trees = c.self.inside.trees.items; intra = c.self.inside.intra; active = c.self.inside.active; inter = c.self.inside.inter; external = c.self.inside.external } in
    let b : AreLayersOutOfDateBy s c.args.dirty.now c.args.range k = subst (AreLayersOutOfDateBy s c.args.dirty.now c.args.range) (sym c.self.view_is) c.requires.before in
    let grown : AreTreesOf s s.config.areas k.trees = subst (λ (v : CalculationValue). AreTreesOf s s.config.areas v.trees) (sym c.self.view_is) c.requires.trees in
    let old : CalculationValue = record k { trees = b.1 } in
    let intra = c.follow_intra.new.intra in
    let kept : IsIntraOf (inputs_with s k.trees) intra = subst (λ (trees : List AreaTreeValue). IsIntraOf (inputs_with s trees) intra) c.deref.ensures.value c.in_ok-dests.ensures.kept in
    let dests : List Dest = c.in_ok-dests.dests.items in
    let listed : c.as_slice-areas.result.now ≡ s.config.areas = c.as_slice-areas.ensures ∙ ap (λ (x : Config). x.areas) c.config.ensures.value in
    let mid = c.follow_range.new.active in
    let mid_are : AreRangesOf s.config.areas old.intra.entries mid = subst (λ (areas : List AreaConfig). AreRangesOf areas old.intra.entries mid) listed c.in_ok-within.ensures.kept in
    let pushed : c.add_networks.new.dests.items ≡ dests ++ map Net c.in_ok-ranges.ranges.items = c.in_ok-add_networks.ensures ∙ ap (λ (ps : List Prefix). dests ++ map Net ps) c.deref-3.ensures.value in
    let more : c.extend_from_slice.new.self.items ≡ c.push_range.new.dests.items ++ c.in_ok-dests-2.dests.items = c.in_ok-extend_from_slice.ensures.items ∙ ap (λ (ds : List Dest). c.push_range.new.dests.items ++ ds) c.deref-4.ensures.value in
    let last : List Dest = c.in_ok-all.all.items in
    let over : c.push_routers.new.dests.items ≡ c.extend_from_slice.new.self.items ++ routers_in last = c.in_ok-push_routers.ensures ∙ ap (λ (ds : List Dest). c.extend_from_slice.new.self.items ++ routers_in ds) c.deref-5.ensures.value in
    let all : c.extend_from_slice-2.new.self.items ≡ last ++ c.push_routers.new.dests.items = c.in_ok-extend_from_slice-2.ensures.items ∙ ap (λ (ds : List Dest). last ++ ds) c.deref-6.ensures.value in
    let within : List RangeMember = c.in_ok-within.within.items in
    let told : c.push_members.new.dests.items ≡ c.push_routers.new.dests.items ++ map (λ (m : RangeMember). Net m.network) within =
    c.in_ok-push_members.ensures ∙ ap (λ (ms : List RangeMember). c.push_routers.new.dests.items ++ map (λ (m : RangeMember). Net m.network) ms) c.deref-7.ensures.value in
    let ranges : AreRangesOf s.config.areas intra.entries c.update.new.self = subst (λ (areas : List AreaConfig). AreRangesOf areas intra.entries c.update.new.self) listed c.in_ok-ranges.ensures.kept in
    let exact : (p : Prefix) → Contains c.in_ok-networks.networks.items p ↔ Contains c.extend_from_slice-2.new.self.items (Net p) = λ p.
    subst (λ (ds : List Dest). Contains c.in_ok-networks.networks.items p ↔ Contains ds (Net p)) c.deref-8.ensures.value (c.in_ok-networks.ensures.exact p) in
    let routes = routes_kept b.0 s c.args.dirty.now.keys.items c.args.dirty.now.interfaces.items c.args.range b.3 b.5 old b.2 k.trees grown intra kept dests c.in_ok-dests.ensures.exact mid mid_are c.update.new.self c.in_ok-ranges.ranges.items c.in_ok-ranges.ensures.exact c.add_networks.new.dests.items c.push_range.new.dests.items pushed c.in_ok-push_range.ensures c.follow_inter.new.inter c.in_ok-dests-2.dests.items c.in_ok-dests-2.ensures.exact c.extend_from_slice.new.self.items more c.follow_external.new.external last c.in_ok-all.ensures.exact c.push_routers.new.dests.items over within c.push_members.new.dests.items told c.in_ok-within.ensures.all ranges in
    let named = range_named b.0 s c.args.dirty.now.keys.items c.args.dirty.now.interfaces.items c.args.range b.3 b.5 old b.2 k.trees grown intra kept dests c.in_ok-dests.ensures.exact mid mid_are c.update.new.self c.in_ok-ranges.ranges.items c.in_ok-ranges.ensures.exact c.add_networks.new.dests.items c.push_range.new.dests.items pushed c.in_ok-push_range.ensures c.follow_inter.new.inter c.in_ok-dests-2.dests.items c.in_ok-dests-2.ensures.exact c.extend_from_slice.new.self.items more c.follow_external.new.external last c.in_ok-all.ensures.exact c.push_routers.new.dests.items over within c.push_members.new.dests.items told c.in_ok-within.ensures.all in
    subst (λ (v : CalculationValue). AreItemsKept c.in_ok-networks.networks.items v (now c) × RoutesDifferAmong c.push_members.new.dests.items v (now c) × IsRangeNamed c.args.range c.push_members.new.dests.items v.intra.entries) c.self.view_is (
      items_kept b.0 s c.args.dirty.now.keys.items c.args.dirty.now.interfaces.items c.args.range b.3 b.5 old b.2 k.trees grown intra kept dests c.in_ok-dests.ensures.exact mid mid_are c.update.new.self c.in_ok-ranges.ranges.items c.in_ok-ranges.ensures.exact c.add_networks.new.dests.items c.push_range.new.dests.items pushed c.in_ok-push_range.ensures c.follow_inter.new.inter c.in_ok-dests-2.dests.items c.in_ok-dests-2.ensures.exact c.extend_from_slice.new.self.items more c.follow_external.new.external last c.in_ok-all.ensures.exact c.push_routers.new.dests.items over c.extend_from_slice-2.new.self.items all c.in_ok-networks.networks.items exact,
      record { intra = routes.intra; members = routes.members; inter = routes.inter; preferred = routes.preferred },
      named,
    )

pub returns-clause-items : goal.returns-clause-items
returns-clause-items c = (layers_kept c).0

pub returns-clause-routes : goal.returns-clause-routes
returns-clause-routes c = (layers_kept c).1

pub returns-clause-named : goal.returns-clause-named
returns-clause-named c = (layers_kept c).2

-- The layers of routes follow a state, each by what those below it answered.
--   range_before, ranges_before, inter_before, external_before: what each layer was calculated
--     from differs in no more than was answered
--   items_kept: a network that no layer named has its item still
--   range_named: the range that may differ is named, with the networks of its area that it covers
--   routes_kept: and what is due rests on the same routes, where no layer named them
use Rattle.std.proofs.Common.{◌≡◌, ℕ, true, List, [], ◌++◌, map, Option, Some, None, refl, sym, ap, subst, ◌∙◌}
use Rattle.std.specs.Prelude.{◌↔◌, is_some}
use Rattle.std.specs.FinMap.{get}
use Rattle.std.specs.List.{Contains}
use Rattle.std.proofs.lemmas.List.Elements.{Contains-append_left, Contains-append_right}
use Rattle.ospf_types.specs.declared.config.AreaConfig.{AreaConfig}
use Rattle.ospf_types.specs.declared.config.Config.{Config}
use Rattle.ospf_types.specs.declared.entry.Entry.{Entry}
use Rattle.ospf_types.specs.declared.key.Dest.{Dest}
use Rattle.ospf_types.specs.declared.key.Dest.TheVariants.{Net, Router}
use Rattle.ospf_types.specs.declared.key.Key.{Key}
use Rattle.ospf_types.specs.declared.key.Scope.{Scope}
use Rattle.ospf_types.specs.declared.prefix.Prefix.{Prefix}
use Rattle.ospf_types.proofs.Elements.{first_element, mapped_element}
use Rattle.ospf_types.proofs.RangeChanges.{areas_kept, ids_kept}
use Rattle.area_trees.specs.Areas.{AreaTreeValue}
use Rattle.intra.specs.Changes.{DiffersAt}
use Rattle.intra.specs.Intras.{AreaIntraValue, IntraValue, EntriesByPrefix, IsIntraOf, reached_at}
use Rattle.active_ranges.proofs.Reconfigured.{active_alike, members_stay}
use Rattle.active_ranges.specs.Active.{ActiveValue, AreRangesOf, EntriesDifferAmong, IsActiveIn, IsMemberWithin, IsRangeNamed, RangesDifferAt, DiffersAt as RangeDiffers}
use Rattle.active_ranges.specs.declared.member.RangeMember.{RangeMember}
use Rattle.inter.specs.Changes.{InputsDifferAmong as InterInputsDiffer, DiffersAt as InterDiffers}
use Rattle.inter.specs.Inputs.{ExaminedValue, InterInputsValue}
use Rattle.inter.specs.Inters.{InterValue, IsInterOf}
use Rattle.external.specs.Changes.{InputsDifferAmong as ExternalInputsDiffer, DiffersAt as ExternalDiffers}
use Rattle.external.specs.Inputs.{ExternalInputsValue}
use Rattle.external.specs.Externals.{ExternalValue, IsExternalOf}
use Rattle.route_table.specs.declared.table.Item.{Item}
use Rattle.route_table.specs.declared.table.Item.TheVariants.{Route, Discard}
use Rattle.event_state.specs.States.{State}
use Rattle.calculation.specs.Summaries.{RoutesDifferAmong}
use Rattle.calculation.specs.Calculations.{CalculationValue, IsCalculationOf, AreItemsKept, IsItem, entry_else, entry_at}
use Rattle.route_layers.specs.Trees.{StatesDifferAmong, AreTreesOf, inputs_with}
use Rattle.route_layers.specs.Layers.{IsExaminedOf, inter_inputs, external_inputs}
use Rattle.calculation.specs.Followed.{range_dests, routers_in}
use Rattle.calculation.proofs.Networks.{routers_within}
use Rattle.route_layers.proofs.OtherRanges.{any_ranges}
use Rattle.route_layers.proofs.Above.{kept_ids, inter_differ, external_differ}
use Rattle.calculation.proofs.Staying.{networks_stay, routers_stay, ranges_stay, inter_stays, external_stays, preferred_stays}

-- an item belongs to the same entry, and of what is active alike
item_same : (entry other : Option Entry) (active also : Type 0) → other ≡ entry → (active → also) → (also → active) → (item : Option Item) → IsItem entry active item → IsItem other also item
item_same entry other active also same there back None is = (same ∙ is.0, λ a. is.1 (back a))
item_same entry other active also same there back (Some (Route e)) is = same ∙ is
item_same entry other active also same there back (Some Discard) is = (same ∙ is.0, there is.1)

module _ (s t : State) (keys : List (Scope × Key)) (ids : List ℕ) (range : Option (ℕ × Prefix)) (differ : StatesDifferAmong keys ids (is_some range) s t) (others : RangesDifferAt range s.config.areas t.config.areas) (c : CalculationValue) (is : IsCalculationOf s c) where
  -- the areas of before, and of now
  pub range_before : (before : List AreaConfig) × AreRangesOf before c.intra.entries c.active × RangesDifferAt range before t.config.areas × (range ≡ None → t.config.areas ≡ before)
  range_before = (s.config.areas, is.active, others, λ none. ap (λ (k : Config). k.areas) (differ.ranges (ap is_some none)))

  alike : StatesDifferAmong keys ids true s t
  alike = any_ranges s t keys ids (is_some range) differ

  module _ (trees : List AreaTreeValue) (grown : AreTreesOf t t.config.areas trees) (intra : IntraValue) (kept : IsIntraOf (inputs_with t trees) intra)
      (dests : List Dest) (exact : (d : Dest) → Contains dests d ↔ DiffersAt c.intra intra d) (mid : ActiveValue) (mid_are : AreRangesOf t.config.areas c.intra.entries mid) where
    pub ranges_before : (before : EntriesByPrefix) × AreRangesOf t.config.areas before mid × EntriesDifferAmong dests before intra.entries
    ranges_before = (c.intra.entries, mid_are, networks_stay c.intra intra dests exact)

    ids_same : map (λ (i : AreaIntraValue). i.id) intra.areas ≡ map (λ (i : AreaIntraValue). i.id) c.intra.areas
    ids_same =
        kept_ids t t.config.router t.config.areas trees intra.areas grown kept.areas ∙ ids_kept t.config.areas s.config.areas (areas_kept t.config s.config differ.areas)
        ∙ sym (kept_ids s s.config.router s.config.areas c.trees c.intra.areas is.trees is.intra.areas)

    module _ (active : ActiveValue) (prefixes : List Prefix) (turned : (p : Prefix) → Contains prefixes p ↔ RangeDiffers mid active p) (pushed below : List Dest) (pushed_is : pushed ≡ dests ++ map Net prefixes) (below_is : below ≡ pushed ++ range_dests range) where
      not_pushed : (d : Dest) → (Contains below d → ⊥) → Contains pushed d → ⊥
      not_pushed d not named = not (subst (λ (list : List Dest). Contains list d) (sym below_is) (Contains-append_left pushed (range_dests range) d named))

      -- the prefix of the range is named
      pub prefix_named : (area : ℕ) (p : Prefix) → range ≡ Some (area, p) → Contains below (Net p)
      prefix_named area p e =
          subst (λ (list : List Dest). Contains list (Net p)) (sym below_is)
          (Contains-append_right pushed (range_dests range) (Net p) (subst (λ (o : Option (ℕ × Prefix)). Contains (range_dests o) (Net p)) (sym e) (first_element (Net p) [])))

      unnamed : (d : Dest) → (Contains below d → ⊥) → Contains dests d → ⊥
      unnamed d not named = not_pushed d not (subst (λ (list : List Dest). Contains list d) (sym pushed_is) (Contains-append_left dests (map Net prefixes) d named))

      networks : (p : Prefix) → (Contains below (Net p) → ⊥) → get intra.entries p ≡ get c.intra.entries p
      networks p not = networks_stay c.intra intra dests exact p (unnamed (Net p) not)

      routers : (r : ℕ) → (Contains below (Router r) → ⊥) → (area : ℕ) → reached_at intra.areas area r ≡ reached_at c.intra.areas area r
      routers r not = routers_stay c.intra intra dests exact ids_same r (unnamed (Router r) not)

      ranges : (p : Prefix) → (Contains below (Net p) → ⊥) → IsActiveIn active p ↔ IsActiveIn c.active p
      ranges p not =
          let first = ranges_stay mid active prefixes turned p (λ named. not_pushed (Net p) not (subst (λ (list : List Dest). Contains list (Net p)) (sym pushed_is) (Contains-append_right dests (map Net prefixes) (Net p) (mapped_element Net prefixes p named)))) in
          let second = active_alike range s.config.areas t.config.areas others c.intra.entries c.active mid is.active mid_are p (λ area e. not (prefix_named area p e)) in
          (λ h. second.0 (first.0 h), λ h. first.1 (second.1 h))

      pub inter_before : (before : InterInputsValue) × IsInterOf before c.inter × ((examined : Option ExaminedValue) → IsExaminedOf t examined → InterInputsDiffer keys below before (inter_inputs t examined intra active))
      inter_before = (
        inter_inputs s is.examined c.intra c.active,
        is.inter,
        λ examined at. inter_differ s t keys ids alike below c.intra intra c.active active networks ranges routers is.examined examined is.examined_is at,
      )

      module _ (inter : InterValue) (others_told : List Dest) (changed : (d : Dest) → Contains others_told d ↔ InterDiffers c.inter inter d) (more : List Dest) (more_is : more ≡ below ++ others_told) where
        lower : (d : Dest) → (Contains more d → ⊥) → Contains below d → ⊥
        lower d not named = not (subst (λ (list : List Dest). Contains list d) (sym more_is) (Contains-append_left below others_told d named))

        between : (d : Dest) → (Contains more d → ⊥) → get inter.entries d ≡ get c.inter.entries d
        between d not = inter_stays c.inter inter others_told changed d (λ named. not (subst (λ (list : List Dest). Contains list d) (sym more_is) (Contains-append_right below others_told d named)))

        pub external_before : (before : ExternalInputsValue) × IsExternalOf before c.external × ExternalInputsDiffer keys more before (external_inputs t intra active inter)
        external_before = (
          external_inputs s c.intra c.active c.inter,
          is.external,
          external_differ s t keys ids alike more c.intra intra c.active active (λ p not. networks p (lower (Net p) not)) (λ p not. ranges p (lower (Net p) not)) (λ r not. routers r (lower (Router r) not)) c.inter inter between,
        )

        module _ (external : ExternalValue) (last : List Dest) (updated : (d : Dest) → Contains last d ↔ ExternalDiffers c.external external d) (over : List Dest) (over_is : over ≡ more ++ routers_in last) where
          abbrev now : CalculationValue
          now = record { trees = trees; intra = intra; active = active; inter = inter; external = external }

          -- what is not named at last was not named before
          not_more : (d : Dest) → (Contains over d → ⊥) → Contains more d → ⊥
          not_more d not named = not (subst (λ (list : List Dest). Contains list d) (sym over_is) (Contains-append_left more (routers_in last) d named))

          not_last : (r : ℕ) → (Contains over (Router r) → ⊥) → Contains last (Router r) → ⊥
          not_last r not named = not (subst (λ (list : List Dest). Contains list (Router r)) (sym over_is) (Contains-append_right more (routers_in last) (Router r) (routers_within last r named)))

          pub items_kept : (all : List Dest) → all ≡ last ++ over → (listed : List Prefix) → ((p : Prefix) → Contains listed p ↔ Contains all (Net p)) → AreItemsKept listed c now
          items_kept all all_is listed same p item not =
              let not_all : Contains all (Net p) → ⊥ = λ named. not ((same p).1 named) in
              let not_first : Contains last (Net p) → ⊥ = λ named. not_all (subst (λ (list : List Dest). Contains list (Net p)) (sym all_is) (Contains-append_left last over (Net p) named)) in
              let not_over : Contains over (Net p) → ⊥ = λ named. not_all (subst (λ (list : List Dest). Contains list (Net p)) (sym all_is) (Contains-append_right last over (Net p) named)) in
              let not_below = lower (Net p) (not_more (Net p) not_over) in
              let first = networks p not_below in
              let second = between (Net p) (not_more (Net p) not_over) in
              let third = external_stays c.external external last updated p not_first in
              let both = ranges p not_below in
              item_same (entry_at c p) (entry_at now p) (IsActiveIn c.active p) (IsActiveIn active p) (λ i. entry_else (first i) (entry_else (second i) (third i))) both.1 both.0 item

          module _ (within : List RangeMember) (told : List Dest) (told_is : told ≡ over ++ map (λ (m : RangeMember). Net m.network) within)
              (all_within : (id : ℕ) (prefix : Prefix) → range ≡ Some (id, prefix) → (m : RangeMember) → IsMemberWithin c.intra.entries id prefix m → Contains within m) where
            over_told : (d : Dest) → Contains over d → Contains told d
            over_told d named = subst (λ (list : List Dest). Contains list d) (sym told_is) (Contains-append_left over (map (λ (m : RangeMember). Net m.network) within) d named)

            below_told : (d : Dest) → Contains below d → Contains told d
            below_told d named =
                let more_named : Contains more d = subst (λ (list : List Dest). Contains list d) (sym more_is) (Contains-append_left below others_told d named) in
                over_told d (subst (λ (list : List Dest). Contains list d) (sym over_is) (Contains-append_left more (routers_in last) d more_named))

            pub range_named : IsRangeNamed range told c.intra.entries
            range_named area prefix e = (
              below_told (Net prefix) (prefix_named area prefix e),
              λ network w.
                  let m : RangeMember = record { range = prefix; area = area; network = network } in
                  subst (λ (list : List Dest). Contains list (Net network)) (sym told_is)
                  (Contains-append_right over (map (λ (x : RangeMember). Net x.network) within) (Net network) (mapped_element (λ (x : RangeMember). Net x.network) within m (all_within area prefix e m (refl, refl, w)))),
            )

            pub routes_kept : AreRangesOf t.config.areas intra.entries active → RoutesDifferAmong told c now
            routes_kept are =
                let not_over : (d : Dest) → (Contains told d → ⊥) → Contains over d → ⊥ = λ d not named. not (over_told d named) in
                let same : (p : Prefix) → (Contains told (Net p) → ⊥) → get intra.entries p ≡ get c.intra.entries p = λ p not. networks p (lower (Net p) (not_more (Net p) (not_over (Net p) not))) in
                record {
                  intra = same;
                  members = members_stay range s.config.areas t.config.areas others told c.intra.entries intra.entries range_named same c.active active is.active are;
                  inter = λ p not. between (Net p) (not_more (Net p) (not_over (Net p) not));
                  preferred = λ r not. preferred_stays c.external external last updated r (not_last r (not_over (Router r) not));
                }

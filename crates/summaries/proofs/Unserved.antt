-- Where no area is active nothing is due.
use Rattle.std.proofs.Common.{◌≡◌, ℕ, ◌+◌, ◌<◌, List, [], ◌∷◌, ◌++◌, None, length, get_or, take, refl, sym, ap, subst, ◌∙◌}
use Rattle.std.specs.List.{Contains}
use Rattle.std.specs.List.Sorted.{IsStrictlySortedBy}
use Rattle.std.proofs.lemmas.List.{take_more}
use Rattle.ospf_types.specs.declared.config.AreaConfig.{AreaConfig}
use Rattle.ospf_types.specs.declared.key.Dest.{Dest}
use Rattle.ospf_types.proofs.Elements.{no_element}
use Rattle.summary_lists.specs.declared.due.DueSummary.{DueSummary}
use Rattle.summaries.specs.Inputs.{SummaryInputsValue}
use Rattle.summaries.specs.Giving.{IsDueIn}
use Rattle.summary_lists.specs.Lists.{AreaSummariesValue, AreInOrder}
use Rattle.summaries.specs.DueSummaries.{AreListsOf, IsListOf}
use Rattle.active_ranges.proofs.Reconfigured.{ranges_same, none_named}
use Rattle.summaries.specs.Changes.{InputsDifferAmong}

module _ (v : SummaryInputsValue) (nowhere : v.active ≡ []) where
  none_due : (a : AreaConfig) (d : Dest) (m : ℕ) → IsDueIn v a d m → ⊥
  none_due a d m due = no_element a.id (subst (λ (ids : List ℕ). Contains ids a.id) nowhere due.served.here)

  list_none : (a : AreaConfig) (w : AreaSummariesValue) → w.area ≡ a.id → w.list ≡ [] → IsListOf v a w
  unfolding IsStrictlySortedBy
  list_none a w area list = record {
    area = area;
    in_order = subst AreInOrder (sym list) tt;
    exact = λ due. (λ c. absurd (no_element due (subst (λ (summaries : List DueSummary). Contains summaries due) list c)), λ h. absurd (none_due a due.dest due.metric h.0));
  }

  lists_more : (areas : List AreaConfig) (lists : List AreaSummariesValue) (a : AreaConfig) (w : AreaSummariesValue) → AreListsOf v areas lists → IsListOf v a w → AreListsOf v (areas ++ a ∷ []) (lists ++ w ∷ [])
  lists_more [] [] a w are is = (is, tt)
  lists_more [] (x ∷ lists) a w are is = absurd are
  lists_more (b ∷ areas) [] a w are is = absurd are
  lists_more (b ∷ areas) (x ∷ lists) a w are is = (are.0, lists_more areas lists a w are.1 is)

  -- one more area's list
  pub none_more : (areas : List AreaConfig) (lists next : List AreaSummariesValue) (i : ℕ) (a : AreaConfig) (w : AreaSummariesValue) → i < length areas → a ≡ get_or areas i a → w.area ≡ a.id → w.list ≡ []
      → next ≡ lists ++ w ∷ [] → AreListsOf v (take i areas) lists → AreListsOf v (take (i + 1) areas) next
  none_more areas lists next i a w lt at area list is are =
      subst (AreListsOf v (take (i + 1) areas)) (sym is)
      (subst (λ (bs : List AreaConfig). AreListsOf v bs (lists ++ w ∷ [])) (sym (take_more areas i a lt ∙ ap (λ (b : AreaConfig). take i areas ++ b ∷ []) (sym at)))
      (lists_more (take i areas) lists a w are (list_none a w area list)))

-- the inputs, with no active area
abbrev pub unserved : SummaryInputsValue → SummaryInputsValue
unserved v = record v { active = [] }

-- of which nothing else differs
pub unserved_differ : (v : SummaryInputsValue) → InputsDifferAmong [] (unserved v) v
unserved_differ v = record { areas = refl; range = None; ranges = ranges_same v.areas; whole = none_named [] v.intra.entries; intra = λ p absent. refl; members = λ m absent. refl; inter = λ p absent. refl; preferred = λ r absent. refl }

-- When due summaries are as defined.
use Rattle.std.specs.Prelude.{ℕ, ◌≡◌, ◌≢◌, ◌↔◌, List, [], ◌∷◌, Contains}
use Rattle.std.specs.List.{AllPairs}
use Rattle.ospf_types.specs.declared.config.AreaConfig.{AreaConfig}
use Rattle.ospf_types.specs.declared.config.Interface.{Interface}
use Rattle.ospf_types.specs.Inputs.{Inputs, Area, IsActive}
use Rattle.ospf_types.specs.Summaries.{IsDue}
use Rattle.intra.specs.Right.{IsRightFor as IsIntraRight}
use Rattle.inter.specs.Right.{IsRightFor as IsInterRight}
use Rattle.active_ranges.specs.Active.{AreRangesOf}
use Rattle.external.specs.Right.{IsRightFor as IsExternalRight}
use Rattle.summary_lists.specs.declared.due.DueSummary.{DueSummary}
use Rattle.summary_lists.specs.Lists.{AreaSummariesValue, AreInOrder, kind_of}
use Rattle.summaries.specs.DueSummaries.{DueSummariesValue}
use Rattle.summaries.specs.Inputs.{SummaryInputsValue}

-- the areas are configured so
abbrev pub AreConfigured : List Area → List AreaConfig → Type 0
AreConfigured [] [] = Unit {0}
AreConfigured (b ∷ bs) (a ∷ areas) = (b.id ≡ a.id) × (b.stub ≡ a.stub) × (b.ranges ≡ a.ranges) × AreConfigured bs areas
AreConfigured [] (a ∷ areas) = ⊥
AreConfigured (b ∷ bs) [] = ⊥

-- what is due is calculated from what the definitions speak of
pub record AreInputsOf (s : Inputs) (v : SummaryInputsValue) : Type 0 where
  pub areas : AreConfigured s.areas v.areas
  pub apart : AllPairs (λ (a b : Area). a.id ≢ b.id) s.areas
  pub interfaces : (id : ℕ) (i j : Interface) → Contains s.interfaces (id, i) → Contains s.interfaces (id, j) → i ≡ j
  pub active : (area : ℕ) → Contains v.active area ↔ ((a : Area) × IsActive s a × (a.id ≡ area))
  pub intra : IsIntraRight s v.intra
  pub ranges : AreRangesOf v.areas v.intra.entries v.ranges
  pub inter : IsInterRight s v.inter
  pub external : IsExternalRight s v.external

-- the list is what the definitions say is due in the area
pub record IsListRight (s : Inputs) (a : Area) (w : AreaSummariesValue) : Type 0 where
  pub area : w.area ≡ a.id
  pub in_order : AreInOrder w.list
  pub exact : (due : DueSummary) → Contains w.list due ↔ (IsDue s a due.dest due.metric × (due.kind ≡ kind_of due.dest))

abbrev pub AreListsRight : Inputs → List Area → List AreaSummariesValue → Type 0
AreListsRight s [] [] = Unit {0}
AreListsRight s (a ∷ areas) (w ∷ lists) = IsListRight s a w × AreListsRight s areas lists
AreListsRight s [] (w ∷ lists) = ⊥
AreListsRight s (a ∷ areas) [] = ⊥

-- each configured area has its list
abbrev pub IsRightFor : Inputs → DueSummariesValue → Type 0
IsRightFor s w = AreListsRight s s.areas w.areas

-- the lists are right for all that the definitions may say of these inputs
abbrev pub IsRightWith : SummaryInputsValue → DueSummariesValue → Type 0
IsRightWith v w = (s : Inputs) → AreInputsOf s v → IsRightFor s w

-- The results kept of a state from event to event: the trees of its areas, and its routes, layer by
-- layer.
use Rattle.std.specs.Prelude.{◌≡◌, ◌≢◌, List, Contains, Option, Some, None}
use Rattle.std.specs.FinMap as map
use Rattle.std.specs.FinMap.{get}
use Rattle.ospf_types.specs.declared.key.Dest.TheVariants.{Net}
use Rattle.ospf_types.specs.declared.entry.Entry.{Entry}
use Rattle.ospf_types.specs.declared.prefix.Prefix.{Prefix}
use Rattle.ospf_types.specs.Network.{network_cmp}
use Rattle.area_trees.specs.Areas.{AreaTreeValue}
use Rattle.intra.specs.Intras.{IntraValue, IsIntraOf}
use Rattle.intra.specs.Right.{IsRightFor}
use Rattle.active_ranges.specs.Active.{ActiveValue, AreRangesOf, IsActiveIn}
use Rattle.active_ranges.specs.Right.{IsRightFor as AreRangesRight}
use Rattle.inter.specs.Inputs.{ExaminedValue}
use Rattle.inter.specs.Inters.{InterValue, IsInterOf}
use Rattle.inter.specs.Right.{IsRightFor as IsInterRight}
use Rattle.external.specs.Externals.{ExternalValue, IsExternalOf}
use Rattle.external.specs.Right.{IsRightFor as IsExternalRight}
use Rattle.event_state.specs.Held.{AreFit}
use Rattle.event_state.specs.States.{State, inputs_of}
use Rattle.route_table.specs.declared.table.Item.{Item}
use Rattle.route_table.specs.declared.table.Item.TheVariants.{Route, Discard}
use Rattle.route_layers.specs.Trees.{inputs_with, AreTreesOf}
use Rattle.route_layers.specs.Layers.{IsExaminedOf, inter_inputs, external_inputs}

pub record CalculationValue : Type 0 where
  pub trees : List AreaTreeValue  -- one an area, in the order of the areas
  pub intra : IntraValue
  pub active : ActiveValue
  pub inter : InterValue
  pub external : ExternalValue

-- ---- the layers above intra-area routes

-- what is kept belongs to the state, whose databases are fit, and its routes are as defined
pub record IsCalculationOf (s : State) (c : CalculationValue) : Type 0 where
  pub fit : AreFit s.config.areas s.databases
  pub trees : AreTreesOf s s.config.areas c.trees
  pub intra : IsIntraOf (inputs_with s c.trees) c.intra
  pub routed : IsRightFor (inputs_of s) c.intra
  pub active : AreRangesOf s.config.areas c.intra.entries c.active
  pub ranged : AreRangesRight (inputs_of s) c.active
  pub examined : Option ExaminedValue
  pub examined_is : IsExaminedOf s examined
  pub inter : IsInterOf (inter_inputs s examined c.intra c.active) c.inter
  pub between : IsInterRight (inputs_of s) c.inter
  pub external : IsExternalOf (external_inputs s c.intra c.active c.inter) c.external
  pub outside : IsExternalRight (inputs_of s) c.external

-- ---- the routing table

-- the first of two entries that is there
abbrev pub entry_else : Option Entry → Option Entry → Option Entry
entry_else (Some e) other = Some e
entry_else None other = other

-- the network's entry: intra-area, else inter-area, else external
abbrev pub entry_at : CalculationValue → Prefix → Option Entry
entry_at c p = entry_else (get c.intra.entries p) (entry_else (get c.inter.entries (Net p)) (get c.external.entries p))

-- what the table has for a network: a route where it has an entry, else a discard where it is the
-- prefix of an active range
abbrev pub IsItem : Option Entry → Type 0 → Option Item → Type 0
IsItem entry active None = (entry ≡ None) × (active → ⊥)
IsItem entry active (Some (Route e)) = entry ≡ Some e
IsItem entry active (Some Discard) = (entry ≡ None) × active

abbrev pub IsItemOf : CalculationValue → Prefix → Option Item → Type 0
IsItemOf c p item = IsItem (entry_at c p) (IsActiveIn c.active p) item

-- what the table is to have for the network, with which it has something else; nothing where it has
-- just that
abbrev pub IsNewItemOf : CalculationValue → map.FinMap network_cmp Item → Prefix → Option (Prefix × Option Item) → Type 0
IsNewItemOf c items p None = IsItemOf c p (get items p)
IsNewItemOf c items p (Some new) = (new.0 ≡ p) × IsItemOf c p new.1 × (get items p ≢ new.1)

-- what the one has for a network, the other has too, but for the networks that are named
abbrev pub AreItemsKept : List Prefix → CalculationValue → CalculationValue → Type 0
AreItemsKept networks old new = (p : Prefix) (item : Option Item) → (Contains networks p → ⊥) → IsItemOf old p item → IsItemOf new p item

-- the table has the items of the kept results
abbrev pub IsTableOf : CalculationValue → map.FinMap network_cmp Item → Type 0
IsTableOf c items = (p : Prefix) → IsItemOf c p (get items p)

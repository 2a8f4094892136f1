-- Intra-area routes as their callers see them.
use Rattle.std.specs.Prelude.{ℕ, ◌==◌, ◌≡◌, ◌↔◌, Bool, false, true, List, [], ◌∷◌, map, Contains, Option, Some, None, IsSome, is_some, count_by, if◌then◌else◌}
use Rattle.std.specs.FinMap.{FinMap, empty, from_entries, get}
use Rattle.std.specs.List.Sorted.{IsStrictlySortedBy}
use Rattle.ospf_types.specs.declared.entry.Entry.{Entry}
use Rattle.ospf_types.specs.declared.entry.PathType.TheVariants.{Intra}
use Rattle.ospf_types.specs.declared.hop.Path.{Path}
use Rattle.ospf_types.specs.declared.prefix.Prefix.{Prefix}
use Rattle.ospf_types.specs.Best.{IsBest, NoOffer}
use Rattle.ospf_types.specs.Hops.{path_cmp}
use Rattle.ospf_types.specs.Intra.{AreaCost, area_cost_cmp}
use Rattle.ospf_types.specs.Network.{network_cmp}
use Rattle.ospf_types.specs.Routes.{entry_of}
pub use Rattle.route_choice.specs.Costs.{most_cost}
use Rattle.intra.specs.Indexes.{IndexValue, IsAreaIndexOf, empty_index}
use Rattle.intra.specs.Inputs.{AreaValue, InputsValue}
use Rattle.intra.specs.Offers.{OffersOf}
use Rattle.intra.specs.ReachedRouter.{ReachedByRouter, ReachedValue, IsReachedOf}

abbrev pub EntriesByPrefix : Type 0
EntriesByPrefix = FinMap network_cmp Entry

-- each network with its entry
abbrev pub entries_of : List (Prefix × Entry) → EntriesByPrefix
entries_of es = from_entries {K = Prefix} {R = network_cmp} es

-- just these networks have an entry
abbrev pub HaveEntries : EntriesByPrefix → List Prefix → Type 0
HaveEntries entries networks = (p : Prefix) → Contains networks p ↔ IsSome (get entries p)

-- each of these is the entry of its network
abbrev pub AreEntries : EntriesByPrefix → List (Prefix × Entry) → Type 0
AreEntries entries es = (p : Prefix) (e : Entry) → Contains es (p, e) → get entries p ≡ Some e

pub record AreaIntraValue : Type 0 where
  pub id : ℕ
  pub index : IndexValue
  pub reached : ReachedByRouter

pub record IntraValue : Type 0 where
  pub areas : List AreaIntraValue
  pub entries : EntriesByPrefix
  pub spent : Bool

-- what is kept of an area without LSAs
abbrev pub empty_area : ℕ → AreaIntraValue
empty_area id = record { id = id; index = empty_index; reached = empty }

-- the routes of areas without LSAs
abbrev pub empty_routes : List AreaValue → IntraValue
empty_routes areas = record { areas = map (λ (a : AreaValue). empty_area a.id) areas; entries = empty; spent = false }

-- routes that answer nothing, since an update ran out of memory
abbrev pub spent_value : IntraValue
spent_value = record { areas = []; entries = empty; spent = true }

-- what is kept of a router in the first area with that Area ID
abbrev pub reached_at : List AreaIntraValue → ℕ → ℕ → Option ReachedValue
reached_at [] area router = None
reached_at (a ∷ areas) area router = if a.id == area then get a.reached router else reached_at areas area router

-- the intra-area entry of a choice
abbrev pub entry_at : AreaCost → List Path → Entry
entry_at key paths = entry_of Intra (Some key.1) key.0 0 paths

-- the entry is the best of the offers, its paths in order, or `None` if nothing is offered
abbrev pub IsEntryFor : (AreaCost → Path → Type 0) → Option Entry → Type 0
IsEntryFor offers None = NoOffer offers
IsEntryFor offers (Some e) = (key : AreaCost) × IsBest area_cost_cmp offers key e.paths × IsStrictlySortedBy path_cmp e.paths × (e ≡ entry_of Intra (Some key.1) key.0 0 e.paths)

-- something is kept of the router in one of the areas
abbrev pub IsKeptIn : List AreaIntraValue → ℕ → Type 0
IsKeptIn areas router = (a : AreaIntraValue) × Contains areas a × IsSome (get a.reached router)

-- just these routers are kept in some area
abbrev pub AreRoutersKept : List AreaIntraValue → List ℕ → Type 0
AreRoutersKept areas routers = (router : ℕ) → Contains routers router ↔ IsKeptIn areas router

-- each router is there as often as there are areas where it is kept
abbrev pub AreAsOften : List AreaIntraValue → List ℕ → Type 0
AreAsOften areas routers =
    (router : ℕ) → count_by (λ (r : ℕ). r == router) routers ≡ count_by (λ (a : AreaIntraValue). is_some (get a.reached router)) areas

-- what is kept of an area belongs to its database and its tree
pub record IsAreaIntra (root : ℕ) (a : AreaValue) (i : AreaIntraValue) : Type 0 where
  pub id : i.id ≡ a.id
  pub index : IsAreaIndexOf a.lsas i.index
  pub reached : (router : ℕ) → IsReachedOf root a router (get i.reached router)

abbrev pub AreAreaIntras : ℕ → List AreaValue → List AreaIntraValue → Type 0
AreAreaIntras root [] [] = Unit {0}
AreAreaIntras root (a ∷ rest) (i ∷ is) = IsAreaIntra root a i × AreAreaIntras root rest is
AreAreaIntras root [] (i ∷ is) = ⊥
AreAreaIntras root (a ∷ rest) [] = ⊥

-- the routes belong to the inputs
pub record IsIntraOf (v : InputsValue) (w : IntraValue) : Type 0 where
  pub fresh : w.spent ≡ false
  pub areas : AreAreaIntras v.root v.areas w.areas
  pub entries : (p : Prefix) → IsEntryFor (OffersOf v p) (get w.entries p)

-- Inter-area routes as their callers see them: networks, and AS boundary routers.
use Rattle.std.specs.Prelude.{ℕ, ◌≡◌, Bool, true, false, Option, Some, None, IsSome}
use Rattle.std.specs.FinMap.{FinMap, get, empty}
use Rattle.std.specs.List.Sorted.{IsStrictlySortedBy}
use Rattle.std.specs.Ordering.{nat_cmp}
use Rattle.ospf_types.specs.declared.entry.Entry.{Entry}
use Rattle.ospf_types.specs.declared.entry.PathType.TheVariants.{Inter}
use Rattle.ospf_types.specs.declared.hop.Path.{Path}
use Rattle.ospf_types.specs.declared.key.Dest.{Dest}
use Rattle.ospf_types.specs.declared.key.Scope.TheVariants.{Area}
use Rattle.ospf_types.specs.Best.{IsBest, NoOffer}
use Rattle.ospf_types.specs.Hops.{path_cmp}
use Rattle.ospf_types.specs.Keys.{dest_cmp}
use Rattle.ospf_types.specs.Routes.{entry_of}
pub use Rattle.intra.specs.Intras.{most_cost}
use Rattle.advertised_index.specs.Indexes.{OfferIndexValue, IsIndexOf}
use Rattle.inter.specs.Inputs.{ExaminedValue, InterInputsValue, examined_area}
use Rattle.inter.specs.Offers.{OffersOf}

abbrev pub EntriesByDest : Type 0
EntriesByDest = FinMap dest_cmp Entry

pub record InterValue : Type 0 where
  pub examined : Option ℕ  -- the area that the index is of
  pub index : OfferIndexValue
  pub entries : EntriesByDest
  pub spent : Bool

abbrev pub spent_routes : InterValue
spent_routes = record { examined = None; index = record { routes = empty }; entries = empty; spent = true }

-- the routes where nothing is advertised
abbrev pub no_routes : InterValue
no_routes = record { examined = None; index = record { routes = empty }; entries = empty; spent = false }

-- the destination has an entry
abbrev pub HasEntry : InterValue → Dest → Type 0
HasEntry w d = IsSome (get w.entries d)

-- the entry is the best of the offers through the area, its paths in order, or `None` if nothing is
-- offered
abbrev pub IsEntryFor : ℕ → (ℕ → Path → Type 0) → Option Entry → Type 0
IsEntryFor area offers None = NoOffer offers
IsEntryFor area offers (Some e) = (cost : ℕ) × IsBest nat_cmp offers cost e.paths × IsStrictlySortedBy path_cmp e.paths × (e ≡ entry_of Inter (Some area) cost 0 e.paths)

-- the index belongs to the examined area, or empty where none is examined
abbrev pub IsIndexFor : ℕ → Option ExaminedValue → OfferIndexValue → Type 0
IsIndexFor root None i = i ≡ record { routes = empty }
IsIndexFor root (Some x) i = IsIndexOf root (Area x.area) x.lsas i

-- the destination's entry, or `None` if no area is examined
abbrev pub IsEntryIn : InterInputsValue → Option ExaminedValue → Dest → Option Entry → Type 0
IsEntryIn v None d e = e ≡ None
IsEntryIn v (Some x) d e = IsEntryFor x.area (OffersOf v x d) e

-- the routes belong to the inputs
pub record IsInterOf (v : InterInputsValue) (w : InterValue) : Type 0 where
  pub fresh : w.spent ≡ false
  pub examined : w.examined ≡ examined_area v
  pub index : IsIndexFor v.root v.examined w.index
  pub entries : (d : Dest) → IsEntryIn v v.examined d (get w.entries d)

-- The preferred entry of an AS boundary router (RFC 2328, 16.4 and 16.4.1).
use Rattle.std.specs.Prelude.{ℕ, ◌≡◌, ◌⊎◌, Bool, List, Contains, Option, Some, None}
use Rattle.std.specs.FinMap.{FinMap, get, from_entries}
use Rattle.std.specs.List.Sorted.{IsStrictlySortedBy}
use Rattle.std.specs.Ordering.{nat_cmp}
use Rattle.ospf_types.specs.declared.entry.Entry.{Entry}
use Rattle.ospf_types.specs.declared.hop.NextHop.{NextHop}
use Rattle.ospf_types.specs.declared.hop.Path.{Path}
use Rattle.ospf_types.specs.declared.key.Dest.TheVariants.{Router}
use Rattle.ospf_types.specs.Best.{IsBest, NoOffer}
use Rattle.ospf_types.specs.Boundary.{Preference, preference_cmp, class_of}
use Rattle.ospf_types.specs.Hops.{hop_cmp}
use Rattle.ospf_types.specs.Intra.{E}
use Rattle.intra.specs.Intras.{reached_at}
use Rattle.intra.specs.ReachedRouter.{HandsOut}
use Rattle.route_choice.specs.Results.{Results}
use Rattle.external.specs.Inputs.{ExternalInputsValue}

pub record PreferredValue : Type 0 where
  pub preference : Preference
  pub hops : List NextHop

abbrev pub PreferredByRouter : Type 0
PreferredByRouter = FinMap nat_cmp PreferredValue

-- the preferred entries that are kept
abbrev pub preferred_in : Results ℕ PreferredValue → PreferredByRouter
preferred_in results = from_entries results.entries

-- the area where the router is reached as AS boundary router, at its distance
abbrev pub ReachedOffers : ExternalInputsValue → ℕ → ℕ → Preference → NextHop → Type 0
ReachedOffers v router area preference h = (preference.area ≡ area) × (preference.class ≡ class_of v.compat (Some area)) × HandsOut E (reached_at v.intra.areas area router) preference.cost h

-- the router's inter-area entry
abbrev pub EntryOffers : Bool → Option Entry → Preference → NextHop → Type 0
EntryOffers compat o preference h = (e : Entry) × (path : Path) × (o ≡ Some e) × (e.area ≡ Some preference.area) × (e.cost ≡ preference.cost) × (preference.class ≡ class_of compat None) × Contains e.paths path × (path.hop ≡ h)

-- the inter-area entry that is kept of the router
abbrev pub InterEntryOffers : ExternalInputsValue → ℕ → Preference → NextHop → Type 0
InterEntryOffers v router = EntryOffers v.compat (get v.inter.entries (Router router))

-- each area where it is reached, and its inter-area entry
abbrev pub RouterOffers : ExternalInputsValue → ℕ → Preference → NextHop → Type 0
RouterOffers v router preference h =
    ((area : ℕ) × Contains v.areas area × ReachedOffers v router area preference h)
    ⊎ EntryOffers v.compat (get v.inter.entries (Router router)) preference h

-- the preferred entry, its next hops in order, or `None` if nothing is offered
abbrev pub IsPreferredFor : (Preference → NextHop → Type 0) → Option PreferredValue → Type 0
IsPreferredFor offers None = NoOffer offers
IsPreferredFor offers (Some w) = IsBest preference_cmp offers w.preference w.hops × IsStrictlySortedBy hop_cmp w.hops

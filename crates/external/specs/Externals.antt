-- External routes as their callers see them, with the preferred entries of AS boundary routers.
use Rattle.std.specs.Prelude.{ℕ, ◌≡◌, Bool, true, false, Option, Some, None, IsSome}
use Rattle.std.specs.FinMap.{get, empty}
use Rattle.std.specs.List.Sorted.{IsStrictlySortedBy}
use Rattle.ospf_types.specs.declared.entry.Entry.{Entry}
use Rattle.ospf_types.specs.declared.hop.Path.{Path}
use Rattle.ospf_types.specs.declared.key.Scope.TheVariants.{As}
use Rattle.ospf_types.specs.declared.prefix.Prefix.{Prefix}
use Rattle.ospf_types.specs.Best.{IsBest, NoOffer}
use Rattle.ospf_types.specs.External.{ExternalPreference, external_cmp}
use Rattle.ospf_types.specs.Hops.{path_cmp}
use Rattle.ospf_types.specs.Routes.{entry_of, external_type}
use Rattle.intra.specs.Intras.{EntriesByPrefix}
use Rattle.advertised_index.specs.Indexes.{OfferIndexValue, IsIndexOf, IsForwardedTo}
use Rattle.external.specs.Inputs.{ExternalInputsValue}
use Rattle.external.specs.AsbrRoute.{PreferredByRouter, RouterOffers, IsPreferredFor}
use Rattle.external.specs.Forwards.{ForwardValue, ForwardsByAddress, IsForwardOf}
use Rattle.external.specs.Offers.{OffersOf}

pub record ExternalValue : Type 0 where
  pub index : OfferIndexValue
  pub preferred : PreferredByRouter
  pub forwards : ForwardsByAddress
  pub entries : EntriesByPrefix
  pub spent : Bool

abbrev pub spent_routes : ExternalValue
spent_routes = record { index = record { routes = empty }; preferred = empty; forwards = empty; entries = empty; spent = true }

-- the routes where nothing is advertised
abbrev pub no_routes : ExternalValue
no_routes = record { index = record { routes = empty }; preferred = empty; forwards = empty; entries = empty; spent = false }

-- the network has an external entry
abbrev pub HasEntry : ExternalValue → Prefix → Type 0
HasEntry w p = IsSome (get w.entries p)

-- the AS boundary router has a preferred entry
abbrev pub HasPreferred : ExternalValue → ℕ → Type 0
HasPreferred w router = IsSome (get w.preferred router)

-- the entry is the best of the offers, its paths in order, or `None` if nothing is offered
abbrev pub IsEntryFor : (ExternalPreference → Path → Type 0) → Option Entry → Type 0
IsEntryFor offers None = NoOffer offers
IsEntryFor offers (Some e) = (preference : ExternalPreference) × IsBest external_cmp offers preference e.paths × IsStrictlySortedBy path_cmp e.paths
    × (e ≡ entry_of (external_type preference.kind) None preference.cost preference.metric e.paths)

-- each forwarding address has where it leads, and no other address has
abbrev pub IsForwardIn : ExternalInputsValue → OfferIndexValue → ℕ → Option ForwardValue → Type 0
IsForwardIn v i address None = IsForwardedTo i address → ⊥
IsForwardIn v i address (Some f) = IsForwardedTo i address × IsForwardOf v address f

-- the routes belong to the inputs
pub record IsExternalOf (v : ExternalInputsValue) (w : ExternalValue) : Type 0 where
  pub fresh : w.spent ≡ false
  pub index : IsIndexOf v.root As v.lsas w.index
  pub preferred : (router : ℕ) → IsPreferredFor (RouterOffers v router) (get w.preferred router)
  pub forwards : (address : ℕ) → IsForwardIn v w.index address (get w.forwards address)
  pub entries : (p : Prefix) → IsEntryFor (OffersOf v w.preferred w.forwards p) (get w.entries p)

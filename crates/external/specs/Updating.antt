-- The routers, forwarding addresses and networks that are recomputed if inputs differ, and the
-- results in the meantime.
use Rattle.std.specs.Prelude.{ℕ, ◌≡◌, ◌⊎◌, ◌≤◌, false, List, Contains, Option, Some, None}
use Rattle.std.specs.FinMap.{get}
use Rattle.ospf_types.specs.declared.entry.Entry.{Entry}
use Rattle.ospf_types.specs.declared.key.Dest.{Dest}
use Rattle.ospf_types.specs.declared.key.Dest.TheVariants.{Net, Router}
use Rattle.ospf_types.specs.declared.key.Key.{Key}
use Rattle.ospf_types.specs.declared.key.Scope.TheVariants.{As}
use Rattle.ospf_types.specs.declared.prefix.Prefix.{Prefix}
use Rattle.ospf_types.specs.Boundary.{Preference}
use Rattle.ospf_types.specs.declared.hop.NextHop.{NextHop}
use Rattle.route_choice.specs.Dests.{IsNetworkAmong}
use Rattle.advertised_index.specs.declared.index_key.IndexKey.TheVariants.{By, Forwarded}
use Rattle.advertised_index.specs.AdvertisedRoute.{AdvertisedValue}
use Rattle.advertised_index.specs.Indexes.{OfferIndexValue, ChangedOffersValue, IsIndexOf, IsForwardedInto, IsLedTo, GroupLeadsTo}
use Rattle.external.specs.Inputs.{ExternalInputsValue}
use Rattle.external.specs.AsbrRoute.{PreferredByRouter, RouterOffers, IsPreferredFor}
use Rattle.external.specs.Forwards.{ForwardValue, ForwardsByAddress}
use Rattle.external.specs.Offers.{OffersBy, OffersOf}
use Rattle.external.specs.Externals.{ExternalValue, IsEntryFor, IsForwardIn}

-- ---- addresses to be looked up again

-- the network is as long as the match that is kept, or longer
abbrev pub IsNoShorterThan : Option Prefix → Prefix → Type 0
IsNoShorterThan None p = Unit {0}
IsNoShorterThan (Some m) p = m.length ≤ p.length

abbrev pub IsNoShorter : Option ForwardValue → Prefix → Type 0
IsNoShorter None p = Unit {0}
IsNoShorter (Some f) p = IsNoShorterThan f.matched p

-- the address lies in the network, which is no shorter than its match
abbrev pub IsDueInNetwork : OfferIndexValue → ForwardsByAddress → Prefix → ℕ → Type 0
IsDueInNetwork i forwards p address = IsForwardedInto i p address × IsNoShorter (get forwards address) p

-- the address lies in the network that the destination is, which is no shorter than its match
abbrev pub IsDueInDest : OfferIndexValue → ForwardsByAddress → Dest → ℕ → Type 0
IsDueInDest i forwards (Net p) address = IsDueInNetwork i forwards p address
IsDueInDest i forwards (Router r) address = ⊥

-- this address, where the network is no shorter than its match
abbrev pub IsAddressAffected : ForwardsByAddress → Prefix → ℕ → ℕ → Type 0
IsAddressAffected forwards p at address = (address ≡ at) × IsNoShorter (get forwards address) p

-- the address is affected, or lies in such a network that is named
abbrev pub IsAddressDue : (Prefix → Type 0) → List ℕ → OfferIndexValue → ForwardsByAddress → ℕ → Type 0
IsAddressDue named addresses i forwards address = Contains addresses address ⊎ ((p : Prefix) × named p × IsDueInNetwork i forwards p address)

-- each forwarding address that is not due leads where it has to
abbrev pub StandsButDue : ExternalInputsValue → OfferIndexValue → (Prefix → Type 0) → List ℕ → ForwardsByAddress → Type 0
StandsButDue v i named addresses forwards = (address : ℕ) → (IsAddressDue named addresses i forwards address → ⊥) → IsForwardIn v i address (get forwards address)

-- ---- entries by the index

-- the index has this under the key
abbrev pub IsListed : OfferIndexValue → Key → AdvertisedValue → Type 0
IsListed i k a = get i.routes k ≡ Some a

-- the entry is the best of what the index says, where routers and addresses lead as these maps say
abbrev pub IsEntryBy : ExternalInputsValue → OfferIndexValue → PreferredByRouter → ForwardsByAddress → Prefix → Option Entry → Type 0
IsEntryBy v i preferred forwards p e = IsEntryFor (OffersBy v preferred forwards (IsListed i) p) e

-- ---- destinations that are led to

-- what the router advertises leads to the destination
abbrev pub IsLedBy : OfferIndexValue → ℕ → Dest → Type 0
IsLedBy i router d = GroupLeadsTo i (By router) d

-- what is advertised with the forwarding address does
abbrev pub IsLedByAddress : OfferIndexValue → ℕ → Dest → Type 0
IsLedByAddress i address d = GroupLeadsTo i (Forwarded address) d

-- this one, where something leads to it
abbrev pub IsAlso : OfferIndexValue → Dest → Dest → Type 0
IsAlso i also d = (d ≡ also) × IsLedTo i d

-- ---- the whole

-- the index belongs to the inputs, and all else that is not due is right as it is: a named
-- network that nothing leads to has no entry
pub record StandsBut (v : ExternalInputsValue) (dests : List Dest) (affected : ChangedOffersValue) (w : ExternalValue) : Type 0 where
  pub fresh : w.spent ≡ false
  pub index : IsIndexOf v.root As v.lsas w.index
  pub preferred : (r : ℕ) → (Contains dests (Router r) → ⊥) → IsPreferredFor (RouterOffers v r) (get w.preferred r)
  pub forwards : StandsButDue v w.index (IsNetworkAmong dests) affected.addresses w.forwards
  pub entries : (p : Prefix) → (Contains affected.dests (Net p) → ⊥) → (Contains dests (Net p) → IsLedTo w.index (Net p) → ⊥) → IsEntryFor (OffersOf v w.preferred w.forwards p) (get w.entries p)

-- each AS boundary router to which something leads is among the destinations
abbrev pub HasBoundaryRouters : ExternalInputsValue → List Dest → Type 0
HasBoundaryRouters v dests = (router : ℕ) (preference : Preference) (h : NextHop) → RouterOffers v router preference h → Contains dests (Router router)

-- all that is not due is right, where each AS boundary router is named to which something leads
abbrev pub StandsButRouters : ExternalInputsValue → ChangedOffersValue → ExternalValue → Type 0
StandsButRouters v affected w = (dests : List Dest) → HasBoundaryRouters v dests → StandsBut v dests affected w

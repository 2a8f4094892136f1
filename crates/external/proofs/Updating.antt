-- External routes of which all that was due is recomputed belong to the inputs.
use Rattle.std.proofs.Common.{◌≡◌, ◌≢◌, ℕ, ◌<◌, List, ◌++◌, map, Option, Some, refl, sym, subst, ◌∙◌, inl, inr}
use Rattle.std.specs.Prelude.{◌↔◌}
use Rattle.std.specs.Coded.{Coded, coded_option}
use Rattle.std.specs.FinMap.{get}
use Rattle.std.specs.List.{Contains}
use Rattle.ospf_types.specs.declared.entry.Entry.{Entry}
use Rattle.ospf_types.specs.declared.hop.Path.{Path}
use Rattle.ospf_types.specs.declared.key.Dest.{Dest}
use Rattle.ospf_types.specs.declared.key.Dest.TheVariants.{Net, Router}
use Rattle.ospf_types.specs.declared.key.Key.{Key}
use Rattle.ospf_types.specs.declared.key.Scope.TheVariants.{As}
use Rattle.ospf_types.specs.declared.prefix.Prefix.{Prefix}
use Rattle.ospf_types.specs.External.{ExternalPreference}
use Rattle.route_choice.specs.Lists.{GainsAll, HasMore, IsOfSome}
use Rattle.route_choice.proofs.Among.{net_among, router_among}
use Rattle.intra.specs.Intras.{EntriesByPrefix}
use Rattle.advertised_index.specs.AdvertisedRoute.{AdvertisedValue}
use Rattle.advertised_index.specs.Indexes.{ChangedOffersValue, IsIndexOf, OfferIndexValue}
use Rattle.external.specs.Changes.{DiffersAt}
use Rattle.external.specs.Externals.{ExternalValue, IsEntryFor}
use Rattle.external.specs.Forwards.{ForwardValue, ForwardsByAddress}
use Rattle.external.specs.Inputs.{ExternalInputsValue}
use Rattle.external.specs.Offers.{AdvertisedOffers, ForwardLeads, OffersBy, OffersOf}
use Rattle.external.specs.AsbrRoute.{PreferredByRouter, PreferredValue}
use Rattle.external.specs.Updating.{IsAlso, IsEntryBy, IsLedBy, IsLedByAddress, IsListed, StandsBut}
use Rattle.external.specs.contracts.forward.ForwardingMatch as kept_forward
use Rattle.external.specs.contracts.preferred.AsbrRoute as kept_entry
use Rattle.external.proofs.Frame.{entry_same}
use Rattle.ospf_types.proofs.Stable.{same_value}

preferred_coded : Coded (Option PreferredValue)
preferred_coded = coded_option kept_entry.the_row.coded

forward_coded : Coded (Option ForwardValue)
forward_coded = coded_option kept_forward.the_row.coded

-- what is advertised offers the same where the router leads as before, and the forwarding address,
-- if there is one
advertised_offers : (k : Key) (a : AdvertisedValue) (was is : Option PreferredValue) (before after : Option ForwardValue) → is ≡ was → (0 < a.forwarding → after ≡ before) → (preference : ExternalPreference) (path : Path)
    → AdvertisedOffers was before k a preference path → AdvertisedOffers is after k a preference path
advertised_offers k a was is before after preferred forward preference path o =
    subst (λ (w : Option PreferredValue). AdvertisedOffers w after k a preference path) (sym preferred) (
      o.0,
      o.1,
      o.2,
      o.3,
      elim o.4 [
        | inl direct ↦ inl direct
        | inr d ↦ inr (d.0, subst (λ (f : Option ForwardValue). ForwardLeads f o.0 o.1 o.2) (sym (forward d.0)) d.1)
      ],
      o.5,
      o.6,
    )

-- by the index, and by the LSAs
module _ (v : ExternalInputsValue) (i : OfferIndexValue) (index : IsIndexOf v.root As v.lsas i) (preferred : PreferredByRouter) (forwards : ForwardsByAddress) (p : Prefix) where
  same_offers : (preference : ExternalPreference) (path : Path) → OffersBy v preferred forwards (IsListed i) p preference path ↔ OffersOf v preferred forwards p preference path
  same_offers preference path = (
    λ o. (o.0, o.1, sym (index o.0) ∙ o.2, o.3, o.4, o.5),
    λ o. (o.0, o.1, index o.0 ∙ o.2, o.3, o.4, o.5),
  )

  pub entry_listed : (e : Option Entry) → IsEntryBy v i preferred forwards p e → IsEntryFor (OffersOf v preferred forwards p) e
  entry_listed e is = entry_same (OffersBy v preferred forwards (IsListed i) p) (OffersOf v preferred forwards p) same_offers e is

  entry_advertised : (e : Option Entry) → IsEntryFor (OffersOf v preferred forwards p) e → IsEntryBy v i preferred forwards p e
  entry_advertised e is = entry_same (OffersOf v preferred forwards p) (OffersBy v preferred forwards (IsListed i) p) (λ preference path. let both = same_offers preference path in (both.1, both.0)) e is

module _ (v : ExternalInputsValue) (dests : List Dest) (affected : ChangedOffersValue) (old : ExternalValue) (preferred : PreferredByRouter) (forwards : ForwardsByAddress)
    (routers moved : List ℕ) (by_routers led leading : List Dest) (stands : StandsBut v dests affected old)
    (changed : (r : ℕ) → Contains routers r ↔ (get preferred r ≢ get old.preferred r)) (elsewhere : (a : ℕ) → Contains moved a ↔ (get forwards a ≢ get old.forwards a))
    (first : HasMore (IsOfSome routers (IsLedBy old.index)) affected.dests by_routers) (second : HasMore (IsOfSome moved (IsLedByAddress old.index)) by_routers led) (third : GainsAll (IsOfSome dests (IsAlso old.index)) led leading)
    (p : Prefix) (absent : Contains leading (Net p) → ⊥) where
  not_led : Contains led (Net p) → ⊥
  not_led c = absent (third (Net p) (inl c))

  not_by_routers : Contains by_routers (Net p) → ⊥
  not_by_routers c = not_led ((second (Net p)).1 (inl c))

  -- to a network to which nothing leads that differs the same is offered
  same_preferred : (k : Key) (a : AdvertisedValue) → get old.index.routes k ≡ Some a → a.dest ≡ Net p → get preferred k.router ≡ get old.preferred k.router
  same_preferred k a listed dest = same_value preferred_coded (get preferred k.router) (get old.preferred k.router) (λ other.
      not_by_routers ((first (Net p)).1 (inr (k.router, (changed k.router).1 other, (k, a, listed, refl, dest)))))

  same_forward : (k : Key) (a : AdvertisedValue) → get old.index.routes k ≡ Some a → a.dest ≡ Net p → 0 < a.forwarding → get forwards a.forwarding ≡ get old.forwards a.forwarding
  same_forward k a listed dest some = same_value forward_coded (get forwards a.forwarding) (get old.forwards a.forwarding) (λ other.
      not_led ((second (Net p)).1 (inr (a.forwarding, (elsewhere a.forwarding).1 other, (k, a, listed, (some, refl), dest)))))

  offered_alike : (preference : ExternalPreference) (path : Path) → OffersOf v old.preferred old.forwards p preference path ↔ OffersOf v preferred forwards p preference path
  offered_alike preference path = (
    λ o.
        let listed = stands.index o.0 ∙ o.2 in
        (o.0, o.1, o.2, o.3, o.4, advertised_offers o.0 o.1 (get old.preferred o.0.router) (get preferred o.0.router) (get old.forwards o.1.forwarding) (get forwards o.1.forwarding) (same_preferred o.0 o.1 listed o.3) (same_forward o.0 o.1 listed o.3) preference path o.5),
    λ o.
        let listed = stands.index o.0 ∙ o.2 in
        (o.0, o.1, o.2, o.3, o.4, advertised_offers o.0 o.1 (get preferred o.0.router) (get old.preferred o.0.router) (get forwards o.1.forwarding) (get old.forwards o.1.forwarding) (sym (same_preferred o.0 o.1 listed o.3)) (λ some. sym (same_forward o.0 o.1 listed o.3 some)) preference path o.5),
  )

  -- so its entry stands
  pub entry_stands : IsEntryBy v old.index preferred forwards p (get old.entries p)
  entry_stands =
      let was = stands.entries p (λ c. not_by_routers ((first (Net p)).1 (inl c))) (λ c leads. absent (third (Net p) (inr (Net p, c, (refl, leads))))) in
      entry_advertised v old.index stands.index preferred forwards p (get old.entries p) (entry_same (OffersOf v old.preferred old.forwards p) (OffersOf v preferred forwards p) offered_alike (get old.entries p) was)

-- just the destinations whose result differs are reported
pub exactly : (old new : ExternalValue) (networks : List Prefix) (routers : List ℕ) → ((p : Prefix) → Contains networks p ↔ (get new.entries p ≢ get old.entries p)) → ((r : ℕ) → Contains routers r ↔ (get new.preferred r ≢ get old.preferred r))
    → (d : Dest) → Contains (map Net networks ++ map Router routers) d ↔ DiffersAt old new d
exactly old new networks routers nets others (Net p) = let among = net_among networks routers p in (λ c. (nets p).0 (among.0 c), λ differs. among.1 ((nets p).1 differs))
exactly old new networks routers nets others (Router r) = let among = router_among networks routers r in (λ c. (others r).0 (among.0 c), λ differs. among.1 ((others r).1 differs))

-- whether a result differs does not rest on the index
pub differs_same : (one other new : ExternalValue) → other.preferred ≡ one.preferred → other.entries ≡ one.entries → (d : Dest) → DiffersAt other new d ↔ DiffersAt one new d
differs_same one other new preferred entries (Net p) = (
  λ differs. subst (λ (m : EntriesByPrefix). get new.entries p ≢ get m p) entries differs,
  λ differs. subst (λ (m : EntriesByPrefix). get new.entries p ≢ get m p) (sym entries) differs,
)
differs_same one other new preferred entries (Router r) = (
  λ differs. subst (λ (m : PreferredByRouter). get new.preferred r ≢ get m r) preferred differs,
  λ differs. subst (λ (m : PreferredByRouter). get new.preferred r ≢ get m r) (sym preferred) differs,
)

-- External routes are as defined (RFC 2328, 16.4).
--   external_offered: what AS-external-LSAs offer is what the definitions say
--   external_right: the routes of the inputs are right for what the inputs speak of
use Rattle.std.proofs.Common.{◌≡◌, ◌≢◌, ℕ, ◌<◌, Bool, true, false, true≢false, ◌||◌, ◌==◌, cond, List, Option, Some, None, refl, sym, ap, subst, ◌∙◌, inl, inr}
use Rattle.std.specs.Prelude.{◌↔◌, IsSome, nat_le}
use Rattle.std.specs.FinMap.{get}
use Rattle.std.specs.List.{Contains}
use Rattle.std.proofs.lemmas.Bool.{eqb-false, leb-false, ne_eqb, lt-leb}
use Rattle.ospf_types.specs.declared.entry.Entry.{Entry}
use Rattle.ospf_types.specs.declared.hop.NextHop.{NextHop}
use Rattle.ospf_types.specs.declared.hop.Path.{Path}
use Rattle.ospf_types.specs.declared.key.Dest.TheVariants.{Net}
use Rattle.ospf_types.specs.declared.key.Key.{Key}
use Rattle.ospf_types.specs.declared.key.Scope.TheVariants.{As}
use Rattle.ospf_types.specs.declared.prefix.Prefix.{Prefix}
use Rattle.ospf_types.specs.Boundary.{Preference, preference_cmp, BoundaryOffers, IsPreferred}
use Rattle.ospf_types.specs.External.{ExternalPreference, external_cmp, ExternalOffers, ForwardOffers}
use Rattle.ospf_types.specs.Inputs.{Inputs}
use Rattle.ospf_types.specs.Inter.{LSInfinity, through}
use Rattle.ospf_types.specs.Lsa.{Lsa, Body, ExternalRecord, RouterLinks, NetworkLinks, NetworkSummary, BoundarySummary, AsExternal, key_of, network_of}
use Rattle.ospf_types.proofs.OneBest.{same_key}
use Rattle.ospf_types.proofs.Orders.{preference_total, preference_exact}
use Rattle.lsdb.specs.Contents.{body_at}
use Rattle.area_trees.proofs.Held.{under_key, among_values, held_by, used_of}
use Rattle.intra.proofs.Frame.{best_same}
use Rattle.advertised_index.specs.AdvertisedRoute.{AdvertisedValue, advertised_at, unless_useless}
use Rattle.external.specs.Externals.{ExternalValue, IsEntryFor, IsExternalOf, IsForwardIn}
use Rattle.external.specs.Forwards.{ForwardValue}
use Rattle.external.specs.Inputs.{ExternalInputsValue}
use Rattle.external.specs.Offers.{ForwardLeads, IsAdvertised, LeadsOnward, OffersOf, PreferredLeads, preference_of}
use Rattle.external.specs.AsbrRoute.{PreferredValue, RouterOffers, IsPreferredFor}
use Rattle.external.specs.Right.{AreInputsOf, IsRightFor}
use Rattle.external.proofs.RightPreferred.{router_offered}
use Rattle.external.proofs.RightForwards.{ForwardReaches, nothing_inside, forward_right}

-- ---- alike offers

-- an entry for the offers is one for the same offers
entry_same : (one other : ExternalPreference → Path → Type 0) → ((k : ExternalPreference) (path : Path) → one k path ↔ other k path) → (e : Option Entry) → IsEntryFor one e → IsEntryFor other e
entry_same one other same None none = λ k path offered. none k path ((same k path).1 offered)
entry_same one other same (Some e) is = (is.0, best_same one other same external_cmp is.0 e.paths is.1, is.2, is.3)

-- and so is a preferred entry
preferred_same : (one other : Preference → NextHop → Type 0) → ((k : Preference) (h : NextHop) → one k h ↔ other k h) → (w : Option PreferredValue) → IsPreferredFor one w → IsPreferredFor other w
preferred_same one other same None none = λ k h offered. none k h ((same k h).1 offered)
preferred_same one other same (Some w) is = (best_same one other same preference_cmp w.preference w.hops is.0, is.1)

-- ---- what an AS-external-LSA says

passed : (own far : Bool) (a b : AdvertisedValue) → cond (own || far) None (Some a) ≡ Some b → (own ≡ false) × (far ≡ false) × (a ≡ b)
passed true far a b e = absurd cc
passed false true a b e = absurd cc
passed false false a b e = (refl, refl, (let same : Some a ≡ Some b = e in cc))

-- what is advertised is another router's, and below LSInfinity
useful : (root : ℕ) (k : Key) (metric : ℕ) (a b : AdvertisedValue) → unless_useless root k metric a ≡ Some b → (k.router ≢ root) × (metric < LSInfinity) × (a ≡ b)
useful root k metric a b e =
    let p = passed (k.router == root) (nat_le LSInfinity metric) a b e in
    (eqb-false k.router root p.0, leb-false LSInfinity metric p.1, p.2)

not_useless : (root : ℕ) (k : Key) (metric : ℕ) (a : AdvertisedValue) → k.router ≢ root → metric < LSInfinity → unless_useless root k metric a ≡ Some a
not_useless root k metric a other lt =
    (λ i. cond (ne_eqb k.router root other i || nat_le LSInfinity metric) None (Some a)) ∙ (λ i. cond (false || lt-leb LSInfinity metric lt i) None (Some a))

abbrev external_of : ℕ → ℕ → ExternalRecord → AdvertisedValue
external_of id mask first = record { dest = Net (network_of id mask); metric = first.metric; is_type_2 = first.is_type_2; forwarding = first.forwarding }

-- an AS-external-LSA for the network
record SaysExternal (root : ℕ) (k : Key) (body : Option Body) (p : Prefix) (a : AdvertisedValue) : Type 0 where
  mask : ℕ
  first : ExternalRecord
  more : List ExternalRecord
  external : body ≡ Some (AsExternal mask first more)
  network : network_of k.id mask ≡ p
  same : external_of k.id mask first ≡ a
  finite : first.metric < LSInfinity
  foreign : k.router ≢ root

external_said : (root : ℕ) (k : Key) (body : Option Body) (a : AdvertisedValue) (p : Prefix) → advertised_at root As k body ≡ Some a → a.dest ≡ Net p → SaysExternal root k body p a
external_said root k None a p e to = absurd cc
external_said root k (Some (RouterLinks flags links)) a p e to = absurd cc
external_said root k (Some (NetworkLinks mask routers)) a p e to = absurd cc
external_said root k (Some (NetworkSummary mask metric tos)) a p e to = absurd cc
external_said root k (Some (BoundarySummary metric tos)) a p e to = absurd cc
external_said root k (Some (AsExternal mask first more)) a p e to =
    let u = useful root k first.metric (external_of k.id mask first) a e in
    let net : Net (network_of k.id mask) ≡ Net p = ap (λ (x : AdvertisedValue). x.dest) u.2 ∙ to in
    record {
      mask = mask;
      first = first;
      more = more;
      external = refl;
      network = cc;
      same = u.2;
      finite = u.1;
      foreign = u.0;
    }

-- ---- where it leads

module _ (s : Inputs) (v : ExternalInputsValue) (are : AreInputsOf s v) (w : ExternalValue) (is : IsExternalOf v w) where
  -- each AS boundary router has the preferred entry that the definitions give
  preferred_right : (router : ℕ) → IsPreferredFor (BoundaryOffers s router) (get w.preferred router)
  preferred_right router = preferred_same (RouterOffers v router) (BoundaryOffers s router) (router_offered s v are router) (get w.preferred router) (is.preferred router)

  -- it has one where they give it one
  has_preferred : (router : ℕ) (o : Option PreferredValue) → IsPreferredFor (BoundaryOffers s router) o → IsSome o ↔ ((preference : Preference) × (hops : List NextHop) × IsPreferred s router preference hops)
  has_preferred router None none = (λ some. absurd (true≢false (sym some)), λ best. absurd (none best.0 best.2.stands.0 best.2.stands.1))
  has_preferred router (Some e) best = (λ some. (e.preference, e.hops, best.0), λ other. refl)

  -- and leads where they say
  preferred_leads : (router : ℕ) (o : Option PreferredValue) → IsPreferredFor (BoundaryOffers s router) o → (class x : ℕ) (h : NextHop)
      → PreferredLeads o class x h ↔ ((preference : Preference) × (hops : List NextHop) × IsPreferred s router preference hops × Contains hops h × (preference.class ≡ class) × (preference.cost ≡ x))
  preferred_leads router None none class x h = (λ l. absurd l, λ best. absurd (none best.0 best.2.stands.0 best.2.stands.1))
  preferred_leads router (Some e) best class x h = (
    λ l. (e.preference, e.hops, best.0, l.2, l.0, l.1),
    λ other.
        let same : e.preference ≡ other.0 = same_key preference_total preference_exact (BoundaryOffers s router) e.preference other.0 e.hops other.1 best.0 other.2 in (
          ap (λ (k : Preference). k.class) same ∙ other.4,
          ap (λ (k : Preference). k.cost) same ∙ other.5,
          (best.0.union h).1 (subst (λ (k : Preference). BoundaryOffers s router k h) (sym same) ((other.2.union h).0 other.3)),
        ),
  )

  -- so does a forwarding address that is advertised
  forward_leads : (k : Key) (a : AdvertisedValue) → IsAdvertised v k a → 0 < a.forwarding → (o : Option ForwardValue) → IsForwardIn v w.index a.forwarding o
      → (class x : ℕ) (h : NextHop) → ForwardLeads o class x h ↔ ForwardReaches s a.forwarding class x h
  forward_leads k a advertised some None none = absurd (none (k, (a, is.index k ∙ advertised, (some, refl))))
  forward_leads k a advertised some (Some f) forward = forward_right s v are a.forwarding f forward.1

  leads_right : (k : Key) (a : AdvertisedValue) → IsAdvertised v k a → (class x : ℕ) (h : NextHop)
      → LeadsOnward (get w.preferred k.router) (get w.forwards a.forwarding) a.forwarding class x h ↔ ForwardOffers s k.router a.forwarding class x h
  leads_right k a advertised class x h =
      let direct = preferred_leads k.router (get w.preferred k.router) (preferred_right k.router) class x h in (
        λ l. elim l [
          | inl here ↦ inl (here.0, direct.0 here.1)
          | inr there ↦ inr (there.0, (forward_leads k a advertised there.0 (get w.forwards a.forwarding) (is.forwards a.forwarding) class x h).0 there.1)
        ],
        λ l. elim l [
          | inl here ↦ inl (here.0, direct.1 here.1)
          | inr there ↦ inr (there.0, (forward_leads k a advertised there.0 (get w.forwards a.forwarding) (is.forwards a.forwarding) class x h).1 there.1)
        ],
      )

  -- ---- what is offered

  offered : (p : Prefix) (preference : ExternalPreference) (path : Path) → OffersOf v w.preferred w.forwards p preference path → ExternalOffers s p preference path
  offered p preference path o =
      let k = o.0 in
      let a = o.1 in
      let said = external_said v.root k (body_at v.lsas k) a p o.2 o.3 in
      let held = held_by v.lsas k (AsExternal said.mask said.first said.more) said.external in
      let l = held.0 in
      let own : k ≡ key_of l = are.sound.under_own_key k l held.1 in
      let router : k.router ≡ l.header.router = ap (λ (x : Key). x.router) own in
      let way = o.5 in
      let none = (nothing_inside s v are p).0 o.4 in (
        l,
        said.first,
        way.0,
        way.1,
        way.2,
        record {
          held = subst (λ (ls : List Lsa). Contains ls l) (sym are.lsas) (among_values v.lsas k l held.1);
          usable = held.2;
          body = (said.mask, said.more, held.3, ap (λ (x : Key). network_of x.id said.mask) (sym own) ∙ said.network);
          finite = said.finite;
          foreign = λ root. said.foreign (router ∙ root ∙ sym are.router);
          reached = subst (λ (r : ℕ). (k : Preference) × (hops : List NextHop) × IsPreferred s r k hops) router ((has_preferred k.router (get w.preferred k.router) (preferred_right k.router)).0 way.3);
        },
        subst (λ (r : ℕ). ForwardOffers s r said.first.forwarding way.0 way.1 way.2) router
            (subst (λ (x : AdvertisedValue). ForwardOffers s k.router x.forwarding way.0 way.1 way.2) (sym said.same) ((leads_right k a o.2 way.0 way.1 way.2).0 way.4)),
        none.0,
        none.1,
        way.5 ∙ ap (λ (x : AdvertisedValue). preference_of x way.0 way.1) (sym said.same),
        way.6 ∙ ap (λ (x : Key). through x.router way.2) own,
      )

  offers : (p : Prefix) (preference : ExternalPreference) (path : Path) → ExternalOffers s p preference path → OffersOf v w.preferred w.forwards p preference path
  offers p preference path o =
      let l = o.0 in
      let first = o.1 in
      let may = o.5 in
      let k = key_of l in
      let a = external_of l.header.id may.body.0 first in
      let under = under_key v.lsas l (subst (λ (ls : List Lsa). Contains ls l) are.lsas may.held) in
      let there = subst (λ (x : Key). get v.lsas x ≡ Some l) (are.sound.under_own_key under.0 l under.1) under.1 in
      let body : body_at v.lsas k ≡ Some (AsExternal may.body.0 first may.body.1) = used_of v.lsas k l there may.usable ∙ ap Some may.body.2 in
      let says : advertised_at v.root As k (body_at v.lsas k) ≡ Some a = ap (advertised_at v.root As k) body ∙ not_useless v.root k first.metric a (λ root. may.foreign (root ∙ are.router)) may.finite in (
        k,
        a,
        says,
        ap Net may.body.3,
        (nothing_inside s v are p).1 (o.7, o.8),
        (
          o.2,
          o.3,
          o.4,
          (has_preferred k.router (get w.preferred k.router) (preferred_right k.router)).1 may.reached,
          (leads_right k a says o.2 o.3 o.4).1 o.6,
          o.9,
          o.10,
        ),
      )

  -- what AS-external-LSAs offer is what the definitions say
  pub external_offered : (p : Prefix) (preference : ExternalPreference) (path : Path) → OffersOf v w.preferred w.forwards p preference path ↔ ExternalOffers s p preference path
  external_offered p preference path = (offered p preference path, offers p preference path)

-- the routes of the inputs are right for what the inputs speak of
pub external_right : (s : Inputs) (v : ExternalInputsValue) (w : ExternalValue) → IsExternalOf v w → AreInputsOf s v → IsRightFor s w
external_right s v w is are = record {
  entries = λ p. entry_same (OffersOf v w.preferred w.forwards p) (ExternalOffers s p) (external_offered s v are w is p) (get w.entries p) (is.entries p);
  preferred = preferred_right s v are w is;
}

-- The offers that are taken from the LSA of a vertex belong to the definition.
use Rattle.std.proofs.Common.{◌≡◌, ◌≢◌, ℕ, Bool, true, false, cond, nat_eq, length, List, [], ◌∷◌, map, Option, Some, None, refl, sym, ap, subst, ◌∙◌, ⊎_elim, arith}
use Rattle.std.specs.Prelude.{◌↔◌, ◌==◌, unwrap_or}
use Rattle.std.specs.List.{AllPairs, Contains, filter_map, cons_option}
use Rattle.std.proofs.lemmas.Bool.{eqb-true}
use Rattle.ospf_types.specs.declared.entry.Vertex.{Vertex}
use Rattle.ospf_types.specs.declared.entry.Vertex.TheVariants.{Router, Network}
use Rattle.ospf_types.specs.declared.lsa.LinkKind.{LinkKind}
use Rattle.ospf_types.specs.declared.lsa.LinkKind.TheVariants as kind
use Rattle.ospf_types.specs.declared.prefix.Prefix.{Prefix}
use Rattle.ospf_types.specs.Lsa.{Body, Lsa, RouterLink, key_of, network_of}
use Rattle.ospf_types.proofs.Elements.{no_element, first_element, first_or_later}
use Rattle.lsa_codec.specs.Readers.{links_of, prefix_of, without_tos}
use Rattle.area_trees.specs.Areas.{vertex_of}
use Rattle.vertex_graph.proofs.Gathered.{given_from, given}
use Rattle.intra.specs.declared.offered.OfferedPrefix.{OfferedPrefix}
use Rattle.intra.specs.Indexes.{bits_of}
use Rattle.intra.specs.Offers.{BodyOffers}
use Rattle.intra.specs.Stubs.{offer_by, offer_of_link, stub_of_link, transit_offers}

abbrev record_of : Prefix → ℕ → OfferedPrefix
record_of p metric = record { prefix = p; metric = metric }

-- the list has what the vertex offers by the body, and nothing else
abbrev pub HasOffersOf : Vertex → Body → List OfferedPrefix → Type 0
HasOffersOf v body offers = (p : Prefix) (metric : ℕ) → Contains offers (record { prefix = p; metric = metric }) ↔ BodyOffers v body p metric

-- the TOS entries of a link do not count
pub stubs_without_tos : (ls : List RouterLink) → filter_map offer_of_link (map without_tos ls) ≡ filter_map stub_of_link ls
stubs_without_tos [] = refl
stubs_without_tos (l ∷ ls) = ap (cons_option (stub_of_link l)) (stubs_without_tos ls)

-- a link that offers something is a stub link
kind_is : (k : LinkKind) (l : RouterLink) (p : Prefix) (metric : ℕ) → offer_by k (without_tos l) ≡ Some (record { prefix = p; metric = metric })
    → (k ≡ kind.Stub) × (network_of l.id l.detail ≡ p) × (l.metric ≡ metric)
kind_is kind.PointToPoint l p metric e = absurd cc
kind_is kind.Transit l p metric e = absurd cc
kind_is kind.Stub l p metric e =
    let same : record_of (network_of l.id l.detail) l.metric ≡ record_of p metric = ap (λ o. unwrap_or o (record_of p metric)) e in
    (refl, ap (λ (o : OfferedPrefix). o.prefix) same, ap (λ (o : OfferedPrefix). o.metric) same)
kind_is kind.Virtual l p metric e = absurd cc

pub router_offers : (router : ℕ) (body : Body) → HasOffersOf (Router router) body (filter_map stub_of_link (links_of body))
router_offers router body p metric = (
  λ has. let from = given_from stub_of_link (links_of body) (record { prefix = p; metric = metric }) has in
      let is = kind_is from.0.kind from.0 p metric from.2 in
      (from.0, from.1, is.0, is.1, is.2),
  λ offers. given stub_of_link (links_of body) offers.0 (record { prefix = p; metric = metric }) offers.1
      (ap (λ k. offer_by k (without_tos offers.0)) offers.2 ∙ (λ i. Some (record { prefix = offers.3 i; metric = offers.4 i }))),
)

transit_has : (o : Option Prefix) (p : Prefix) (metric : ℕ) → Contains (transit_offers o) (record { prefix = p; metric = metric }) ↔ ((o ≡ Some p) × (metric ≡ 0))
transit_has None p metric = (λ has. absurd (no_element _ has), λ is. absurd cc)
transit_has (Some q) p metric = (
  λ has. ⊎_elim
      (λ (same : record_of p metric ≡ record_of q 0). (ap (λ (o : OfferedPrefix). Some o.prefix) (sym same), ap (λ (o : OfferedPrefix). o.metric) same))
      (λ (none : Contains [] (record_of p metric)). absurd (no_element _ none))
      (first_or_later (record_of q 0) (record_of p metric) [] has),
  λ is. let same : q ≡ p = ap (λ o. unwrap_or o p) is.0 in
      subst (Contains (transit_offers (Some q))) (λ i. record_of (same i) (sym is.1 i)) (first_element (record_of q 0) []),
)

network_has : (l : Lsa) → HasOffersOf (Network l.header.id) l.body (transit_offers (prefix_of l))
network_has l p metric = transit_has (prefix_of l) p metric

-- the vertex of a key of a network-LSA has its Link State ID
network_number : (router id : Bool) (r n m : ℕ) → cond router (Some (Router r)) (cond id (Some (Network n)) None) ≡ Some (Network m) → n ≡ m
network_number true id r n m e = absurd cc
network_number false true r n m e = cc
network_number false false r n m e = absurd cc

-- what the vertex of an LSA offers, by the LSA's own Link State ID
pub network_has_at : (n : ℕ) (l : Lsa) → vertex_of (key_of l) ≡ Some (Network n) → HasOffersOf (Network n) l.body (transit_offers (prefix_of l))
network_has_at n l own =
    subst (λ (id : ℕ). HasOffersOf (Network id) l.body (transit_offers (prefix_of l))) (network_number (l.header.kind == 1) (l.header.kind == 2) l.header.router l.header.id n own) (network_has l)

pub has_offers_of_same : (v w : Vertex) (body : Body) (given is : List OfferedPrefix) → v ≡ w → ((o : OfferedPrefix) → Contains given o ↔ Contains is o) → HasOffersOf w body is → HasOffersOf v body given
has_offers_of_same v w body given is same alike has p metric =
    let at = alike (record_of p metric) in
    let there = subst (λ (x : Vertex). HasOffersOf x body is) (sym same) has p metric in
    (λ c. there.0 (at.0 c), λ offers. at.1 (there.1 offers))

-- a transit network offers one prefix at most
pub transit_once : (o : Option Prefix) → AllPairs (λ a b. a ≢ b) (transit_offers o)
transit_once None i j d lt within = absurd (omega (arith, within))
transit_once (Some p) i j d lt within = absurd (omega (arith, lt, within))

pub has_offers_of_eq : (v w : Vertex) (body : Body) (given is : List OfferedPrefix) → v ≡ w → given ≡ is → HasOffersOf w body is → HasOffersOf v body given
has_offers_of_eq v w body given is same equal has = subst (λ (x : Vertex). HasOffersOf x body given) (sym same) (subst (HasOffersOf w body) (sym equal) has)

pub bits_are : (flags : Option ℕ) → unwrap_or flags 0 ≡ bits_of flags
bits_are None = refl
bits_are (Some flags) = refl

pub empty_of : {X : Type 0} (xs : List X) → nat_eq (length xs) 0 ≡ true → xs ≡ []
empty_of [] e = refl
empty_of (x ∷ xs) e = let none : length (x ∷ xs) ≡ 0 = eqb-true (length (x ∷ xs)) 0 e in absurd (omega (arith, none))

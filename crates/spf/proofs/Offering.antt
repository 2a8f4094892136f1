-- Offers that are made one after the other.
use Rattle.std.proofs.Common.{◌≡◌, ◌≢◌, ℕ, ◌+◌, ◌<◌, ◌≤◌, List, [], ◌∷◌, ◌++◌, length, take, get_or, true, false, Option, Some, None, refl, sym, ap, subst, ◌∙◌, ◌⊎◌, inl, inr, arith}
use Rattle.std.specs.List.{Contains}
use Rattle.std.specs.Prelude.{◌↔◌, nat_le, if◌then◌else◌}
use Rattle.std.specs.FinMap.{get, insert}
use Rattle.std.proofs.lemmas.Bool.Decides.{nat_tests}
use Rattle.std.proofs.lemmas.List.{take_more, get_or_default}
use Rattle.std.proofs.lemmas.List.Elements.{Contains-append_left, Contains-push, Contains-push_cases}
use Rattle.ospf_types.specs.declared.entry.Vertex.{Vertex}
use Rattle.ospf_types.specs.declared.entry.Vertex.TheVariants.{Router}
use Rattle.ospf_types.specs.Distances.{Links}
use Rattle.vertex_graph.specs.GraphLink.{GraphLink}
use Rattle.vertex_queue.specs.Queues.{Queue, waits_within, lessened}
use Rattle.vertex_queue.proofs.Ranks.{lessened_here, lessened_elsewhere}
use Rattle.vertex_queue.specs.VertexSet.{IsAdded}
use Rattle.vertex_queue.proofs.Elements.{cases_vertex}
use Rattle.vertex_queue.proofs.VertexMaps.{set_here}
use Rattle.spf.specs.declared.relax.Pending.{Pending}
use Rattle.spf.specs.Changes.{link_value}
use Rattle.spf.specs.Trees.{IsInLimit}
use Rattle.spf.specs.Offers.{Offers, OneOffer, OverLink, OverLinks, OverReached, OutOf, Into, AreMade}
use Rattle.spf.proofs.QueuedDistances.{within_more}

-- ---- the elements of a list so far

module _ {X : Type 0} (xs : List X) (i : ℕ) (x : X) (within : i < length xs) (is : x ≡ get_or xs i x) where
  one_more : take (i + 1) xs ≡ take i xs ++ x ∷ []
  one_more = take_more xs i x within ∙ ap (λ (y : X). take i xs ++ y ∷ []) (sym is)

  pub still_contained : (y : X) → Contains (take i xs) y → Contains (take (i + 1) xs) y
  still_contained y c = subst (λ (ys : List X). Contains ys y) (sym one_more) (Contains-append_left (take i xs) (x ∷ []) y c)

  pub now_contained : Contains (take (i + 1) xs) x
  now_contained = subst (λ (ys : List X). Contains ys x) (sym one_more) (Contains-push (take i xs) x)

  pub contained_so_far : (y : X) → Contains (take (i + 1) xs) y → Contains (take i xs) y ⊎ (x ≡ y)
  contained_so_far y c = Contains-push_cases (take i xs) x y (subst (λ (ys : List X). Contains ys y) one_more c)

-- ---- one offer

at_itself : (value : Option ℕ) (e : ℕ) → value ≡ Some e → IsInLimit value e
at_itself value e is = record { number = e; is = is; most = omega arith }

module _ (distance : Vertex → Option ℕ) (v : Vertex) (k : ℕ) where
  -- a nearer one is queued
  pub offer_queued : (queue : Queue) (stale : List Vertex) → ((d : ℕ) → distance v ≡ Some d → k < d) → AreMade (OneOffer v k) distance (get queue) (get (lessened queue v k)) stale stale
  offer_queued queue stale nearer = record {
    keeps = λ w e waits. elim (cases_vertex w v) [
      | inr other ↦ at_itself (get (lessened queue v k) w) e (lessened_elsewhere queue v w k other ∙ waits)
      | inl same ↦ subst (λ u. IsInLimit (get (lessened queue v k) u) e) (sym same) (kept_here e (ap (get queue) (sym same) ∙ waits))
    ];
    put = λ w e waits. elim (cases_vertex w v) [
      | inr other ↦ inl (sym (lessened_elsewhere queue v w k other) ∙ waits)
      | inl same ↦
          let number : here.0 ≡ e = let both : Some here.0 ≡ Some e = sym here.1 ∙ ap (get (lessened queue v k)) (sym same) ∙ waits in cc in
          elim here.3 [
            | inl new ↦ inr ((same, sym number ∙ new), λ d at. omega (arith, nearer d (ap distance (sym same) ∙ at), number, new))
            | inr was ↦ inl (ap (get queue) same ∙ was ∙ ap Some number)
          ]
    ];
    offered = λ w e offer. inr (record { number = here.0; is = ap (get (lessened queue v k)) offer.0 ∙ here.1; most = omega (arith, here.2, offer.1) });
    widens = λ w c. c;
    tells = λ w e offer at. absurd (omega (arith, nearer e (ap distance (sym offer.0) ∙ at), offer.1));
    why = λ w c. inl c;
  }
    where
      here : (e : ℕ) × (get (lessened queue v k) v ≡ Some e) × (e ≤ k) × ((e ≡ k) ⊎ (get queue v ≡ Some e))
      here = lessened_here queue v k

      kept_here : (e : ℕ) → get queue v ≡ Some e → IsInLimit (get (lessened queue v k) v) e
      kept_here e waits = subst (λ (q : Queue). IsInLimit (get q v) e) (sym (ap (λ (o : Option ℕ). if waits_within o k then queue else insert queue v k) waits)) (elim (nat_le e k) as (λ b. nat_le e k ≡ b → IsInLimit (get (if b then queue else insert queue v k) v) e) [
        | true ↦ λ within. at_itself (get queue v) e waits
        | false ↦ λ nearer. record { number = k; is = set_here queue v k; most = grind (arith, nat_tests, nearer) }
      ] refl)

  pub queued : (queue more : Queue) (stale : List Vertex) → ((d : ℕ) → distance v ≡ Some d → k < d) → more ≡ lessened queue v k → AreMade (OneOffer v k) distance (get queue) (get more) stale stale
  queued queue more stale nearer is = subst (λ (q : Queue). AreMade (OneOffer v k) distance (get queue) (get q) stale stale) (sym is) (offer_queued queue stale nearer)

  -- one that is as near makes the vertex stale
  pub offer_told : (queue : Vertex → Option ℕ) (stale wider : List Vertex) → distance v ≡ Some k → IsAdded stale wider v → AreMade (OneOffer v k) distance queue queue stale wider
  offer_told queue stale wider at added = record {
    keeps = λ w e waits. at_itself (queue w) e waits;
    put = λ w e waits. inl waits;
    offered = λ w e offer. inl (record { number = k; is = ap distance offer.0 ∙ at; most = omega (arith, offer.1) });
    widens = added.grows;
    tells = λ w e offer at_w. subst (λ u. Contains wider u) (sym offer.0) added.here;
    why = λ w c. elim (added.only w c) [ inl same ↦ inr (k, (same, refl), ap distance same ∙ at) | inr was ↦ inl was ];
  }

  -- a farther one does nothing
  pub offer_passed : (queue : Vertex → Option ℕ) (stale : List Vertex) (d : ℕ) → distance v ≡ Some d → d < k → AreMade (OneOffer v k) distance queue queue stale stale
  offer_passed queue stale d at less = record {
    keeps = λ w e waits. at_itself (queue w) e waits;
    put = λ w e waits. inl waits;
    offered = λ w e offer. inl (record { number = d; is = ap distance offer.0 ∙ at; most = omega (arith, offer.1) });
    widens = λ w c. c;
    tells = λ w e offer at_w. let both : Some d ≡ Some e = sym at ∙ ap distance (sym offer.0) ∙ at_w in let number : d ≡ e = cc in absurd (omega (arith, offer.1));
    why = λ w c. inl c;
  }

-- ---- none, and some after others

-- no offers
pub none_made : {offers : Offers} {distance queue : Vertex → Option ℕ} {stale : List Vertex} → ((v : Vertex) (e : ℕ) → offers v e → ⊥) → AreMade offers distance queue queue stale stale
none_made {queue = queue} none = record {
  keeps = λ w e waits. at_itself (queue w) e waits;
  put = λ w e waits. inl waits;
  offered = λ w e offer. absurd (none w e offer);
  widens = λ w c. c;
  tells = λ w e offer at. absurd (none w e offer);
  why = λ w c. inl c;
}

-- some offers, and then others
pub made_both : {first second all : Offers} {distance before queue more : Vertex → Option ℕ} {stale wider widest : List Vertex}
    → AreMade first distance before queue stale wider → AreMade second distance queue more wider widest
    → ((v : Vertex) (e : ℕ) → all v e → first v e ⊎ second v e) → ((v : Vertex) (e : ℕ) → first v e → all v e) → ((v : Vertex) (e : ℕ) → second v e → all v e)
    → AreMade all distance before more stale widest
made_both {queue = queue} {more = more} a b either from_first from_second = record {
  keeps = λ v e waits. let w = a.keeps v e waits in within_more (more v) w.number e w.most (b.keeps v w.number w.is);
  put = λ v e waits. elim (b.put v e waits) [
    | inr new ↦ inr (from_second v e new.0, new.1)
    | inl was ↦ elim (a.put v e was) [ inl before ↦ inl before | inr new ↦ inr (from_first v e new.0, new.1) ]
  ];
  offered = λ v e offer. elim (either v e offer) [
    | inr later ↦ b.offered v e later
    | inl earlier ↦ elim (a.offered v e earlier) [
      | inl reached ↦ inl reached
      | inr w ↦ inr (within_more (more v) w.number e w.most (b.keeps v w.number w.is))
    ]
  ];
  widens = λ v c. b.widens v (a.widens v c);
  tells = λ v e offer at. elim (either v e offer) [ inl earlier ↦ b.widens v (a.tells v e earlier at) | inr later ↦ b.tells v e later at ];
  why = λ v c. elim (b.why v c) [
    | inr later ↦ inr (later.0, from_second v later.0 later.1, later.2)
    | inl was ↦ elim (a.why v was) [ inl before ↦ inl before | inr earlier ↦ inr (earlier.0, from_first v earlier.0 earlier.1, earlier.2) ]
  ];
}

-- equal offers, said in another way
pub made_same : {first all : Offers} {distance queue more : Vertex → Option ℕ} {stale wider : List Vertex}
    → AreMade first distance queue more stale wider → ((v : Vertex) (e : ℕ) → all v e → first v e) → ((v : Vertex) (e : ℕ) → first v e → all v e) → AreMade all distance queue more stale wider
made_same a into from = record {
  keeps = a.keeps;
  put = λ v e waits. elim (a.put v e waits) [ inl was ↦ inl was | inr new ↦ inr (from v e new.0, new.1) ];
  offered = λ v e offer. a.offered v e (into v e offer);
  widens = a.widens;
  tells = λ v e offer at. a.tells v e (into v e offer) at;
  why = λ v c. elim (a.why v c) [ inl was ↦ inl was | inr new ↦ inr (new.0, from v new.0 new.1, new.2) ];
}

-- under another name
pub made_renamed : {offers : Offers} {distance before : Vertex → Option ℕ} {stale : List Vertex} {v w : Pending} → w ≡ v → AreMade offers distance before (get v.queue) stale v.stale → AreMade offers distance before (get w.queue) stale w.stale
made_renamed {offers} {distance} {before} {stale} is a = subst (λ (x : Pending). AreMade offers distance before (get x.queue) stale x.stale) (sym is) a

-- ---- over links

module _ (root : ℕ) (distance : Vertex → Option ℕ) where
  -- what a link offers its head, which is not the root
  pub over_link : {queue more : Vertex → Option ℕ} {stale wider : List Vertex} (l : GraphLink) (near k : ℕ) → l.to ≢ Router root → k ≡ near + l.cost
      → AreMade (OneOffer l.to k) distance queue more stale wider → AreMade (OverLink root l near) distance queue more stale wider
  over_link l near k other sum a =
      made_same {first = OneOffer l.to k} {all = OverLink root l near} a (λ v e offer. (offer.0, offer.2 ∙ sym sum)) (λ v e offer. (offer.0, subst (λ u. u ≢ Router root) (sym offer.0) other, offer.1 ∙ sum))

  module _ {before queue : Vertex → Option ℕ} {stale wider : List Vertex} (links : List GraphLink) (i : ℕ) (l : GraphLink) (within : i < length links) (is : l ≡ get_or links i l) where
    -- one link more, where the tails are all at one distance
    pub over_more : {more : Vertex → Option ℕ} {widest : List Vertex} (near : ℕ)
        → AreMade (OverLinks root (take i links) near) distance before queue stale wider → AreMade (OverLink root l near) distance queue more wider widest
        → AreMade (OverLinks root (take (i + 1) links) near) distance before more stale widest
    over_more near a b = made_both {first = OverLinks root (take i links) near} {second = OverLink root l near} {all = OverLinks root (take (i + 1) links) near} a b
        (λ v e offer. elim (contained_so_far links i l within is offer.0 offer.1) [
          | inl was ↦ inl (offer.0, was, offer.2)
          | inr same ↦ inr (subst (λ (x : GraphLink). OverLink root x near v e) (sym same) offer.2)
        ])
        (λ v e offer. (offer.0, still_contained links i l within is offer.0 offer.1, offer.2))
        (λ v e offer. (l, now_contained links i l within is, offer))

    -- where the tail is reached
    pub reached_more : {more : Vertex → Option ℕ} {widest : List Vertex} (near : ℕ) → distance l.from ≡ Some near
        → AreMade (OverReached root distance (take i links)) distance before queue stale wider → AreMade (OverLink root l near) distance queue more wider widest
        → AreMade (OverReached root distance (take (i + 1) links)) distance before more stale widest
    reached_more near at a b = made_both {first = OverReached root distance (take i links)} {second = OverLink root l near} {all = OverReached root distance (take (i + 1) links)} a b
        (λ v e offer. elim (contained_so_far links i l within is offer.0 offer.2) [
          | inl was ↦ inl (offer.0, offer.1, was, offer.3, offer.4)
          | inr same ↦
              let both : Some near ≡ Some offer.1 = sym at ∙ ap (λ (x : GraphLink). distance x.from) same ∙ offer.3 in
              let number : offer.1 ≡ near = cc in
              inr (subst (λ (x : GraphLink). OverLink root x near v e) (sym same) (subst (λ n. OverLink root offer.0 n v e) number offer.4))
        ])
        (λ v e offer. (offer.0, offer.1, still_contained links i l within is offer.0 offer.2, offer.3, offer.4))
        (λ v e offer. (l, near, now_contained links i l within is, at, offer))

    -- where it is not
    pub unreached_more : distance l.from ≡ None → AreMade (OverReached root distance (take i links)) distance before queue stale wider
        → AreMade (OverReached root distance (take (i + 1) links)) distance before queue stale wider
    unreached_more none a = made_same {first = OverReached root distance (take i links)} {all = OverReached root distance (take (i + 1) links)} a
        (λ v e offer. elim (contained_so_far links i l within is offer.0 offer.2) [
          | inl was ↦ (offer.0, offer.1, was, offer.3, offer.4)
          | inr same ↦ let both : None ≡ Some offer.1 = sym none ∙ ap (λ (x : GraphLink). distance x.from) same ∙ offer.3 in absurd cc
        ])
        (λ v e offer. (offer.0, offer.1, still_contained links i l within is offer.0 offer.2, offer.3, offer.4))

-- ---- over the links of a graph

module _ (link : Links) (root : ℕ) {distance : Vertex → Option ℕ} where
  -- the links out of a vertex at a distance
  pub out_made : {queue more : Vertex → Option ℕ} {stale wider : List Vertex} (links : List GraphLink) (from : Vertex) (near : ℕ) → ((l : GraphLink) → Contains links l ↔ ((l.from ≡ from) × link l.from l.to l.cost l.label))
      → AreMade (OverLinks root links near) distance queue more stale wider → AreMade (OutOf link root from near) distance queue more stale wider
  out_made links from near exact a = made_same {first = OverLinks root links near} {all = OutOf link root from near} a
      (λ v e offer. (link_value from v offer.0 offer.1, (exact (link_value from v offer.0 offer.1)).1 (refl, offer.2), (refl, offer.3, offer.4)))
      (λ v e offer.
      let l = offer.0 in
      let is = (exact l).0 offer.1 in
      let over = offer.2 in
      (l.cost, l.label, subst (λ u. link u v l.cost l.label) is.0 (subst (λ u. link l.from u l.cost l.label) (sym over.0) is.1), over.1, over.2))

  -- the links into one vertex more
  pub into_more : {before queue more : Vertex → Option ℕ} {stale wider widest : List Vertex} (vertices : List Vertex) (i : ℕ) (default : Vertex) (links : List GraphLink) → i < length vertices
      → ((l : GraphLink) → Contains links l ↔ ((l.to ≡ get_or vertices i default) × link l.from l.to l.cost l.label))
      → AreMade (Into link root distance (take i vertices)) distance before queue stale wider → AreMade (OverReached root distance links) distance queue more wider widest
      → AreMade (Into link root distance (take (i + 1) vertices)) distance before more stale widest
  into_more vertices i default links within exact a b =
      made_both {first = Into link root distance (take i vertices)} {second = OverReached root distance links} {all = Into link root distance (take (i + 1) vertices)} a b
      (λ v e offer. elim (contained_so_far vertices i x within is v offer.4) [
        | inl was ↦ inl (offer.0, offer.1, offer.2, offer.3, was, offer.5, offer.6, offer.7, offer.8)
        | inr same ↦ inr (link_value offer.0 v offer.1 offer.2, offer.3, (exact (link_value offer.0 v offer.1 offer.2)).1 (sym same, offer.5), offer.6, (refl, offer.7, offer.8))
      ])
      (λ v e offer. (offer.0, offer.1, offer.2, offer.3, still_contained vertices i x within is v offer.4, offer.5, offer.6, offer.7, offer.8))
      (λ v e offer.
      let l = offer.0 in
      let into = (exact l).0 offer.2 in
      let over = offer.4 in
      (l.from, l.cost, l.label, offer.1, subst (λ u. Contains (take (i + 1) vertices) u) (sym (over.0 ∙ into.0)) (now_contained vertices i x within is), subst (λ u. link l.from u l.cost l.label) (sym over.0) into.1, offer.3, over.1, over.2))
    where
      x : Vertex
      x = get_or vertices i default

      is : x ≡ get_or vertices i x
      is = get_or_default vertices i default x within

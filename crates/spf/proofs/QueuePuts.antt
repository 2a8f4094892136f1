-- A queue into which what is due is put at its distance, part by part.
use Rattle.std.proofs.Common.{◌≡◌, ◌≢◌, ℕ, ◌+◌, ◌<◌, ◌≤◌, List, length, take, get_or, Option, Some, None, refl, sym, ap, subst, ◌∙◌, ◌⊎◌, inl, inr}
use Rattle.std.specs.Prelude.{◌↔◌}
use Rattle.std.specs.FinMap.{get}
use Rattle.std.specs.List.{Contains}
use Rattle.std.proofs.lemmas.List.{get_or_default}
use Rattle.ospf_types.specs.declared.entry.Vertex.{Vertex}
use Rattle.ospf_types.specs.declared.entry.Vertex.TheVariants.{Router}
use Rattle.ospf_types.specs.Distances.{Links}
use Rattle.vertex_graph.specs.GraphLink.{GraphLink}
use Rattle.vertex_queue.specs.Queues.{Queue, lessened}
use Rattle.vertex_queue.proofs.Ranks.{lessened_here, lessened_elsewhere}
use Rattle.vertex_queue.proofs.Elements.{cases_vertex}
use Rattle.spf.specs.Changes.{link_value}
use Rattle.spf.specs.HandedOn.{IsOfSome, IsLeastLink, ArePut, IsReachedAt, IsHeadOver, IsLeastHead}
use Rattle.spf.specs.Loops.{IsReached}
use Rattle.spf.specs.Trees.{IsShortestLink}
use Rattle.spf.proofs.OfSome.{of_none, of_more, of_all}

module _ (distance : Vertex → Option ℕ) where
  -- where nothing is due, the queue stays
  pub put_none : (queue : Vertex → Option ℕ) (Due : Vertex → Type 0) → ((v : Vertex) → Due v → ⊥) → ArePut distance Due queue queue
  put_none queue Due none = record { keeps = λ v waits. waits; all = λ v due. absurd (none v due); only = λ v k at. inl at }

  -- what is due, under another name
  pub put_same : (queue more : Vertex → Option ℕ) (P Q : Vertex → Type 0) → ((v : Vertex) → P v ↔ Q v) → ArePut distance P queue more → ArePut distance Q queue more
  put_same queue more P Q same p = record {
    keeps = p.keeps;
    all = λ v due. p.all v ((same v).1 due);
    only = λ v k at. elim (p.only v k at) [ inl was ↦ inl was | inr w ↦ inr ((same v).0 w.0, w.1) ];
  }

  -- what is due in two parts
  pub put_both : (queue mid more : Vertex → Option ℕ) (P Q : Vertex → Type 0) → ArePut distance P queue mid → ArePut distance Q mid more → ArePut distance (λ v. P v ⊎ Q v) queue more
  put_both queue mid more P Q first second = record {
    keeps = λ v waits. second.keeps v (first.keeps v waits);
    all = λ v due. elim due [ inl p ↦ second.keeps v (first.all v p) | inr q ↦ second.all v q ];
    only = λ v k at. elim (second.only v k at) [ inr w ↦ inr (inr w.0, w.1) | inl was ↦ elim (first.only v k was) [ inl before ↦ inl before | inr w ↦ inr (inl w.0, w.1) ] ];
  }

  -- one vertex is due
  pub put_one : (queue : Queue) (v : Vertex) (d : ℕ) (Due : Vertex → Type 0) → distance v ≡ Some d → ((w : Vertex) → Due w ↔ (w ≡ v)) → ArePut distance Due (get queue) (get (lessened queue v d))
  put_one queue v d Due at same = record {
    keeps = λ w waits. elim (cases_vertex w v) [
      | inl is ↦ here w is
      | inr other ↦ (waits.0, lessened_elsewhere queue v w d other ∙ waits.1)
    ];
    all = λ w due. here w ((same w).0 due);
    only = λ w k now. elim (cases_vertex w v) [
      | inr other ↦ inl (sym (lessened_elsewhere queue v w d other) ∙ now)
      | inl is ↦ elim put.3 [
        | inl new ↦ inr ((same w).1 is, ap distance is ∙ at ∙ ap Some (sym new ∙ number w k is now))
        | inr was ↦ inl (ap (get queue) is ∙ was ∙ ap Some (number w k is now))
      ]
    ];
  }
    where
      put : (e : ℕ) × (get (lessened queue v d) v ≡ Some e) × (e ≤ d) × ((e ≡ d) ⊎ (get queue v ≡ Some e))
      put = lessened_here queue v d

      here : (w : Vertex) → w ≡ v → (k : ℕ) × (get (lessened queue v d) w ≡ Some k)
      here w is = (put.0, ap (get (lessened queue v d)) is ∙ put.1)

      number : (w : Vertex) (k : ℕ) → w ≡ v → get (lessened queue v d) w ≡ Some k → put.0 ≡ k
      number w k is now = let both : Some put.0 ≡ Some k = sym put.1 ∙ ap (get (lessened queue v d)) (sym is) ∙ now in cc

  module _ {A : Type 0} (P : A → Vertex → Type 0) where
    -- what is due by no element
    pub put_start : (xs : List A) (queue : Vertex → Option ℕ) → ArePut distance (IsOfSome (take 0 xs) P) queue queue
    put_start xs queue = put_none queue (IsOfSome (take 0 xs) P) (λ v w. of_none P v w)

    -- what is due by one more element
    pub put_more : (xs : List A) (i : ℕ) (x : A) (queue mid more : Vertex → Option ℕ) → i < length xs → x ≡ get_or xs i x → ArePut distance (IsOfSome (take i xs) P) queue mid → ArePut distance (P x) mid more → ArePut distance (IsOfSome (take (i + 1) xs) P) queue more
    put_more xs i x queue mid more lt is before here =
        put_same queue more (λ v. IsOfSome (take i xs) P v ⊎ P x v) (IsOfSome (take (i + 1) xs) P) (λ v. let m = of_more P xs i x v lt is in (m.1, m.0)) (put_both queue mid more (IsOfSome (take i xs) P) (P x) before here)

    -- one element more, where it is read with a default
    pub put_turn : (xs : List A) (i : ℕ) (d : A) (queue mid more : Vertex → Option ℕ) → i < length xs → ArePut distance (IsOfSome (take i xs) P) queue mid → ArePut distance (P (get_or xs i d)) mid more → ArePut distance (IsOfSome (take (i + 1) xs) P) queue more
    put_turn xs i d queue mid more lt before here = put_more xs i (get_or xs i d) queue mid more lt (get_or_default xs i d (get_or xs i d) lt) before here

    -- what is due by all elements
    pub put_end : (xs : List A) (i : ℕ) (queue more : Vertex → Option ℕ) → length xs ≤ i → ArePut distance (IsOfSome (take i xs) P) queue more → ArePut distance (IsOfSome xs P) queue more
    put_end xs i queue more past p = put_same queue more (IsOfSome (take i xs) P) (IsOfSome xs P) (λ v. of_all P xs i v past) p

  -- ---- what is put

  -- a vertex that is reached
  pub put_reached : (root : ℕ) (queue : Queue) (v : Vertex) (d : ℕ) → distance v ≡ Some d → v ≢ Router root → ArePut distance (IsReachedAt root distance v) (get queue) (get (lessened queue v d))
  put_reached root queue v d at other = put_one queue v d (IsReachedAt root distance v) at (λ w. (
    λ due. due.0,
    λ is. (is, subst (λ (u : Vertex). IsReached root distance u) (sym is) (record { number = d; at = at; other = other })),
  ))

  -- one that is not
  pub put_unreached : (root : ℕ) (queue : Vertex → Option ℕ) (v : Vertex) → distance v ≡ None → ArePut distance (IsReachedAt root distance v) queue queue
  put_unreached root queue v none = put_none queue (IsReachedAt root distance v) (λ w due.
      let differ : Some due.1.number ≡ None = sym due.1.at ∙ ap distance due.0 ∙ none in cc)

  -- the root
  pub put_root : (root : ℕ) (queue : Vertex → Option ℕ) (v : Vertex) → v ≡ Router root → ArePut distance (IsReachedAt root distance v) queue queue
  put_root root queue v is = put_none queue (IsReachedAt root distance v) (λ w due. due.1.other (due.0 ∙ is))

  -- the head of a least link
  pub put_head : (root : ℕ) (queue : Queue) (l : GraphLink) (d : ℕ) → IsLeastLink distance l → distance l.to ≡ Some d → l.to ≢ Router root → ArePut distance (IsHeadOver root distance l) (get queue) (get (lessened queue l.to d))
  put_head root queue l d least at other = put_one queue l.to d (IsHeadOver root distance l) at (λ w. (
    λ due. due.1,
    λ is. (least, is, λ root_is. other (sym is ∙ root_is)),
  ))

  -- the heads of the least links out of a vertex
  pub heads_put : (link : Links) (root : ℕ) (v : Vertex) (links : List GraphLink) (queue more : Vertex → Option ℕ)
      → ((l : GraphLink) → Contains links l ↔ ((l.from ≡ v) × link l.from l.to l.cost l.label)) → ArePut distance (IsOfSome links (IsHeadOver root distance)) queue more → ArePut distance (IsLeastHead link root distance v) queue more
  heads_put link root v links queue more exact = put_same queue more (IsOfSome links (IsHeadOver root distance)) (IsLeastHead link root distance v) (λ w. (
    λ due.
        let at = (exact due.0).0 due.1 in
        let least : IsShortestLink link distance due.0.from due.0.to due.0.cost due.0.label = record { taken = at.1; near = due.2.0.near; tail = due.2.0.tail; head = due.2.0.head } in
        let from_v = subst (λ (u : Vertex). IsShortestLink link distance u due.0.to due.0.cost due.0.label) at.0 least in
        ((due.0.cost, due.0.label, subst (λ (u : Vertex). IsShortestLink link distance v u due.0.cost due.0.label) (sym due.2.1) from_v), due.2.2),
    λ due.
        let least = due.0.2 in
        (link_value v w due.0.0 due.0.1, (exact (link_value v w due.0.0 due.0.1)).1 (refl, least.taken), (record { near = least.near; tail = least.tail; head = least.head }, refl, due.1)),
  ))

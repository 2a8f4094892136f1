-- Updating next hops: the invariant of the loop holds in each round, and gives the next hops at the
-- end.
use Rattle.std.proofs.Common.{◌≡◌, ◌≢◌, ℕ, ◌+◌, ◌≤◌, List, [], Option, Some, None, refl, sym, subst, ◌∙◌, inl, inr, arith, ◌⊎◌}
use Rattle.std.specs.Prelude.{◌↔◌}
use Rattle.std.specs.List.{Contains}
use Rattle.ospf_types.specs.declared.entry.Vertex.{Vertex}
use Rattle.ospf_types.specs.declared.entry.Vertex.TheVariants.{Router}
use Rattle.ospf_types.specs.declared.hop.NextHop.{NextHop}
use Rattle.ospf_types.specs.declared.label.Label.{Label}
use Rattle.ospf_types.specs.Distances.{Links}
use Rattle.vertex_queue.specs.VertexSet.{IsAdded}
use Rattle.vertex_queue.proofs.Elements.{cases_vertex}
use Rattle.spf.specs.Trees.{AreLinks, AreDistances, IsTree, IsShortestLink}
use Rattle.spf.specs.Repairs.{IsQueued, IsEmptyQueue, AreRightOrQueued}
use Rattle.spf.specs.Loops.{IsReached, AreUpdatingNextHops, IsPutAgain, IsUpdated}
use Rattle.ospf_types.proofs.Elements.{no_element}
use Rattle.spf.proofs.Hops.{hops_everywhere}
use Rattle.spf.proofs.QueuedDistances.{forward_at_start, forward_taken}
use Rattle.spf.proofs.WrittenSets.{least_elsewhere, none_again, right_written, unions_at_end}

-- at the start nothing was taken or written
pub update_next_hops_start : {link : Links} {root : ℕ} (distance queue : Vertex → Option ℕ) (now : Vertex → NextHop → Type 0) → AreRightOrQueued link root distance queue now
    → ((v : Vertex) (k : ℕ) → queue v ≡ Some k → (distance v ≡ Some k) × (v ≢ Router root)) → AreUpdatingNextHops link root distance queue now now [] []
update_next_hops_start distance queue now right queued = record {
  right = right;
  forward = forward_at_start distance queue;
  queued = queued;
  apart = λ v k none. absurd (no_element v none);
  reached = λ v none. absurd (no_element v none);
  unwritten = λ v none h. (λ x. x, λ x. x);
  within = λ v none. absurd (no_element v none);
  changed = λ v none. absurd (no_element v none);
}

module _ {link : Links} {root : ℕ} {distance queue : Vertex → Option ℕ} {sets now : Vertex → NextHop → Type 0} {taken written : List Vertex}
    (n : AreUpdatingNextHops link root distance queue sets now taken written) where
  -- the set of what was not taken stays
  pub kept_until_taken : (v : Vertex) → (Contains taken v → ⊥) → (h : NextHop) → now v h ↔ sets v h
  kept_until_taken v none = n.unwritten v (λ c. none (n.within v c))

  -- with nothing queued, and no next hops at the root and at what is not reached, the tree belongs
  -- to the links
  pub update_next_hops_end : {has_root : Type 0} → AreLinks link root has_root → AreDistances link root has_root distance → IsEmptyQueue queue
      → ((h : NextHop) → sets (Router root) h → ⊥) → ((to : Vertex) → distance to ≡ None → (h : NextHop) → sets to h → ⊥)
      → IsTree link root has_root distance now
  update_next_hops_end links are none blank_root blank = record {
    distances = are;
    right = hops_everywhere links distance now are (unions_at_end distance queue now none n.right)
        (λ h x. blank_root h ((kept_until_taken (Router root) (λ c. (n.reached (Router root) c).other refl) h).0 x))
        (λ to is h x. blank to is h ((kept_until_taken to (λ c. let differ : Some (n.reached to c).number ≡ None = sym (n.reached to c).at ∙ is in cc) h).0 x));
  }

  module _ {has_root : Type 0} (links : AreLinks link root has_root) (more : Vertex → Option ℕ) (new : Vertex → NextHop → Type 0) (all wider : List Vertex) (v : Vertex) (k : ℕ)
      (t : IsUpdated link root distance queue more now new written wider v k) (added : IsAdded taken all v) where
    -- the vertex that is taken is queued at its distance
    at_v : (distance v ≡ Some k) × (v ≢ Router root)
    at_v = n.queued v k t.waits

    -- what is put was not taken
    put_fresh : (w : Vertex) (e : ℕ) → IsPutAgain link root distance v w e → Contains all w → ⊥
    put_fresh w e p c = elim (added.only w c) [
      | inl same ↦ least_elsewhere links distance v w p.cost p.label p.least (sym same)
      | inr was ↦ none_again links distance queue taken v w k e p.cost p.label n.forward t.waits at_v.0 p.least p.at was
    ]

    -- what is put is at least as far as its link costs
    later : (w : Vertex) (e : ℕ) → IsPutAgain link root distance v w e → (cost : ℕ) × (label : Label) × link v w cost label × (k + cost ≤ e)
    later w e p =
        let tail : Some k ≡ Some p.least.near = sym at_v.0 ∙ p.least.tail in
        let near : k ≡ p.least.near = cc in
        let head : Some e ≡ Some (p.least.near + p.cost) = sym p.at ∙ p.least.head in
        let far : e ≡ p.least.near + p.cost = cc in
        (p.cost, p.label, p.least.taken, omega arith)

    -- the set of what was taken before stays
    stays : (w : Vertex) → Contains taken w → (h : NextHop) → new w h ↔ now w h
    stays w c = t.elsewhere w (λ same. n.apart v k (subst (λ u. Contains taken u) same c) t.waits)

    -- the set is written and its heads are queued, or it stays
    heads_queued : ((to : Vertex) (cost : ℕ) (label : Label) → to ≢ Router root → IsShortestLink link distance v to cost label → IsQueued more to) ⊎ ((h : NextHop) → new v h ↔ now v h)
    heads_queued = elim t.heads [ inl w ↦ inl w.1 | inr same ↦ inr same ]

    -- what is not written keeps its set
    unchanged : (w : Vertex) → (Contains wider w → ⊥) → (h : NextHop) → new w h ↔ now w h
    unchanged w none = elim (cases_vertex w v) [
      | inr other ↦ t.elsewhere w other
      | inl same ↦ elim t.heads [
        | inl is ↦ absurd (none (subst (λ u. Contains wider u) (sym same) is.0))
        | inr kept ↦ subst (λ u. (h : NextHop) → new u h ↔ now u h) (sym same) kept
      ]
    ]

    -- each round keeps the invariant
    pub update_next_hops_taken : AreUpdatingNextHops link root distance more sets new all wider
    update_next_hops_taken = record {
      right = right_written links distance queue more now new v n.right t.keeps t.union t.elsewhere heads_queued;
      forward = forward_taken links distance queue distance more taken all v k n.forward t.waits (record { here = at_v.0; elsewhere = λ w other. refl }) t.least
          (λ w e at. elim (t.put w e at) [ inl was ↦ inl was.1 | inr p ↦ inr (later w e p.0) ])
          added.only;
      queued = λ w e at. elim (t.put w e at) [ inl was ↦ n.queued w e was.1 | inr p ↦ (p.0.at, p.0.other) ];
      apart = λ w e c at. elim (t.put w e at) [
        | inr p ↦ put_fresh w e p.0 c
        | inl was ↦ elim (added.only w c) [ inl same ↦ was.0 same | inr earlier ↦ n.apart w e earlier was.1 ]
      ];
      reached = λ w c. elim (added.only w c) [ inr was ↦ n.reached w was | inl same ↦ subst (λ u. IsReached root distance u) (sym same) (record { number = k; at = at_v.0; other = at_v.1 }) ];
      unwritten = λ w none h.
          let was = n.unwritten w (λ c. none (t.widens w c)) h in
          let here = unchanged w none h in
          (λ x. was.0 (here.0 x), λ y. here.1 (was.1 y));
      within = λ w c. elim (t.writes w c) [ inl was ↦ added.grows w (n.within w was) | inr is ↦ subst (λ u. Contains all u) (sym is.0) added.here ];
      changed = λ w c same. elim (t.writes w c) [
        | inl was ↦ n.changed w was (λ h. let here = stays w (n.within w was) h in (λ x. (same h).0 (here.1 x), λ y. here.0 ((same h).1 y)))
        | inr is ↦ is.1 (λ h.
            let was = kept_until_taken v (λ m. n.apart v k m t.waits) h in
            let at = subst (λ u. new u h ↔ sets u h) is.0 (same h) in
            (λ x. was.1 (at.0 x), λ y. at.1 (was.0 y)))
      ];
    }

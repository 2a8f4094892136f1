-- The end of a repair: the tree of the links after, and work that is bounded by what differs.
use Rattle.std.proofs.Common.{◌≡◌, ◌≢◌, ℕ, ◌+◌, ◌*◌, ◌≤◌, List, [], ◌++◌, length, Option, Some, None, ◌⊎◌, inl, inr, sym, ◌∙◌}
use Rattle.std.specs.Prelude.{◌↔◌}
use Rattle.std.specs.List.{Contains}
use Rattle.std.proofs.lemmas.List.Elements.{Contains-append_left}
use Rattle.ospf_types.specs.declared.entry.Vertex.{Vertex}
use Rattle.ospf_types.specs.declared.entry.Vertex.TheVariants.{Router}
use Rattle.ospf_types.specs.declared.hop.NextHop.{NextHop}
use Rattle.ospf_types.specs.Distances.{Links, IsHop}
use Rattle.vertex_queue.specs.VertexSet.{HasNoDoubles}
use Rattle.vertex_queue.proofs.Elements.{cases_contains}
use Rattle.spf.specs.Trees.{AreLinks, IsTree}
use Rattle.spf.specs.Repairs.{AreGone, AreCome, AreLinkUpdates, IsReset, IsEmptyQueue, IsQueued, AreToldLost, AreOwed}
use Rattle.spf.specs.Loops.{AreLosingSupport, AreRelaxing, AreUpdatingNextHops, AreVerticesDue}
use Rattle.spf.proofs.Settling.{right_at_start}
use Rattle.spf.proofs.Bounds.{written_differs, lost_differs, taken_bound, written_bound}
use Rattle.spf.proofs.Whole.{tree_unions}
use Rattle.spf.proofs.RelaxLoop.{relax_end}
use Rattle.spf.proofs.UpdateNextHopsLoop.{update_next_hops_start, update_next_hops_end}

-- the facts of the lost stay so where more is stale
pub told_wider : {after gone : Links} {root : ℕ} {old : Vertex → Option ℕ} {lost : List Vertex} (stale wider : List Vertex) → AreToldLost after gone root old lost stale → ((v : Vertex) → Contains stale v → Contains wider v)
    → AreToldLost after gone root old lost wider
told_wider stale wider t widens = record {
  went = λ from to cost label other least. widens to (t.went from to cost label other least);
  led = λ from to cost label d e c taken other at_from at_to most. widens to (t.led from to cost label d e c taken other at_from at_to most);
}

module _ {before after gone come : Links} {root : ℕ} {had_root has_root : Type 0} {old start distance queue : Vertex → Option ℕ} {sets : Vertex → NextHop → Type 0} {lost told moved stale : List Vertex}
    (links_before : AreLinks before root had_root) (links : AreLinks after root has_root) (was : IsTree before root had_root old sets)
    (l : AreLosingSupport before after gone root had_root has_root old lost [] told) (reset : IsReset root has_root old lost start)
    (n : AreRelaxing after come root has_root start distance queue moved stale) (none : IsEmptyQueue queue) where
  -- Between relaxing and updating next hops: all that was moved or is stale is queued, and the sets
  -- of what is reached are unchanged.
  pub update_next_hops_opened : AreGone before after gone → AreCome before after come start → ((v : Vertex) → Contains told v → Contains stale v)
      → (now : Vertex → NextHop → Type 0) (again : Vertex → Option ℕ)
      → ((v : Vertex) (d : ℕ) → distance v ≡ Some d → (h : NextHop) → now v h ↔ sets v h)
      → ((v : Vertex) (d : ℕ) → distance v ≡ Some d → v ≢ Router root → Contains moved v ⊎ Contains stale v → IsQueued again v)
      → ((v : Vertex) (k : ℕ) → again v ≡ Some k → (distance v ≡ Some k) × (v ≢ Router root))
      → AreUpdatingNextHops after root distance again now now [] []
  update_next_hops_opened are_gone are_come widens now again same waits queued =
      update_next_hops_start distance again now
      (right_at_start are_gone are_come links_before links was.distances (relax_end n none) reset n.ended (told_wider told stale l.told widens) n.told none sets now again (tree_unions was) same waits)
      queued

  -- what is neither lost nor moved has its old distance
  pub distance_stays : (v : Vertex) → v ≢ Router root → (Contains lost v → ⊥) → (Contains moved v → ⊥) → distance v ≡ old v
  distance_stays v other kept still = n.ended.same v still ∙ reset.kept v other kept

  -- So what is reached at another distance than before is moved.
  pub moved_if_other : (v : Vertex) (d : ℕ) → v ≢ Router root → distance v ≡ Some d → (old v ≡ Some d → ⊥) → Contains moved v
  moved_if_other v d other at differs = elim (cases_contains moved v) [
    | inl m ↦ m
    | inr still ↦ elim (cases_contains lost v) [
      | inl gone_v ↦ let differ : Some d ≡ None = sym at ∙ n.ended.same v still ∙ reset.blank v other gone_v in absurd cc
      | inr kept ↦ absurd (differs (sym (distance_stays v other kept still) ∙ at))
    ]
  ]

  -- Once next hops are updated the tree belongs to the links after.
  pub tree_after : {begun now : Vertex → NextHop → Type 0} {again : Vertex → Option ℕ} {taken written : List Vertex} → AreUpdatingNextHops after root distance again begun now taken written → IsEmptyQueue again
      → ((h : NextHop) → begun (Router root) h → ⊥) → ((to : Vertex) → distance to ≡ None → (h : NextHop) → begun to h → ⊥)
      → IsTree after root has_root distance now
  tree_after h none_again blank_root blank = update_next_hops_end h links (relax_end n none) none_again blank_root blank

  -- And the work of all three is bounded: what is taken from the queues, and the sets that are
  -- written, those of lost vertices that stay unreached among them.
  module _ {begun now : Vertex → NextHop → Type 0} {again : Vertex → Option ℕ} {taken written : List Vertex} {first second heads first_out second_out : List Vertex} (changes : AreLinkUpdates before after gone come)
      (owed : AreOwed root before after gone come had_root has_root first second heads first_out second_out)
      (h : AreUpdatingNextHops after root distance again begun now taken written) (after_tree : IsTree after root has_root distance now)
      (same : (v : Vertex) (d : ℕ) → distance v ≡ Some d → (g : NextHop) → begun v g ↔ sets v g) where
    -- what was written differs
    written_once : (v : Vertex) → Contains written v → Contains (first ++ second) v
    written_once v c =
        let at = h.reached v (h.within v c) in
        written_differs owed sets now v (was.right v) (after_tree.right v) (λ equal. h.changed v c (λ g.
        let begun_is = same v at.number at.at g in
        (λ x. begun_is.1 ((equal g).0 x), λ y. (equal g).1 (begun_is.0 y))))

    -- what is taken from both queues
    pub work_taken : HasNoDoubles moved → HasNoDoubles taken → AreVerticesDue after gone come lost moved written taken
        → length moved + length taken ≤ 2 * (length first + length second) + (length heads + (length first_out + length second_out))
    work_taken moved_apart taken_apart due =
        taken_bound owed changes was.distances after_tree.distances l.dear (λ v c. let r = l.reached v c in (r.number, r.at)) reset n.ended n.moved_other
        written taken moved_apart taken_apart written_once due.due

    -- what is written, and what is lost
    pub work_written : (all : List Vertex) → HasNoDoubles all → ((v : Vertex) → Contains all v → Contains written v ⊎ Contains lost v) → length all ≤ length first + length second
    work_written all apart by = written_bound owed all apart (λ v c. elim (by v c) [
      | inl w ↦ written_once v w
      | inr gone_v ↦ Contains-append_left first second v (lost_differs owed changes was.distances after_tree.distances l.dear (λ u x. let r = l.reached u x in (r.number, r.at)) reset n.ended n.moved_other v gone_v)
    ])

    -- A vertex that is reached and has other next hops than before is written.
    pub written_if_other : (v : Vertex) (d : ℕ) → distance v ≡ Some d → (((g : NextHop) → IsHop before root had_root v g ↔ IsHop after root has_root v g) → ⊥) → Contains written v
    written_if_other v d at differs = elim (cases_contains written v) [
      | inl w ↦ w
      | inr stays ↦ absurd (differs (λ g.
          let kept = h.unwritten v stays g in
          let begun_is = same v d at g in
          (λ x. (after_tree.right v g).0 (kept.1 (begun_is.1 ((was.right v g).1 x))), λ y. (was.right v g).0 (begun_is.0 (kept.0 ((after_tree.right v g).1 y))))))
    ]

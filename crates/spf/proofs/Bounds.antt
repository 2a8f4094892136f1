-- The work is bounded by what differs: what is taken and what is written is in lists that are owed.
use Rattle.std.proofs.Common.{◌≡◌, ◌≢◌, ℕ, ◌+◌, ◌*◌, ◌≤◌, List, ◌++◌, length, Option, Some, ◌∙◌, inl, inr, length-append, arith}
use Rattle.std.specs.Prelude.{◌↔◌}
use Rattle.std.specs.List.{Contains}
use Rattle.std.proofs.lemmas.List.Elements.{Contains-append_left, Contains-append_right, Contains-append_cases}
use Rattle.ospf_types.specs.declared.entry.Vertex.{Vertex}
use Rattle.ospf_types.specs.declared.entry.Vertex.TheVariants.{Router}
use Rattle.ospf_types.specs.declared.hop.NextHop.{NextHop}
use Rattle.ospf_types.specs.declared.label.Label.{Label}
use Rattle.ospf_types.specs.Distances.{Links, IsHop}
use Rattle.vertex_queue.specs.VertexSet.{HasNoDoubles}
use Rattle.vertex_queue.proofs.Elements.{cases_contains}
use Rattle.vertex_queue.proofs.Counting.{no_longer}
use Rattle.spf.specs.Trees.{AreDistances}
use Rattle.spf.specs.Repairs.{Between, AreLinkUpdates, AreDear, IsReset, AreMoved, IsSame, AreOwed, IsDue, Moved, Went, Came, OutOfLost, OutOfMoved, OutOfWritten}
use Rattle.spf.proofs.Values.{within_path}
use Rattle.spf.proofs.LostVertices.{path_before}

module _ {before after gone come : Links} {root : ℕ} {had_root has_root : Type 0} {first second heads first_out second_out : List Vertex}
    (owed : AreOwed root before after gone come had_root has_root first second heads first_out second_out) where
  -- what is not the same before and after differs from before to between, or from between to after
  pub differs_once : (v : Vertex) → (IsSame root before had_root (Between before after) (had_root × has_root) v → IsSame root (Between before after) (had_root × has_root) after has_root v → ⊥)
      → Contains (first ++ second) v
  differs_once v differs = elim (cases_contains first v) [
    | inl c ↦ Contains-append_left first second v c
    | inr not_first ↦ Contains-append_right first second v (owed.second_differ.differing v (λ same. not_first (owed.first_differ.differing v (λ was. differs was same))))
  ]

  -- so does what has other next hops after than before
  pub other_hops : (v : Vertex) → (((h : NextHop) → IsHop before root had_root v h ↔ IsHop after root has_root v h) → ⊥) → Contains (first ++ second) v
  other_hops v differs = differs_once v (λ was is. differs (λ h. (λ x. (is.hops h).0 ((was.hops h).0 x), λ y. (was.hops h).1 ((is.hops h).1 y))))

  -- and so does what was written, if its set is at the end another than at the start
  pub written_differs : (sets now : Vertex → NextHop → Type 0) (v : Vertex) → ((h : NextHop) → sets v h ↔ IsHop before root had_root v h) → ((h : NextHop) → now v h ↔ IsHop after root has_root v h)
      → (((h : NextHop) → now v h ↔ sets v h) → ⊥) → Contains (first ++ second) v
  written_differs sets now v was is differs = other_hops v (λ same. differs (λ h. (λ x. (was h).1 ((same h).1 ((is h).0 x)), λ y. (is h).1 ((same h).0 ((was h).0 y)))))

  module _ {old start distance : Vertex → Option ℕ} {lost moved : List Vertex} (changes : AreLinkUpdates before after gone come)
      (were : AreDistances before root had_root old) (are : AreDistances after root has_root distance)
      (dear : AreDear (Between before after) root (had_root × has_root) old lost) (lost_reached : (v : Vertex) → Contains lost v → (d : ℕ) × (old v ≡ Some d))
      (reset : IsReset root has_root old lost start) (ended : AreMoved start distance moved) (moved_other : (v : Vertex) → Contains moved v → v ≢ Router root) where
    -- what is lost is farther between than before
    pub lost_differs : (v : Vertex) → Contains lost v → Contains first v
    lost_differs v gone_v = owed.first_differ.differing v (λ same.
        let d = lost_reached v gone_v in
        let at = (same.distance d.0).0 (were.right v d.0 d.1) in
        omega (arith, dear.dear v d.0 gone_v d.1 at.reached.0 at.reached.1, at.reached.2))

    -- what is moved and was not lost is nearer after than between
    kept_differs : (v : Vertex) → Contains moved v → (Contains lost v → ⊥) → Contains second v
    kept_differs v m kept = owed.second_differ.differing v (λ same.
        let e = ended.reached v m in
        let at = (same.distance e.0).1 (are.right v e.0 e.1) in
        let was = within_path were v at.reached.0 (path_before after has_root were v at.reached.0 at.reached.1) in
        let less = ended.nearer v was.number e.0 m (reset.kept v (moved_other v m) kept ∙ was.is) e.1 in
        omega (arith, less, was.most, at.reached.2))

    -- each moved vertex differs
    pub moved_differs : (v : Vertex) → Contains moved v → Contains (first ++ second) v
    moved_differs v m = elim (cases_contains lost v) [
      | inl gone_v ↦ Contains-append_left first second v (lost_differs v gone_v)
      | inr kept ↦ Contains-append_right first second v (kept_differs v m kept)
    ]

    -- So no more vertices are moved than differ.
    pub moved_bound : HasNoDoubles moved → length moved ≤ length first + length second
    moved_bound apart = omega (arith, no_longer moved (first ++ second) apart moved_differs, length-append first second)

    -- the heads that are owed
    abbrev AllHeads : List Vertex
    AllHeads = heads ++ (first_out ++ second_out)

    -- the heads of the removed or added links are among them
    in_heads : (v : Vertex) → Contains heads v → Contains AllHeads v
    in_heads v c = Contains-append_left heads (first_out ++ second_out) v c

    -- so are the heads of links out of what differs first
    in_first_out : (v : Vertex) → Contains first_out v → Contains AllHeads v
    in_first_out v c = Contains-append_right heads (first_out ++ second_out) v (Contains-append_left first_out second_out v c)

    -- and those of links out of what differs second
    in_second_out : (v : Vertex) → Contains second_out v → Contains AllHeads v
    in_second_out v c = Contains-append_right heads (first_out ++ second_out) v (Contains-append_right first_out second_out v c)

    -- the head of a link after out of what differs is owed
    pub head_owed : (from to : Vertex) (cost : ℕ) (label : Label) → after from to cost label → Contains (first ++ second) from → Contains AllHeads to
    head_owed from to cost label taken differs = elim (Contains-append_cases first second from differs) [
      | inr c ↦ in_second_out to (owed.out_of_second from to cost label taken c)
      | inl c ↦ elim (changes.came from to cost label taken) [
        | inl stood ↦ in_first_out to (owed.out_of_first from to cost label (stood, taken) c)
        | inr came ↦ in_heads to (owed.came from to cost label came)
      ]
    ]

    -- what is looked at again differs or is such a head
    pub due_owed : (written : List Vertex) → ((v : Vertex) → Contains written v → Contains (first ++ second) v) → (to : Vertex) → IsDue after gone come lost moved written to → Contains ((first ++ second) ++ AllHeads) to
    due_owed written differ to (Moved m) = Contains-append_left (first ++ second) AllHeads to (moved_differs to m)
    due_owed written differ to (Went from cost label went) = Contains-append_right (first ++ second) AllHeads to (in_heads to (owed.went from to cost label went))
    due_owed written differ to (Came from cost label came) = Contains-append_right (first ++ second) AllHeads to (in_heads to (owed.came from to cost label came))
    due_owed written differ to (OutOfLost from cost label taken c) = Contains-append_right (first ++ second) AllHeads to (head_owed from to cost label taken (Contains-append_left first second from (lost_differs from c)))
    due_owed written differ to (OutOfMoved from cost label taken c) = Contains-append_right (first ++ second) AllHeads to (head_owed from to cost label taken (moved_differs from c))
    due_owed written differ to (OutOfWritten from cost label taken c) = Contains-append_right (first ++ second) AllHeads to (head_owed from to cost label taken (differ from c))

    -- So the vertices that are taken, first for their distances and then for their next hops, are
    -- no more than twice what differs, and the heads.
    pub taken_bound : (written again : List Vertex) → HasNoDoubles moved → HasNoDoubles again → ((v : Vertex) → Contains written v → Contains (first ++ second) v)
        → ((v : Vertex) → Contains again v → IsDue after gone come lost moved written v)
        → length moved + length again ≤ 2 * (length first + length second) + (length heads + (length first_out + length second_out))
    taken_bound written again moved_apart again_apart differ due =
        omega (
          arith,
          moved_bound moved_apart,
          no_longer again ((first ++ second) ++ AllHeads) again_apart (λ v c. due_owed written differ v (due v c)),
          length-append (first ++ second) AllHeads,
          length-append first second,
          length-append heads (first_out ++ second_out),
          length-append first_out second_out,
        )

  -- And no more sets are written than differ.
  pub written_bound : (written : List Vertex) → HasNoDoubles written → ((v : Vertex) → Contains written v → Contains (first ++ second) v) → length written ≤ length first + length second
  written_bound written apart differ = omega (arith, no_longer written (first ++ second) apart differ, length-append first second)

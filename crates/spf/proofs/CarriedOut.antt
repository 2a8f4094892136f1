-- The results of the parts of a repair, taken together: what each next part starts from, the tree,
-- the work, and which vertices differ.
use Rattle.std.proofs.Common.{◌≡◌, ◌≢◌, ℕ, ◌+◌, List, false, ◌∷◌, ◌++◌, length, Option, Some, None, refl, sym, ap, subst, ◌∙◌, ◌⊎◌, inl, inr, arith}
use Rattle.std.specs.Prelude.{◌↔◌}
use Rattle.std.specs.FinMap.{get}
use Rattle.std.specs.List.{Contains}
use Rattle.std.proofs.lemmas.Bool.{cases_eq}
use Rattle.std.proofs.lemmas.List.Elements.{Contains-append_left}
use Rattle.ospf_types.specs.declared.entry.Vertex.{Vertex}
use Rattle.ospf_types.specs.declared.entry.Vertex.TheVariants.{Router}
use Rattle.ospf_types.specs.declared.hop.NextHop.{NextHop}
use Rattle.ospf_types.specs.declared.label.Label.{Label}
use Rattle.ospf_types.specs.Distances.{IsHop}
use Rattle.ospf_types.proofs.Elements.{first_element, later_element}
use Rattle.vertex_graph.specs.GraphLink.{GraphLink}
use Rattle.vertex_graph.specs.Graphs.{GraphValue, graph_view, LinksOf, HasRoot}
use Rattle.vertex_queue.proofs.Counting.{no_longer}
use Rattle.vertex_queue.proofs.Elements.{cases_contains, cases_vertex}
use Rattle.spf.specs.Trees.{AreLinks, AreDistances, IsInLimit}
use Rattle.spf.specs.Repairs.{AreLinkUpdates, AreOwed, IsDue, Moved, Went, Came, OutOfLost, OutOfMoved, OutOfWritten}
use Rattle.spf.specs.Changes.{Among}
use Rattle.spf.specs.Parts.{HadRoot, LinksBefore, IsRightBefore, AreLost, StartsAt, AreStarted, IsRelaxedTo, AreUnsettled, AreSettled, hops_of}
use Rattle.spf.specs.TreeValues.{TreeValue, IsTreeOf, IsTreeBefore, Differs, IsVertexChangedBy, IsBounded, IsReachedIn, IsHopSetWritten, IsWorkDone}
use Rattle.spf.proofs.AreaLinks.{area_links}
use Rattle.spf.proofs.Before.{earlier_changes}
use Rattle.spf.proofs.Bounds.{lost_differs, written_differs, taken_bound, written_bound}
use Rattle.spf.proofs.Hops.{no_hop_of_root}
use Rattle.spf.proofs.RelaxLoop.{relax_end}
use Rattle.spf.proofs.Repaired.{told_wider, distance_stays, moved_if_other}
use Rattle.spf.proofs.Settling.{right_where_fresh}
use Rattle.spf.proofs.Values.{root_zero, distances_relaxed, within_path}
use Rattle.spf.proofs.Whole.{are_gone, are_come, tree_unions}

-- optional numbers are the same or not
pub cases_distance : (x y : Option ℕ) → (x ≡ y) ⊎ (x ≢ y)
cases_distance None None = inl refl
cases_distance None (Some y) = inr (λ e. cc)
cases_distance (Some x) None = inr (λ e. cc)
cases_distance (Some x) (Some y) = elim (cases_eq x y) [ inl e ↦ inl (ap Some e) | inr n ↦ inr (λ e. n cc) ]

-- the links of a graph are such as the tree needs
pub graph_links : (g : GraphValue) → AreLinks (LinksOf g) g.root (HasRoot g)
graph_links g = area_links (graph_view g)

-- whatever the lists have, they name every change from the links before
pub named : (g : GraphValue) (gone come : List GraphLink) → AreLinkUpdates (LinksBefore g gone come) (LinksOf g) (Among gone) (Among come)
named g gone come = earlier_changes (LinksOf g) gone come

module _ {g : GraphValue} {gone come : List GraphLink} where
  -- What losing support leaves is what relaxing starts from.
  pub started : {old : Vertex → Option ℕ} {lost stale : List Vertex} → IsRightBefore g gone come old → AreLost g gone come old lost stale → AreStarted (LinksOf g) (Among come) g.root (HasRoot g) old lost
  started {old} {lost} b l = record {
    held = l.losing_support.held;
    reached = l.losing_support.reached;
    fair = λ from to cost label d taken other at. elim ((named g gone come).came from to cost label taken) [
      | inr came ↦ inl came
      | inl stood ↦ inr (inr (over_old from to cost label d stood other at))
    ];
  }
    where
      over_old : (from to : Vertex) (cost : ℕ) (label : Label) (d : ℕ) → LinksBefore g gone come from to cost label → to ≢ Router g.root → StartsAt g.root (HasRoot g) old lost from d → IsInLimit (old to) (d + cost)
      over_old from to cost label d stood other (inl w) =
          let out = b.links.out_of_root to cost label (subst (λ v. LinksBefore g gone come v to cost label) w.0 stood) in
          (distances_relaxed b.distances).relaxed from to cost label d stood other (ap old w.0 ∙ root_zero b.distances out.has ∙ ap Some (sym w.2))
      over_old from to cost label d stood other (inr w) = (distances_relaxed b.distances).relaxed from to cost label d stood other w.2

  -- a tree that is right before has the distances before
  pub distances_before : {t : TreeValue} → IsTreeBefore g gone come t → IsRightBefore g gone come (get t.distances)
  distances_before b = record { links = b.links; distances = b.tree.distances; came = b.came }

module _ {g : GraphValue} {gone come : List GraphLink} {t : TreeValue} (u : TreeValue) {lost stale wider moved : List Vertex} (b : IsTreeBefore g gone come t) (l : AreLost g gone come (get t.distances) lost stale)
    (n : IsRelaxedTo g come (get t.distances) (get u.distances) lost stale wider moved) where
  -- the distances are those after
  pub distances_after : AreDistances (LinksOf g) g.root (HasRoot g) (get u.distances)
  distances_after = relax_end n.relaxing (λ v. refl)

  -- what has next hops and is not reached was lost
  blank_after : (v : Vertex) (h : NextHop) → get u.distances v ≡ None → hops_of t.hops v h → Contains lost v
  blank_after v h none x = elim (cases_contains lost v) [
    | inl c ↦ c
    | inr kept ↦
        let is : IsHop (LinksBefore g gone come) g.root (HadRoot g.root (get t.distances)) v h = (b.tree.right v h).0 x in
        let was = within_path b.tree.distances v is.path.0 is.path.1 in
        let other : v ≢ Router g.root = λ same. no_hop_of_root (LinksBefore g gone come) g.root (HadRoot g.root (get t.distances)) h (subst (λ w. IsHop (LinksBefore g gone come) g.root (HadRoot g.root (get t.distances)) w h) same is) in
        let still : Contains moved v → ⊥ = λ m. let e = n.relaxing.ended.reached v m in let differ : Some e.0 ≡ None = sym e.1 ∙ none in cc in
        let stays : get u.distances v ≡ get t.distances v = distance_stays b.links (graph_links g) b.tree l.losing_support n.reset n.relaxing (λ w. refl) v other kept still in
        let differ : Some was.number ≡ None = sym was.is ∙ sym stays ∙ none in
        absurd cc
  ]

  -- What relaxing leaves is what the update of next hops starts from.
  pub unsettled : AreUnsettled g (get u.distances) (hops_of t.hops) lost moved wider
  unsettled = record {
    distances = distances_after;
    right = λ to d at other. elim (cases_contains moved to) [
      | inl m ↦ inl (inl m)
      | inr still ↦ elim (cases_contains wider to) [
        | inl s ↦ inl (inr s)
        | inr fresh ↦ inr (
            right_where_fresh (are_gone (named g gone come)) (are_come (named g gone come) (get n.start)) b.links (graph_links g) b.tree.distances distances_after n.reset n.relaxing.ended
            (told_wider stale wider l.losing_support.told n.widens) n.relaxing.told (λ v. refl) (hops_of t.hops) (hops_of t.hops) (tree_unions b.tree) (λ v e is h. (λ x. x, λ x. x)) to d at other still fresh)
      ]
    ];
    root = λ h x. no_hop_of_root (LinksBefore g gone come) g.root (HadRoot g.root (get t.distances)) h ((b.tree.right (Router g.root) h).0 x);
    blank = blank_after;
  }

  module _ {written : List Vertex} {count : ℕ} (s : AreSettled g (get u.distances) (hops_of t.hops) (hops_of u.hops) lost moved wider written count) where
    -- what is stale is due
    stale_due : (v : Vertex) → Contains wider v → IsDue (LinksOf g) (Among gone) (Among come) lost moved written v
    stale_due v c = elim (n.why v c) [
      | inl was ↦ elim (l.why v was) [ inl w ↦ Went w.0 w.1 w.2 w.3 | inr w ↦ OutOfLost w.0 w.1 w.2 w.3 w.4 ]
      | inr (inl w) ↦ Came w.0 w.1 w.2 w.3
      | inr (inr w) ↦ OutOfMoved w.0 w.1 w.2 w.3 w.4
    ]

    -- and so is what was taken for its next hops
    taken_due : (v : Vertex) → Contains s.taken v → IsDue (LinksOf g) (Among gone) (Among come) lost moved written v
    taken_due v c = elim (s.why v c) [
      | inl m ↦ Moved m
      | inr (inl w) ↦ stale_due v w
      | inr (inr w) ↦ OutOfWritten w.0 w.1 w.2 w.3 w.4
    ]

    -- what is lost was reached
    lost_reached : (v : Vertex) → Contains lost v → (d : ℕ) × (get t.distances v ≡ Some d)
    lost_reached v c = let r = l.losing_support.reached v c in (r.number, r.at)

    module _ {first second heads first_out second_out : List Vertex} (owed : AreOwed g.root (LinksBefore g gone come) (LinksOf g) (Among gone) (Among come) (HadRoot g.root (get t.distances)) (HasRoot g) first second heads first_out second_out) where
      -- what is written is owed
      written_owed : (v : Vertex) → Contains written v → Contains (first ++ second) v
      written_owed v c = elim (s.written_for v c) [
        | inl w ↦ Contains-append_left first second v (lost_differs owed (named g gone come) b.tree.distances distances_after l.losing_support.dear lost_reached n.reset n.relaxing.ended n.relaxing.moved_other v w.0)
        | inr w ↦ written_differs owed (hops_of t.hops) (hops_of u.hops) v (b.tree.right v) (s.tree.right v) w.1
      ]

    -- So the work is bounded.
    pub bounded : IsBounded g gone come t (length moved + count) (length written)
    bounded = record {
      taken_most = λ first second heads first_out second_out owed.
          let most = taken_bound owed (named g gone come) b.tree.distances distances_after l.losing_support.dear lost_reached n.reset n.relaxing.ended n.relaxing.moved_other written s.taken n.apart s.taken_apart (written_owed owed) taken_due in
          omega (arith, most, s.count);
      sets_most = λ first second heads first_out second_out owed. written_bound owed written s.written_apart (written_owed owed);
    }

    -- A vertex that is reached and differs was taken for its next hops.
    taken_if_differs : (v : Vertex) → IsReachedIn g u v → Differs t u v → Contains s.taken v
    taken_if_differs v r differs = elim (cases_contains moved v) [
      | inl m ↦ s.moved_taken v (record { number = r.0.0; at = r.0.1; other = r.1 }) m
      | inr still ↦ elim (cases_contains written v) [
        | inl w ↦ elim (s.written_for v w) [ inl away ↦ let differ : Some r.0.0 ≡ None = sym r.0.1 ∙ away.1 in absurd cc | inr by ↦ by.0 ]
        | inr none ↦ elim (cases_distance (get u.distances v) (get t.distances v)) [
          | inl same ↦ absurd (differs (same, s.unwritten v none))
          | inr other ↦ absurd (still (moved_if_other b.links (graph_links g) b.tree l.losing_support n.reset n.relaxing (λ w. refl) v r.0.0 r.1 r.0.1 (λ was. other (r.0.1 ∙ sym was))))
        ]
      ]
    ]

    -- A vertex that was reached and no longer is was lost.
    lost_if_unreached : (v : Vertex) (d : ℕ) → v ≢ Router g.root → get t.distances v ≡ Some d → get u.distances v ≡ None → Contains lost v
    lost_if_unreached v d other was none = elim (cases_contains lost v) [
      | inl c ↦ c
      | inr kept ↦ elim (cases_contains moved v) [
        | inl m ↦ let e = n.relaxing.ended.reached v m in let differ : Some e.0 ≡ None = sym e.1 ∙ none in absurd cc
        | inr still ↦
            let stays : get u.distances v ≡ get t.distances v = distance_stays b.links (graph_links g) b.tree l.losing_support n.reset n.relaxing (λ w. refl) v other kept still in
            let differ : Some d ≡ None = sym was ∙ sym stays ∙ none in
            absurd cc
      ]
    ]

    -- Exactly what has other next hops, or is reached no more, was written.
    written_is : (v : Vertex) → Contains written v ↔ IsHopSetWritten g t u v
    written_is v = (
      λ c. elim (s.written_for v c) [
        | inl w ↦ let r = l.losing_support.reached v w.0 in inr (((r.number, r.at), r.other), w.1)
        | inr w ↦ inl w.1
      ],
      λ w. elim w [
        | inl other ↦ elim (cases_contains written v) [ inl c ↦ c | inr none ↦ absurd (other (s.unwritten v none)) ]
        | inr away ↦ s.lost_written v (lost_if_unreached v away.0.0.0 away.0.1 away.0.0.1 away.1) away.1
      ],
    )

    -- And it is what differs.
    pub work_done : IsWorkDone g t u (length moved + count) (length written)
    work_done = record {
      taken_least = λ nearer differing nearer_apart differing_apart each each_differs.
          let relaxed = no_longer nearer moved nearer_apart (λ v c.
          let e = each v c in
          moved_if_other b.links (graph_links g) b.tree l.losing_support n.reset n.relaxing (λ w. refl) v e.0.0.0 e.0.1 e.0.0.1 (λ was. e.1 (e.0.0.1 ∙ sym was))) in
          let updated = no_longer differing s.taken differing_apart (λ v c. let e = each_differs v c in taken_if_differs v e.0 e.1) in
          omega (arith, relaxed, updated, s.count);
      taken_twice_most = λ reached all.
          let relaxed = no_longer moved reached n.apart (λ v c. let e = n.relaxing.ended.reached v c in all v ((e.0, e.1), n.relaxing.moved_other v c)) in
          let updated = no_longer s.taken reached s.taken_apart (λ v c. let r = s.taken_reached v c in all v ((r.number, r.at), r.other)) in
          omega (arith, relaxed, updated, s.count);
      written = written;
      written_apart = s.written_apart;
      written_exact = written_is;
      sets_are = refl;
    }

    -- The tree belongs to the graph.
    pub tree_after : u.spent ≡ false → IsTreeOf g u
    tree_after fresh = record { fresh = fresh; tree = s.tree }

    -- Exactly the vertices that are changed by one of the parts differ.
    pub changed_by : (v : Vertex) → IsVertexChangedBy g.root t u lost moved written v ↔ Differs t u v
    changed_by v = (differs, found)
      where
        differs : IsVertexChangedBy g.root t u lost moved written v → Differs t u v
        differs (inl w) same = w.1 same.0
        differs (inr (inl w)) same =
            let e = n.relaxing.ended.reached v w.0 in
            let was = n.reset.kept v (n.relaxing.moved_other v w.0) w.1 ∙ sym same.0 ∙ e.1 in
            absurd (omega (arith, n.relaxing.ended.nearer v e.0 e.0 w.0 was e.1))
        differs (inr (inr w)) same = elim (s.written_for v w) [
          | inl gone_v ↦ let r = l.losing_support.reached v gone_v.0 in let differ : Some r.number ≡ None = sym r.at ∙ sym same.0 ∙ gone_v.1 in absurd cc
          | inr other ↦ other.1 same.1
        ]

        moved_only : (get u.distances v ≢ get t.distances v) → IsVertexChangedBy g.root t u lost moved written v
        moved_only other = elim (cases_vertex v (Router g.root)) [
          | inl is_root ↦ inl (subst (λ w. Contains (Router g.root ∷ lost) w) (sym is_root) (first_element (Router g.root) lost), other)
          | inr not_root ↦ elim (cases_contains lost v) [
            | inl c ↦ inl (later_element (Router g.root) v lost c, other)
            | inr kept ↦ elim (cases_contains moved v) [
              | inl m ↦ inr (inl (m, kept))
              | inr still ↦ absurd (other (distance_stays b.links (graph_links g) b.tree l.losing_support n.reset n.relaxing (λ w. refl) v not_root kept still))
            ]
          ]
        ]

        found : Differs t u v → IsVertexChangedBy g.root t u lost moved written v
        found d = elim (cases_contains written v) [
          | inl w ↦ inr (inr w)
          | inr none ↦ elim (cases_distance (get u.distances v) (get t.distances v)) [ inl same ↦ absurd (d (same, s.unwritten v none)) | inr other ↦ moved_only other ]
        ]

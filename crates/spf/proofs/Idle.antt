-- Where no link was removed and none was added, nothing is lost, moved, taken or written.
use Rattle.std.proofs.Common.{◌≡◌, ◌≢◌, ℕ, ◌+◌, List, [], ◌∷◌, length, refl, sym, ◌∙◌, inl, inr, arith}
use Rattle.std.specs.FinMap.{get}
use Rattle.std.specs.List.{Contains}
use Rattle.ospf_types.specs.declared.entry.Vertex.{Vertex}
use Rattle.ospf_types.specs.declared.entry.Vertex.TheVariants.{Router}
use Rattle.ospf_types.specs.declared.label.Label.{Label}
use Rattle.ospf_types.specs.Distances.{Links, TakenLink, Leads}
use Rattle.ospf_types.proofs.Elements.{no_element, first_element}
use Rattle.vertex_graph.specs.GraphLink.{GraphLink}
use Rattle.vertex_graph.specs.Graphs.{GraphValue, LinksOf, HasRoot}
use Rattle.spf.specs.Changes.{SameLinks}
use Rattle.spf.specs.Parts.{HadRoot, LinksBefore, AreLost, IsRelaxedTo, AreSettled, hops_of}
use Rattle.spf.specs.Repairs.{Between}
use Rattle.spf.specs.TreeValues.{TreeValue, IsTreeBefore}
use Rattle.spf.proofs.LostVertices.{leads_more}
use Rattle.spf.proofs.CarriedOut.{graph_links, distances_after}
use Rattle.spf.proofs.SameLinks.{hop_same}
use Rattle.spf.proofs.Values.{within_path}

-- a list that contains nothing is empty
no_elements : {X : Type 0} (xs : List X) → ((x : X) → Contains xs x → ⊥) → length xs ≡ 0
no_elements [] none = refl
no_elements (x ∷ xs) none = absurd (none x (first_element x xs))

-- a link out of the root
record LeavesRoot (link : Links) (root : ℕ) : Type 0 where
  pub to : Vertex
  pub cost : ℕ
  pub label : Label
  pub taken : link (Router root) to cost label

-- a path to another vertex than the root begins with one
first_link : (link : Links) (root : ℕ) (v : Vertex) (way : List TakenLink) → Leads link root (Router root) way v → v ≢ Router root → LeavesRoot link root
first_link link root v [] leads other = absurd (other (sym leads))
first_link link root v (step ∷ way) leads other = record { to = step.to; cost = step.cost; label = step.label; taken = leads.0 }

module _ {g : GraphValue} {t : TreeValue} (u : TreeValue) {lost stale wider moved written : List Vertex} {count : ℕ} (b : IsTreeBefore g [] [] t) (l : AreLost g [] [] (get t.distances) lost stale)
    (n : IsRelaxedTo g [] (get t.distances) (get u.distances) lost stale wider moved) (s : AreSettled g (get u.distances) (hops_of t.hops) (hops_of u.hops) lost moved wider written count) where
  -- the links are the same
  same : SameLinks (LinksBefore g [] []) (LinksOf g)
  same from to cost label = (λ was. elim was [ inl stands ↦ stands.0 | inr none ↦ absurd (no_element _ none) ], λ is. inl (is, λ none. no_element _ none))

  -- the root was a vertex, with a link out of it
  had : LeavesRoot (LinksOf g) g.root → HadRoot g.root (get t.distances)
  had out = (b.links.out_of_root out.to out.cost out.label ((same (Router g.root) out.to out.cost out.label).1 out.taken)).has

  -- nothing is lost
  none_lost : (v : Vertex) → Contains lost v → ⊥
  none_lost v c =
      let r = l.losing_support.reached v c in
      let at = b.tree.distances.right v r.number r.at in
      let out = first_link (LinksBefore g [] []) g.root v at.reached.0 at.reached.1.1 r.other in
      let has : HasRoot g = ((graph_links g).out_of_root out.to out.cost out.label ((same (Router g.root) out.to out.cost out.label).0 out.taken)).has in
      let less = l.losing_support.dear.dear v r.number c r.at at.reached.0 (
        (at.reached.1.0, has),
        leads_more (LinksBefore g [] []) (Between (LinksBefore g [] []) (LinksOf g)) g.root (λ from to cost label was. (was, (same from to cost label).0 was)) (Router g.root) v at.reached.0 at.reached.1.1,
      ) in
      omega (arith, less, at.reached.2)

  -- nothing is moved
  none_moved : (v : Vertex) → Contains moved v → ⊥
  none_moved v c =
      let e = n.relaxing.ended.reached v c in
      let other = n.relaxing.moved_other v c in
      let at = (distances_after u b l n).right v e.0 e.1 in
      let out = first_link (LinksOf g) g.root v at.reached.0 at.reached.1.1 other in
      let was = within_path b.tree.distances v at.reached.0 (
        had out,
        leads_more (LinksOf g) (LinksBefore g [] []) g.root (λ from to cost label is. (same from to cost label).1 is) (Router g.root) v at.reached.0 at.reached.1.1,
      ) in
      let less = n.relaxing.ended.nearer v was.number e.0 c (n.reset.kept v other (none_lost v) ∙ was.is) e.1 in
      omega (arith, less, was.most, at.reached.2)

  -- nothing is written
  none_written : (v : Vertex) → Contains written v → ⊥
  none_written v c = elim (s.written_for v c) [
    | inl w ↦ none_lost v w.0
    | inr w ↦
        let r = s.taken_reached v w.0 in
        let at = (distances_after u b l n).right v r.number r.at in
        let out = first_link (LinksOf g) g.root v at.reached.0 at.reached.1.1 r.other in
        w.1 (λ h.
        let is = hop_same g.root same ((λ _. at.reached.1.0), (λ _. had out)) v h in
        (λ x. (b.tree.right v h).1 (is.1 ((s.tree.right v h).0 x)), λ y. (s.tree.right v h).1 (is.0 ((b.tree.right v h).0 y))))
  ]

  -- nothing is stale
  none_stale : (v : Vertex) → Contains wider v → ⊥
  none_stale v c = elim (n.why v c) [
    | inl was ↦ elim (l.why v was) [ inl w ↦ no_element _ w.3 | inr w ↦ none_lost w.0 w.4 ]
    | inr (inl w) ↦ no_element _ w.3
    | inr (inr w) ↦ none_moved w.0 w.4
  ]

  -- and so nothing is taken
  none_taken : (v : Vertex) → Contains s.taken v → ⊥
  none_taken v c = elim (s.why v c) [
    | inl m ↦ none_moved v m
    | inr (inl w) ↦ none_stale v w
    | inr (inr w) ↦ none_written w.0 w.4
  ]

  -- So there is no work.
  no_work : (length moved + count ≡ 0) × (length written ≡ 0)
  no_work = (omega (arith, no_elements moved none_moved, no_elements s.taken none_taken, s.count), no_elements written none_written)

-- A repair is idle where the lists are empty.
pub idle : {g : GraphValue} (gone come : List GraphLink) {t : TreeValue} (u : TreeValue) {lost stale wider moved written : List Vertex} {count : ℕ} → IsTreeBefore g gone come t → AreLost g gone come (get t.distances) lost stale
    → IsRelaxedTo g come (get t.distances) (get u.distances) lost stale wider moved → AreSettled g (get u.distances) (hops_of t.hops) (hops_of u.hops) lost moved wider written count
    → gone ≡ [] → come ≡ [] → (length moved + count ≡ 0) × (length written ≡ 0)
idle [] [] u b l n s none_gone none_came = no_work u b l n s
idle (x ∷ gone) come u b l n s none_gone none_came = absurd cc
idle [] (x ∷ come) u b l n s none_gone none_came = absurd cc

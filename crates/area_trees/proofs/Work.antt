-- The work of a change of graph and tree belongs to the links before and after, as the definitions
-- give them.
use Rattle.std.proofs.Common.{◌≡◌, ℕ, ◌+◌, ◌*◌, ◌≢◌, ◌≤◌, List, length, sym, subst, ◌∙◌, inl, inr}
use Rattle.std.specs.Prelude.{◌↔◌}
use Rattle.std.specs.FinMap.{get}
use Rattle.std.specs.List.{Contains}
use Rattle.ospf_types.specs.declared.entry.Vertex.{Vertex}
use Rattle.ospf_types.specs.declared.entry.Vertex.TheVariants.{Router}
use Rattle.ospf_types.specs.declared.hop.NextHop.{NextHop}
use Rattle.ospf_types.specs.Distances.{Links, IsDistance, IsHop}
use Rattle.ospf_types.specs.Inputs.{Inputs, Area}
use Rattle.ospf_types.specs.Links.{IsVertex, IsLink}
use Rattle.lsdb.specs.Databases.{Database}
use Rattle.vertex_graph.specs.GraphLink.{GraphLink}
use Rattle.vertex_graph.specs.Up.{Up}
use Rattle.vertex_graph.specs.Graphs.{GraphValue, LinksOf, HasRoot, AreExact}
use Rattle.vertex_graph.proofs.Deciding.{link_decided}
use Rattle.spf.specs.Changes.{link_value, Among, SameLinks, AreDecided, AreExactChanges}
use Rattle.spf.specs.VertexSet.{HasNoDoubles}
use Rattle.spf.specs.Parts.{HadRoot, LinksBefore, hops_of}
use Rattle.spf.specs.Repairs.{Between, IsSame, HasDiffering, AreOwed}
use Rattle.spf.specs.Trees.{IsTree}
use Rattle.spf.specs.TreeValues.{TreeValue, IsReachedIn, Differs, IsBounded, IsWorkDone}
use Rattle.spf.proofs.Before.{earlier_is}
use Rattle.spf.proofs.Caller.{hop_of}
use Rattle.spf.proofs.SameLinks.{same_back, distance_same, hop_same}
use Rattle.spf.proofs.Values.{value_at, root_zero, root_has}
use Rattle.area_trees.specs.Areas.{AreaTreeValue, IsAreaTree, IsAreaOf, IsWorkBounded}
use Rattle.area_trees.specs.Work.{HasNewDistance, HasOtherHops, IsReachedOtherwise, IsWorkOf}
use Rattle.area_trees.proofs.Inside.{graph_ends, links_in, root_in, tree_in}

-- ---- what is owed over links is owed over the same links

same_on : {A B C : Links} → SameLinks A B → SameLinks B C → SameLinks A C
same_on one other from to cost label =
    let x = one from to cost label in
    let y = other from to cost label in
    (λ a. y.0 (x.0 a), λ c. x.1 (y.1 c))

back : {P Q : Type 0} → P ↔ Q → Q ↔ P
back e = (e.1, e.0)

module _ (root : ℕ) {A B C D : Links} {has_A has_B has_C has_D : Type 0} (one : SameLinks A C) (one_root : has_A ↔ has_C) (other : SameLinks B D) (other_root : has_B ↔ has_D) where
  -- what is the same over the ones is so over the others
  same_over : (v : Vertex) → IsSame root A has_A B has_B v → IsSame root C has_C D has_D v
  same_over v same = record {
    distance = λ d.
        let x = distance_same root one one_root v d in
        let y = distance_same root other other_root v d in
        let e = same.distance d in
        (λ c. y.0 (e.0 (x.1 c)), λ d. x.0 (e.1 (y.1 d)));
    hops = λ h.
        let x = hop_same root one one_root v h in
        let y = hop_same root other other_root v h in
        let e = same.hops h in
        (λ c. y.0 (e.0 (x.1 c)), λ d. x.0 (e.1 (y.1 d)));
  }

  differing_over : (vertices : List Vertex) → HasDiffering root A has_A B has_B vertices → HasDiffering root C has_C D has_D vertices
  differing_over vertices has = record { differing = λ v apart. has.differing v (λ same. apart (same_over v same)) }

module _ (root : ℕ) {A B C D : Links} {had_A has_B had_C has_D : Type 0} (one : SameLinks A C) (one_root : had_A ↔ had_C) (other : SameLinks B D) (other_root : has_B ↔ has_D) where
  between_same : SameLinks (Between A B) (Between C D)
  between_same from to cost label =
      let x = one from to cost label in
      let y = other from to cost label in
      (λ b. (x.0 b.0, y.0 b.1), λ b. (x.1 b.0, y.1 b.1))

  both_roots : (had_A × has_B) ↔ (had_C × has_D)
  both_roots = (λ b. (one_root.0 b.0, other_root.0 b.1), λ b. (one_root.1 b.0, other_root.1 b.1))

  owed_same : (gone come : Links) (first second heads first_out second_out : List Vertex) → AreOwed root A B gone come had_A has_B first second heads first_out second_out → AreOwed root C D gone come had_C has_D first second heads first_out second_out
  owed_same gone come first second heads first_out second_out owed = record {
    first_differ = differing_over root one one_root between_same both_roots first owed.first_differ;
    second_differ = differing_over root between_same both_roots other other_root second owed.second_differ;
    went = owed.went;
    came = owed.came;
    out_of_first = λ from to cost label taken. owed.out_of_first from to cost label ((between_same from to cost label).1 taken);
    out_of_second = λ from to cost label taken. owed.out_of_second from to cost label ((other from to cost label).1 taken);
  }

-- exact changes between links are exact between the same links
module _ {A B C D : Links} (one : SameLinks A C) (other : SameLinks B D) where
  exact_same : (gone come : List GraphLink) → AreExactChanges A B gone come → AreExactChanges C D gone come
  exact_same gone come exact = record {
    went = λ from to cost label.
        let x = one from to cost label in
        let y = other from to cost label in
        let e = exact.went from to cost label in
        (λ g. let w = e.0 g in (x.0 w.0, λ d. w.1 (y.1 d)), λ w. e.1 (x.1 w.0, λ b. w.1 (y.0 b)));
    came = λ from to cost label.
        let x = one from to cost label in
        let y = other from to cost label in
        let e = exact.came from to cost label in
        (λ g. let w = e.0 g in (y.0 w.0, λ c. w.1 (x.1 c)), λ w. e.1 (y.1 w.0, λ a. w.1 (x.0 a)));
  }

-- ---- a change of a graph and its tree, over links that belong to the graph before and after

other_than_root : (r root : ℕ) → r ≡ root → (v : Vertex) → v ≢ Router root → v ≢ Router r
other_than_root r root is v = subst (λ (n : ℕ). v ≢ Router n) (sym is)

module _ {g : GraphValue} {old new : TreeValue} {root : ℕ} {before after : Links} {had_root has_root : Type 0} {taken hop_sets : ℕ} (root_is : g.root ≡ root)
    (tree_before : IsTree before root had_root (get old.distances) (hops_of old.hops)) (tree_after : IsTree after root has_root (get new.distances) (hops_of new.hops))
    (work : IsWorkDone g old new taken hop_sets) where
  moved_over : (v : Vertex) → HasNewDistance root before after had_root has_root v → IsReachedIn g new v × (get new.distances v ≢ get old.distances v)
  moved_over v w =
      let at = value_at tree_after.distances v w.1.0 w.1.1 in
      (((w.1.0, at), other_than_root g.root root root_is v w.0), λ same. w.1.2 (tree_before.distances.right v w.1.0 (sym same ∙ at)))

  -- the next hops of a vertex are others in the trees where they are others over the links
  hops_over : (v : Vertex) → ((h : NextHop) → hops_of new.hops v h ↔ hops_of old.hops v h) → (h : NextHop) → IsHop after root has_root v h ↔ IsHop before root had_root v h
  hops_over v same h =
      let x = tree_after.right v h in
      let y = tree_before.right v h in
      let e = same h in
      (λ now. y.0 (e.0 (x.1 now)), λ then. x.0 (e.1 (y.1 then)))

  hops_in_trees : (v : Vertex) → ((h : NextHop) → IsHop after root has_root v h ↔ IsHop before root had_root v h) → (h : NextHop) → hops_of new.hops v h ↔ hops_of old.hops v h
  hops_in_trees v same h =
      let x = tree_after.right v h in
      let y = tree_before.right v h in
      let e = same h in
      (λ now. y.1 (e.0 (x.0 now)), λ then. x.1 (e.1 (y.0 then)))

  differs_over : (v : Vertex) → IsReachedOtherwise root before after had_root has_root v → IsReachedIn g new v × Differs old new v
  differs_over v (inl w) = let m = moved_over v w in (m.0, λ same. m.1 same.0)
  differs_over v (inr w) = (((w.1.0, value_at tree_after.distances v w.1.0 w.1.1), other_than_root g.root root root_is v w.0), λ same. w.2 (hops_over v same.1))

  taken_over : (moved differing : List Vertex) → HasNoDoubles moved → HasNoDoubles differing → ((v : Vertex) → Contains moved v → HasNewDistance root before after had_root has_root v)
      → ((v : Vertex) → Contains differing v → IsReachedOtherwise root before after had_root has_root v) → length moved + length differing ≤ taken
  taken_over moved differing moved_apart differing_apart are_moved differ = work.taken_least moved differing moved_apart differing_apart (λ v c. moved_over v (are_moved v c)) (λ v c. differs_over v (differ v c))

  twice_over : (reached : List Vertex) → ((v : Vertex) (d : ℕ) → v ≢ Router root → IsDistance after root has_root v d → Contains reached v) → taken ≤ 2 * length reached
  twice_over reached all = work.taken_twice_most reached (λ v r. all v r.0.0 (other_than_root root g.root (sym root_is) v r.1) (tree_after.distances.right v r.0.0 r.0.1))

  -- each vertex that was reached had a next hop, so what is reached no more has others
  written_over : ((v : Vertex) → IsReachedIn g old v → (h : NextHop) × hops_of old.hops v h) → (v : Vertex) → Contains work.written v ↔ HasOtherHops root before after had_root has_root v
  written_over had_hop v = (
    λ c same. elim ((work.written_exact v).0 c) [
      | inl other ↦ other (hops_in_trees v same)
      | inr away ↦
          let hop = had_hop v away.0 in
          let now = (same hop.0).1 ((tree_before.right v hop.0).0 hop.1) in
          tree_after.distances.unreached v away.1 now.path.0 now.path.1
    ],
    λ other. (work.written_exact v).1 (inl (λ same. other (hops_over v same))),
  )

-- the links before are those that the graph after and the changes give
module _ {was g : GraphValue} {before : Links} {gone come : List GraphLink} (same_before : SameLinks (LinksOf was) before) (decided_before : AreDecided (LinksOf was)) (decided_after : AreDecided (LinksOf g)) (exact : AreExact was g gone come) where
  exact_here : AreExactChanges (LinksOf was) (LinksOf g) gone come
  exact_here = record {
    went = λ from to cost label. exact.went (link_value from to cost label);
    came = λ from to cost label. exact.came (link_value from to cost label);
  }

  earlier : SameLinks before (LinksBefore g gone come)
  earlier = same_on (same_back same_before) (same_back (earlier_is (LinksOf g) gone come (LinksOf was) decided_before decided_after exact_here))

  module _ {old new : TreeValue} {root : ℕ} {after : Links} {had_root has_root : Type 0} {taken hop_sets : ℕ}
      (root_is : g.root ≡ root) (same_after : SameLinks (LinksOf g) after) (same_root : HasRoot g ↔ has_root)
      (tree_before : IsTree before root had_root (get old.distances) (hops_of old.hops)) (tree_after : IsTree after root has_root (get new.distances) (hops_of new.hops))
      (bounded : IsBounded g gone come old taken hop_sets) (work : IsWorkDone g old new taken hop_sets) (had_hop : (v : Vertex) → IsReachedIn g old v → (h : NextHop) × hops_of old.hops v h) where
    -- the work belongs to the links before and after
    work_over : IsWorkOf root before after had_root has_root taken hop_sets
    work_over = record {
      gone = gone;
      come = come;
      exact = exact_same same_before same_after gone come exact_here;
      taken_most = λ first second heads first_out second_out owed. bounded.taken_most first second heads first_out second_out (owed_here first second heads first_out second_out owed);
      sets_most = λ first second heads first_out second_out owed. bounded.sets_most first second heads first_out second_out (owed_here first second heads first_out second_out owed);
      taken_least = taken_over root_is tree_before tree_after work;
      taken_twice_most = twice_over root_is tree_before tree_after work;
      written = work.written;
      written_apart = work.written_apart;
      written_exact = written_over root_is tree_before tree_after work had_hop;
      sets_are = work.sets_are;
    }
      where
        root_before : had_root ↔ HadRoot root (get old.distances)
        root_before = (λ has. root_zero tree_before.distances has, λ at. root_has tree_before.distances (Router root) 0 at)

        owed_here : (first second heads first_out second_out : List Vertex) → AreOwed root before after (Among gone) (Among come) had_root has_root first second heads first_out second_out
            → AreOwed g.root (LinksBefore g gone come) (LinksOf g) (Among gone) (Among come) (HadRoot g.root (get old.distances)) (HasRoot g) first second heads first_out second_out
        owed_here first second heads first_out second_out owed =
            subst (λ (r : ℕ). AreOwed r (LinksBefore g gone come) (LinksOf g) (Among gone) (Among come) (HadRoot r (get old.distances)) (HasRoot g) first second heads first_out second_out) (sym root_is)
            (owed_same root earlier root_before (same_back same_after) (back same_root) (Among gone) (Among come) first second heads first_out second_out owed)

-- ---- a change of an area

module _ {s other : Inputs} {a b : Area} {d e : Database} {ups others : List Up} {old new : AreaTreeValue} {taken hop_sets : ℕ}
    (area : IsAreaOf s a d ups) (is : IsAreaTree s.router d ups old) (area_after : IsAreaOf other b e others) (is_after : IsAreaTree other.router e others new) (one_root : s.router ≡ other.router) where
  -- the work of a change of an area's graph and tree belongs to the area's links
  pub work_in : IsWorkBounded old new taken hop_sets → IsWorkDone new.area.graph old.tree new.tree taken hop_sets
      → IsWorkOf s.router (IsLink s a) (IsLink other b) (IsVertex a (Router s.router)) (IsVertex b (Router other.router)) taken hop_sets
  work_in bounded work =
      work_over (links_in area is) (link_decided old.area.graph (graph_ends is.graph)) (link_decided new.area.graph (graph_ends is_after.graph)) bounded.2
      (is_after.root_is ∙ sym one_root) (links_in area_after is_after) (root_in area_after is_after) (tree_in area is)
      (subst (λ (r : ℕ). IsTree (IsLink other b) r (IsVertex b (Router other.router)) (get new.tree.distances) (hops_of new.tree.hops)) (sym one_root) (tree_in area_after is_after))
      bounded.3 work (λ v r. hop_of is.tree v (r.0, other_than_root old.area.graph.root new.area.graph.root (is.root_is ∙ one_root ∙ sym is_after.root_is) v r.1))

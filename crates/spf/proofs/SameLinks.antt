-- What holds over links holds over the same links, given another way: paths, distances, next hops
-- and trees.
use Rattle.std.proofs.Common.{◌≡◌, ℕ, List, Option, sym, ◌∙◌, inl, inr}
use Rattle.std.specs.Prelude.{◌↔◌}
use Rattle.ospf_types.specs.declared.entry.Vertex.{Vertex}
use Rattle.ospf_types.specs.declared.hop.NextHop.{NextHop}
use Rattle.ospf_types.specs.Distances.{Links, TakenLink, IsPath, IsDistance, IsHop}
use Rattle.spf.specs.Trees.{AreLinks, HaveAddresses, AreCosts, AreDistances, IsTree}
use Rattle.spf.specs.Repairs.{AreLinkUpdates, IsSame}
use Rattle.spf.specs.Changes.{SameLinks}
use Rattle.spf.proofs.LostVertices.{leads_more}

-- the other way round
pub same_back : {A B : Links} → SameLinks A B → SameLinks B A
same_back same from to cost label = let w = same from to cost label in (w.1, w.0)

module _ {A B : Links} (root : ℕ) {has_A has_B : Type 0} (same : SameLinks A B) (has : has_A ↔ has_B) where
  -- a path stays one
  pub path_same : (to : Vertex) (way : List TakenLink) → IsPath A root has_A way to ↔ IsPath B root has_B way to
  path_same to way = (
    λ path. (has.0 path.0, leads_more A B root (λ from next cost label. (same from next cost label).0) _ to way path.1),
    λ path. (has.1 path.0, leads_more B A root (λ from next cost label. (same from next cost label).1) _ to way path.1),
  )

  -- so does a distance
  pub distance_same : (to : Vertex) (d : ℕ) → IsDistance A root has_A to d ↔ IsDistance B root has_B to d
  distance_same to d = (
    λ at. record { reached = (at.reached.0, (path_same to at.reached.0).0 at.reached.1, at.reached.2); least = λ way path. at.least way ((path_same to way).1 path) },
    λ at. record { reached = (at.reached.0, (path_same to at.reached.0).1 at.reached.1, at.reached.2); least = λ way path. at.least way ((path_same to way).0 path) },
  )

  -- and a next hop
  pub hop_same : (to : Vertex) (h : NextHop) → IsHop A root has_A to h ↔ IsHop B root has_B to h
  hop_same to h = (
    λ is. record { path = (is.path.0, (path_same to is.path.0).0 is.path.1, (distance_same to _).0 is.path.2, is.path.3) },
    λ is. record { path = (is.path.0, (path_same to is.path.0).1 is.path.1, (distance_same to _).1 is.path.2, is.path.3) },
  )

  -- each vertex is the same over both
  pub vertex_same : (v : Vertex) → IsSame root A has_A B has_B v
  vertex_same v = record { distance = distance_same v; hops = hop_same v }

  -- the distances are those over both
  pub distances_same : (distance : Vertex → Option ℕ) → AreDistances A root has_A distance → AreDistances B root has_B distance
  distances_same distance are = record {
    right = λ to d is. (distance_same to d).0 (are.right to d is);
    unreached = λ to none way path. are.unreached to none way ((path_same to way).1 path);
  }

  -- and so is the tree
  pub tree_same : (distance : Vertex → Option ℕ) (hops : Vertex → NextHop → Type 0) → IsTree A root has_A distance hops → IsTree B root has_B distance hops
  tree_same distance hops tree = record {
    distances = distances_same distance tree.distances;
    right = λ to h.
        let was = tree.right to h in
        let is = hop_same to h in
        (λ x. is.0 (was.0 x), λ y. was.1 (is.1 y));
  }

  -- where the ones are such as the tree needs, the others are
  pub links_same : AreLinks A root has_A → AreLinks B root has_B
  links_same are = record {
    out_of_router = λ router to cost label taken. are.out_of_router router to cost label ((same _ to cost label).1 taken);
    out_of_network = λ network to cost label taken. are.out_of_network network to cost label ((same _ to cost label).1 taken);
    out_of_root = λ to cost label taken.
        let over = are.out_of_root to cost label ((same _ to cost label).1 taken) in
        record { has = has.0 over.has; interface = over.interface; labelled = over.labelled };
  }

module _ {A B : Links} (same : SameLinks A B) where
  -- their addresses are the same
  pub addresses_same : HaveAddresses A → HaveAddresses B
  addresses_same have = record { address = λ network to cost addresses taken. have.address network to cost addresses ((same _ to cost _).1 taken) }

  -- and so are the bounds of their costs
  pub costs_same : (most : ℕ) (routers : List ℕ) → AreCosts A most routers → AreCosts B most routers
  costs_same most routers are = record {
    bounded = λ router to cost label taken. are.bounded router to cost label ((same _ to cost label).1 taken);
    listed = λ router to cost label taken. are.listed router to cost label ((same _ to cost label).1 taken);
  }

-- changes between links are changes between the same links
pub changes_same : {before was after is gone come : Links} → SameLinks before was → SameLinks after is → AreLinkUpdates before after gone come → AreLinkUpdates was is gone come
changes_same same_before same_after changes = record {
  went = λ from to cost label was. elim (changes.went from to cost label ((same_before from to cost label).1 was)) [ inl stands ↦ inl ((same_after from to cost label).0 stands) | inr went ↦ inr went ];
  came = λ from to cost label is. elim (changes.came from to cost label ((same_after from to cost label).1 is)) [ inl stood ↦ inl ((same_before from to cost label).0 stood) | inr came ↦ inr came ];
}

-- the tree stays one where its distances and next hops are given another way
pub tree_given : {link : Links} {root : ℕ} {has_root : Type 0} {distance other : Vertex → Option ℕ} {hops more : Vertex → NextHop → Type 0} → ((v : Vertex) → other v ≡ distance v) → ((v : Vertex) (h : NextHop) → more v h ↔ hops v h)
    → IsTree link root has_root distance hops → IsTree link root has_root other more
tree_given same_distance same_hops tree = record {
  distances = record {
    right = λ to d is. tree.distances.right to d (sym (same_distance to) ∙ is);
    unreached = λ to none. tree.distances.unreached to (sym (same_distance to) ∙ none);
  };
  right = λ to h.
      let given = same_hops to h in
      let is = tree.right to h in
      (λ x. is.0 (given.0 x), λ y. given.1 (is.1 y));
}

-- The tree before and after a repair: the blank tree, from which the first is built, and what the
-- end of a repair gives.
use Rattle.std.specs.Prelude.{◌↔◌}
use Rattle.std.proofs.Common.{◌≡◌, ℕ, Option, Some, None}
use Rattle.ospf_types.specs.declared.entry.Vertex.{Vertex}
use Rattle.ospf_types.specs.declared.entry.Vertex.TheVariants.{Router}
use Rattle.ospf_types.specs.declared.hop.NextHop.{NextHop}
use Rattle.ospf_types.specs.Distances.{Links, IsDistance, IsHop}
use Rattle.spf.specs.Trees.{AreLinks, AreReal, AreDistances, AreUnions, IsTree}
use Rattle.spf.specs.Repairs.{AreGone, AreCome, AreLinkUpdates, AreFair, IsEmptyQueue, AreRightOrQueued}
use Rattle.spf.proofs.Values.{value_at}
use Rattle.spf.proofs.Hops.{hops_are_unions, hops_everywhere}
use Rattle.spf.proofs.Settling.{given_more}
use Rattle.spf.proofs.QueuedDistances.{distances_at_end}
use Rattle.spf.proofs.WrittenSets.{unions_at_end}

-- no links
abbrev pub NoLinks : Links
NoLinks from to cost label = ⊥

-- no distances
abbrev pub no_distances : Vertex → Option ℕ
no_distances v = None

-- Where there is no root, nothing is reached.
pub blank_tree : (root : ℕ) → IsTree NoLinks root ⊥ no_distances (λ v h. ⊥)
blank_tree root = record {
  distances = record { right = λ to d is. absurd cc; unreached = λ to is way path. path.0 };
  right = λ to h. (λ x. absurd x, λ is. absurd is.path.1.0);
}

-- no links are such as the tree needs
pub no_links : (root : ℕ) → AreLinks NoLinks root ⊥
no_links root = record {
  out_of_router = λ router to cost label taken. absurd taken;
  out_of_network = λ network to cost label taken. absurd taken;
  out_of_root = λ to cost label taken. absurd taken;
}

module _ {before after gone come : Links} where
  -- lists that name every change name what each part of a repair needs
  pub are_gone : AreLinkUpdates before after gone come → AreGone before after gone
  are_gone changes = record { went = changes.went }

  -- and the added links, whatever has a distance at the start
  pub are_come : AreLinkUpdates before after gone come → (start : Vertex → Option ℕ) → AreCome before after come start
  are_come changes start = record { came = λ from to cost label d taken is. changes.came from to cost label taken }

module _ {link : Links} {root : ℕ} {has_root : Type 0} {distance : Vertex → Option ℕ} {hops : Vertex → NextHop → Type 0} where
  -- in a tree the next hops are what the least links give
  pub tree_unions : IsTree link root has_root distance hops → AreUnions link root distance hops
  tree_unions tree = record {
    union = λ to d is other h.
        let union = (hops_are_unions tree.distances).union to d is other h in (
          λ x. given_more link link root distance distance (IsHop link root has_root) hops to h (λ from cost label least. least) (λ from cost label least not_root g. (tree.right from g).1) (union.0 ((tree.right to h).0 x)),
          λ given. (tree.right to h).1 (union.1 (given_more link link root distance distance hops (IsHop link root has_root) to h (λ from cost label least. least) (λ from cost label least not_root g. (tree.right from g).0) given)),
        );
  }

  -- The result of a repair is the tree: nothing is queued, the links are fair and the distances
  -- real;
  -- then no set is queued, and each is right; the root and what is not reached have none.
  pub tree_at_end : AreLinks link root has_root → (queue again : Vertex → Option ℕ) → (has_root → distance (Router root) ≡ Some 0) → IsEmptyQueue queue → AreFair link root distance queue → AreReal link root has_root distance
      → IsEmptyQueue again → AreRightOrQueued link root distance again hops
      → ((h : NextHop) → hops (Router root) h → ⊥) → ((to : Vertex) → distance to ≡ None → (h : NextHop) → hops to h → ⊥)
      → IsTree link root has_root distance hops
  tree_at_end links queue again rooted none fair real none_again right blank_root blank =
      let are : AreDistances link root has_root distance = distances_at_end distance queue rooted none fair real in
      record { distances = are; right = hops_everywhere links distance hops are (unions_at_end distance again hops none_again right) blank_root blank }

  -- the distances of a tree belong to its vertices
  pub tree_distance : IsTree link root has_root distance hops → (v : Vertex) (d : ℕ) → (distance v ≡ Some d) ↔ IsDistance link root has_root v d
  tree_distance tree v d = (λ is. tree.distances.right v d is, λ at. value_at tree.distances v d at)

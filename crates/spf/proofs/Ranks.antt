-- The rank grows along every link that goes no nearer, and so along every least link: what is shown
-- of a vertex may rest on its tails.
use Rattle.std.proofs.Common.{◌≡◌, ℕ, ◌+◌, ◌<◌, ◌≤◌, zero, suc, Option, Some, sym, ◌∙◌, arith}
use Rattle.ospf_types.specs.declared.entry.Vertex.{Vertex}
use Rattle.ospf_types.specs.declared.entry.Vertex.TheVariants.{Router, Network}
use Rattle.ospf_types.specs.declared.label.Label.{Label}
use Rattle.ospf_types.specs.Distances.{Links}
use Rattle.spf.specs.Trees.{AreLinks, IsShortestLink, rank}

module _ {link : Links} {root : ℕ} {has_root : Type 0} (are : AreLinks link root has_root) where
  -- Over a link to what is no nearer than its cost allows the rank grows.
  pub rank_grows : (from to : Vertex) (cost : ℕ) (label : Label) (d e : ℕ) → link from to cost label → d + cost ≤ e → rank from d < rank to e
  rank_grows (Router a) (Router b) cost label d e taken most = omega (arith, are.out_of_router a (Router b) cost label taken)
  rank_grows (Router a) (Network b) cost label d e taken most = omega (arith, are.out_of_router a (Network b) cost label taken)
  rank_grows (Network a) (Router b) cost label d e taken most = omega arith
  rank_grows (Network a) (Network b) cost label d e taken most = let leads = (are.out_of_network a (Network b) cost label taken).leads in absurd cc

-- the rank grows with the distance
pub rank_rises : (v : Vertex) (d e : ℕ) → d ≤ e → rank v d ≤ rank v e
rank_rises (Router a) d e most = omega arith
rank_rises (Network a) d e most = omega arith

-- what has no greater rank is no farther
pub rank_falls : (v : Vertex) (d e : ℕ) → rank v d ≤ rank v e → d ≤ e
rank_falls (Router a) d e most = omega arith
rank_falls (Network a) d e most = omega arith

module _ (distance : Vertex → Option ℕ) (P : Vertex → Type 0) where
  -- strong induction on the rank of a reached vertex
  module _ (step : (to : Vertex) (d : ℕ) → distance to ≡ Some d → ((from : Vertex) (e : ℕ) → distance from ≡ Some e → rank from e < rank to d → P from) → P to) where
    -- induction on a bound of the rank
    below : (bound : ℕ) (to : Vertex) (d : ℕ) → distance to ≡ Some d → rank to d < bound → P to
    below zero to d is less = absurd (omega arith)
    below (suc bound) to d is less = step to d is (λ from e at lower. below bound from e at (omega arith))

    -- and on the rank itself
    pub by_rank : (to : Vertex) (d : ℕ) → distance to ≡ Some d → P to
    by_rank to d is = below (suc (rank to d)) to d is (omega arith)

  -- what holds of a reached vertex if it holds of the tails of its least links, holds of all
  pub along_least : {link : Links} {root : ℕ} {has_root : Type 0} → AreLinks link root has_root
      → ((to : Vertex) (d : ℕ) → distance to ≡ Some d → ((from : Vertex) (cost : ℕ) (label : Label) → IsShortestLink link distance from to cost label → P from) → P to)
      → (to : Vertex) (d : ℕ) → distance to ≡ Some d → P to
  along_least are step =
      by_rank (λ to d is before.
      step to d is (λ from cost label least.
      let same : Some d ≡ Some (least.near + cost) = sym is ∙ least.head in
      let number : d ≡ least.near + cost = cc in
      before from least.near least.tail (rank_grows are from to cost label least.near d least.taken (omega arith))))

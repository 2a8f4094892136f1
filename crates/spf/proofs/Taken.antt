-- A vertex taken from the queue of distances is right at once: the value at which the vertex of
-- least rank is queued is its distance.
use Rattle.std.proofs.Common.{◌≡◌, ℕ, ◌+◌, ◌≤◌, List, [], ◌∷◌, Option, Some, subst, inl, inr, arith}
use Rattle.ospf_types.specs.declared.entry.Vertex.{Vertex}
use Rattle.ospf_types.specs.declared.entry.Vertex.TheVariants.{Router, Network}
use Rattle.ospf_types.specs.Distances.{Links, TakenLink, Leads, IsPath, cost_of, IsDistance}
use Rattle.spf.specs.Trees.{rank}
use Rattle.spf.specs.Loops.{AreRelaxing, IsVertexPopped}
use Rattle.spf.proofs.Paths.{cost_of-cons}

-- what has no greater rank is no farther, at another vertex too
pub no_farther : (v w : Vertex) (k e : ℕ) → rank v k ≤ rank w e → k ≤ e
no_farther (Router a) (Router b) k e most = omega arith
no_farther (Router a) (Network b) k e most = omega arith
no_farther (Network a) (Router b) k e most = omega arith
no_farther (Network a) (Network b) k e most = omega arith

module _ {after come : Links} {root : ℕ} {has_root : Type 0} {start distance queue : Vertex → Option ℕ} {moved stale : List Vertex}
    (n : AreRelaxing after come root has_root start distance queue moved stale) where
  module _ (v : Vertex) (k : ℕ) (waits : queue v ≡ Some k) (least : (w : Vertex) (e : ℕ) → queue w ≡ Some e → rank v k ≤ rank w e) where
    -- a way from a reached vertex costs, with its distance, as much as the vertex of least rank is
    -- queued at: it leads over what is reached, or over what is queued as far
    way_as_long : (from : Vertex) (d : ℕ) (way : List TakenLink) → distance from ≡ Some d → Leads after root from way v → k ≤ d + cost_of way
    way_as_long from d [] is leads = omega (arith, n.less v k d waits (subst (λ w. distance w ≡ Some d) leads is))
    way_as_long from d (step ∷ way) is leads = elim (n.fair.fair from step.to step.cost step.label d leads.0 leads.1 is) [
      | inl reached ↦ omega (arith, way_as_long step.to reached.number way reached.is leads.2, reached.most, cost_of-cons step way)
      | inr queued ↦ omega (arith, no_farther v step.to k queued.number (least step.to queued.number queued.is), queued.most, cost_of-cons step way)
    ]

    -- so does each path
    path_as_long : (way : List TakenLink) → IsPath after root has_root way v → k ≤ cost_of way
    path_as_long way path = omega (arith, way_as_long (Router root) 0 way (n.rooted path.0) path.1)

    -- The value at which the vertex of least rank is queued is its distance.
    pub queued_distance : IsDistance after root has_root v k
    queued_distance =
        let found = n.queued_real.real v k waits in
        record { reached = (found.way, found.path, omega (arith, found.most, path_as_long found.way found.path)); least = path_as_long }

  -- So each round takes a vertex at its distance.
  pub taken_distance : (new more : Vertex → Option ℕ) (wider : List Vertex) (v : Vertex) (k : ℕ) → IsVertexPopped after root distance queue new more stale wider v k → IsDistance after root has_root v k
  taken_distance new more wider v k t = queued_distance v k t.waits t.least

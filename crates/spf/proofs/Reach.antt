-- Distances are bounded: a least path leaves each router once, and costs at most the greatest cost
-- of a link for each.
use Rattle.std.proofs.Common.{◌≡◌, ℕ, zero, suc, ◌+◌, ◌*◌, ◌<◌, ◌≤◌, List, [], ◌∷◌, ◌++◌, length, Option, Some, sym, ap, subst, inl, inr, length-append, arith}
use Rattle.std.specs.List.{Contains}
use Rattle.std.proofs.lemmas.Nat.{mul-le}
use Rattle.std.proofs.lemmas.List.Elements.{Contains-push_cases}
use Rattle.ospf_types.specs.declared.entry.Vertex.{Vertex}
use Rattle.ospf_types.specs.declared.entry.Vertex.TheVariants.{Router, Network}
use Rattle.ospf_types.specs.declared.label.Label.{Label}
use Rattle.ospf_types.specs.Distances.{Links, TakenLink, Leads, cost_of, IsDistance}
use Rattle.vertex_queue.specs.VertexSet.{HasNoDoubles}
use Rattle.vertex_queue.proofs.Counting.{no_longer, no_doubles_nil, no_doubles_push}
use Rattle.spf.specs.Trees.{step_to, AreLinks, AreCosts, AreDistances}
use Rattle.ospf_types.proofs.Elements.{no_element}
use Rattle.spf.proofs.Paths.{last_step, cost_before, beginning, same_distance}

module _ {link : Links} {root : ℕ} {has_root : Type 0} {most : ℕ} {routers : List ℕ} (are : AreLinks link root has_root) (costs : AreCosts link most routers) where
  -- the routers that a least path of this cost leaves, without duplicates, each nearer than the
  -- cost, which is no more than the greatest cost of a link for each
  record LeavesRouters (d : ℕ) : Type 0 where
    pub left : List ℕ
    pub apart : HasNoDoubles left
    pub among : (r : ℕ) → Contains left r → Contains routers r
    pub nearer : (r : ℕ) → Contains left r → (e : ℕ) × IsDistance link root has_root (Router r) e × (e < d)
    pub bound : d ≤ most * length left

  -- the empty path leaves none
  none_left : LeavesRouters 0
  none_left = record { left = []; apart = no_doubles_nil; among = λ r none. absurd (no_element r none); nearer = λ r none. absurd (no_element r none); bound = omega arith }

  -- a path that goes on from a router leaves one more
  one_more_left : (r : ℕ) (to : Vertex) (cost near : ℕ) (label : Label) → link (Router r) to cost label → IsDistance link root has_root (Router r) near → LeavesRouters near → LeavesRouters (near + cost)
  one_more_left r to cost near label taken at l = record {
    left = l.left ++ r ∷ [];
    apart = no_doubles_push l.left r l.apart (λ c. let w = l.nearer r c in omega (arith, w.2, same_distance link root has_root (Router r) w.0 near w.1 at));
    among = λ q c. elim (Contains-push_cases l.left r q c) [ inl was ↦ l.among q was | inr same ↦ subst (λ n. Contains routers n) same (costs.listed r to cost label taken) ];
    nearer = λ q c. elim (Contains-push_cases l.left r q c) [
      | inl was ↦ let w = l.nearer q was in (w.0, w.1, omega (arith, w.2))
      | inr same ↦ (near, subst (λ n. IsDistance link root has_root (Router n) near) same at, omega (arith, are.out_of_router r to cost label taken))
    ];
    bound = rw (length-append l.left (r ∷ [])) (omega (arith, l.bound, costs.bounded r to cost label taken));
  }

  -- a path that goes on over any link
  goes_on : (from to : Vertex) (cost near : ℕ) (label : Label) → link from to cost label → IsDistance link root has_root from near → LeavesRouters near → LeavesRouters (near + cost)
  goes_on (Router r) to cost near label taken at l = one_more_left r to cost near label taken at l
  goes_on (Network n) to cost near label taken at l =
      let free : near ≡ near + cost = omega (arith, (are.out_of_network n to cost label taken).free) in
      subst LeavesRouters free l

  -- so each least path leaves such routers, by induction on its length
  leaves : (longest : ℕ) (to : Vertex) (way : List TakenLink) → length way ≤ longest → has_root → Leads link root (Router root) way to → IsDistance link root has_root to (cost_of way) → LeavesRouters (cost_of way)
  leaves longest to [] short has leads at = none_left
  leaves zero to (step ∷ way) short has leads at = absurd (omega (arith, short))
  leaves (suc longest) to (step ∷ way) short has leads at =
      let e = last_step link root (Router root) to step way leads in
      let before = beginning link root has_root to (step ∷ way) e has at in
      let shorter : length e.before ≤ longest = omega (arith, short, ap length e.whole, length-append e.before (step_to to e.cost e.label ∷ [])) in
      subst LeavesRouters (sym (cost_before link root (Router root) to (step ∷ way) e))
      (goes_on e.tail to e.cost (cost_of e.before) e.label e.taken before (leaves longest e.tail e.before shorter has e.leads before))

  -- A distance is at most the greatest cost of a link for each router that links lead out of.
  pub distance_bound : (to : Vertex) (d : ℕ) → IsDistance link root has_root to d → d ≤ most * length routers
  distance_bound to d at =
      let cost = at.reached.2 in
      let l = leaves (length at.reached.0) to at.reached.0 (omega arith) at.reached.1.0 at.reached.1.1 (subst (λ n. IsDistance link root has_root to n) (sym cost) at) in
      omega (arith, cost, l.bound, mul-le most (length l.left) most (length routers) (omega arith) (no_longer l.left routers l.apart l.among))

  -- With 16-bit metrics and no more than 16384 routers it is below 2^30.
  pub distance_fits : most ≤ 65535 → length routers ≤ 16384 → (to : Vertex) (d : ℕ) → IsDistance link root has_root to d → d < 1073741824
  distance_fits metrics few to d at = omega (arith, distance_bound to d at, mul-le most (length routers) 65535 16384 metrics few)

  -- so are all values that are distances
  pub distances_fit : most ≤ 65535 → length routers ≤ 16384 → (distance : Vertex → Option ℕ) → AreDistances link root has_root distance → (to : Vertex) (d : ℕ) → distance to ≡ Some d → d < 1073741824
  distances_fit metrics few distance right to d is = distance_fits metrics few to d (right.right to d is)

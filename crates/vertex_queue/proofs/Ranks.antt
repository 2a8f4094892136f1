-- The distance of each vertex in a queue after a removal, and the rank of the first vertex.
use Rattle.std.proofs.Common.{◌≡◌, ◌≢◌, ◌⊎◌, inl, inr, ℕ, ◌≤◌, ◌<◌, true, false, cond, Some, None, refl, ap, ◌∙◌, arith}
use Rattle.std.specs.Prelude.{nat_le, if◌then◌else◌}
use Rattle.std.specs.Ordering.{eq_by_cmp, nat_cmp, ordering_then}
use Rattle.std.specs.Cmp.{eq_by_cmp_equiv, ranked}
use Rattle.std.specs.declared.cmp.Ordering.{Ordering}
use Rattle.std.specs.declared.cmp.Ordering.TheVariants.{Less, Equal, Greater}
use Rattle.std.specs.FinMap.{get, insert, get-insert}
use Rattle.std.proofs.lemmas.Bool.Decides.{nat_tests}
use Rattle.std.proofs.lemmas.Map.Views.{tells_apart}
use Rattle.ospf_types.specs.declared.entry.Vertex.{Vertex}
use Rattle.ospf_types.specs.declared.entry.Vertex.TheVariants.{Router, Network}
use Rattle.ospf_types.specs.Vertices.{vertex_cmp}
use Rattle.vertex_queue.specs.Queues.{Queue, queue_cmp, IsFirstWaiting, waits_within, lessened, rank}
use Rattle.ospf_types.proofs.VertexOrder.{vertex_total, vertex_exact}

no_farther : (k e : ℕ) (rest : Ordering) → ordering_then (nat_cmp k e) rest ≢ Greater → k ≤ e
no_farther k e rest upto =
    elim (nat_cmp k e) as (λ r. r ≡ nat_cmp k e → ordering_then r rest ≢ Greater → k ≤ e) [
      | Less ↦ λ is up. let lt : k < e = ranked k e Less is in omega arith
      | Equal ↦ λ is up. let same : k ≡ e = ranked k e Equal is in omega arith
      | Greater ↦ λ is up. absurd (up refl)
    ] refl upto

nearer : (k e : ℕ) → ordering_then (nat_cmp k e) Greater ≢ Greater → k < e
nearer k e upto =
    elim (nat_cmp k e) as (λ r. r ≡ nat_cmp k e → ordering_then r Greater ≢ Greater → k < e) [
      | Less ↦ λ is up. ranked k e Less is
      | Equal ↦ λ is up. absurd (up refl)
      | Greater ↦ λ is up. absurd (up refl)
    ] refl upto

rank_upto : (v w : Vertex) (k e : ℕ) → queue_cmp (k, v) (e, w) ≢ Greater → rank v k ≤ rank w e
rank_upto (Router r) (Router s) k e upto = omega (arith, no_farther k e (nat_cmp r s) upto)
rank_upto (Router r) (Network n) k e upto = omega (arith, nearer k e upto)
rank_upto (Network n) (Router r) k e upto = omega (arith, no_farther k e Less upto)
rank_upto (Network m) (Network n) k e upto = omega (arith, no_farther k e (nat_cmp m n) upto)

-- nothing that waits has a lower rank than the first
pub first_has_least_rank : (q : Queue) (v w : Vertex) (k e : ℕ) → IsFirstWaiting q v k → get q w ≡ Some e → rank v k ≤ rank w e
first_has_least_rank q v w k e first there = rank_upto v w k e (first.none_before w e there)

-- ---- a lessened queue

set_here : (q : Queue) (v : Vertex) (d : ℕ) → get (insert q v d) v ≡ Some d
set_here q v d = get-insert vertex_total q v d v ∙ ap (λ b. cond b (Some d) (get q v)) ((eq_by_cmp_equiv vertex_total).refl v)

-- at the vertex: the distance or less, and if less then what was there
pub lessened_here : (q : Queue) (v : Vertex) (d : ℕ) → (e : ℕ) × (get (lessened q v d) v ≡ Some e) × (e ≤ d) × ((e ≡ d) ⊎ (get q v ≡ Some e))
lessened_here q v d =
    elim (get q v) as (λ o. get q v ≡ o → (e : ℕ) × (get (if waits_within o d then q else insert q v d) v ≡ Some e) × (e ≤ d) × ((e ≡ d) ⊎ (get q v ≡ Some e))) [
      | None ↦ λ is. (d, set_here q v d, omega arith, inl refl)
      | Some e ↦ λ is.
          elim (nat_le e d) as (λ b. nat_le e d ≡ b → (e : ℕ) × (get (if b then q else insert q v d) v ≡ Some e) × (e ≤ d) × ((e ≡ d) ⊎ (get q v ≡ Some e))) [
            | true ↦ λ within. (e, is, grind (arith, nat_tests, within), inr is)
            | false ↦ λ within. (d, set_here q v d, omega arith, inl refl)
          ] refl
    ] refl

-- elsewhere: what was there
pub lessened_elsewhere : (q : Queue) (v w : Vertex) (d : ℕ) → w ≢ v → get (lessened q v d) w ≡ get q w
lessened_elsewhere q v w d other =
    elim (waits_within (get q v) d) as (λ b. get (if b then q else insert q v d) w ≡ get q w) [
      | true ↦ refl
      | false ↦ get-insert vertex_total q v d w ∙ ap (λ b. cond b (Some d) (get q w)) apart
    ]
  where
    apart : eq_by_cmp vertex_cmp w v ≡ false
    apart = elim (eq_by_cmp vertex_cmp w v) as (λ b. eq_by_cmp vertex_cmp w v ≡ b → b ≡ false) [ true ↦ λ tied. absurd (other (tells_apart vertex_exact w v tied)) | false ↦ λ tied. refl ] refl

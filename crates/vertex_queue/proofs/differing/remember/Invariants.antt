use Rattle.std.proofs.Common.{◌≡◌, ℕ, Option, ◌∷◌, map, take}
use Rattle.std.specs.FinMap.{get}
use Rattle.ospf_types.specs.declared.entry.Vertex.{Vertex}
use Rattle.vertex_queue.proofs.differing.remember.Given as goal

abbrev pub invariant-loop-vertex : goal.invariant-loop-vertex
invariant-loop-vertex l = l.remembered.items ≡ map {A = Vertex} {B = Vertex × Option ℕ} (λ (v : Vertex). (v, get l.distances v)) (l.fn.root ∷ take l.vertex-index l.lost)

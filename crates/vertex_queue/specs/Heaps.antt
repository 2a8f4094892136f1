-- The parts of a queue: the distance at which each vertex waits, and next to them a heap of what
-- was put there.
use Rattle.std.specs.Prelude.{ℕ, ◌%◌, ◌≡◌, ◌≢◌, Bool, true, false, nat_eq, List, Some}
use Rattle.std.specs.BinaryHeap.{IsHeap}
use Rattle.std.specs.FinMap.{get}
use Rattle.std.specs.List.{Contains}
use Rattle.std.specs.Ordering.{nat_cmp, ordering_then}
use Rattle.std.specs.declared.cmp.Ordering.{Ordering}
use Rattle.std.specs.declared.cmp.Reverse.{Reverse}
use Rattle.ospf_types.specs.declared.entry.Vertex.{Vertex}
use Rattle.ospf_types.specs.declared.entry.Vertex.TheVariants.{Router, Network}
use Rattle.vertex_queue.specs.declared.waiting.Waiting.{Waiting}
use Rattle.vertex_queue.specs.Queues.{Queue, kind_and_number, rank}

-- an entry of the heap is of the vertex at the distance, whatever its place
abbrev pub IsHeapEntryAt : Waiting → Vertex → ℕ → Type 0
IsHeapEntryAt w v d = (w.rank ≡ rank v d) × (w.number ≡ (kind_and_number v).1)

-- networks have even ranks
abbrev pub vertex_of_kind : Bool → ℕ → Vertex
vertex_of_kind true number = Network number
vertex_of_kind false number = Router number

-- the vertex of an entry
abbrev pub waiting_vertex : Waiting → Vertex
waiting_vertex w = vertex_of_kind (nat_eq (w.rank % 2) 0) w.number

-- the order of the heap, whose greatest element comes first
abbrev pub heap_cmp : Reverse Waiting → Reverse Waiting → Ordering
heap_cmp x y = ordering_then (nat_cmp y.0.rank x.0.rank) (ordering_then (nat_cmp y.0.number x.0.number) (nat_cmp y.0.place x.0.place))

-- the heap has the vertex at the distance
abbrev pub Has : List (Reverse Waiting) → Vertex → ℕ → Type 0
Has heap v d = (w : Waiting) × IsHeapEntryAt w v d × Contains heap (record { 0 = w })

-- what the distances and the heap have to do with each other
pub record AreQueue (q : Queue) (heap : List (Reverse Waiting)) : Type 0 where
  pub in_order : IsHeap heap_cmp heap
  pub held : (v : Vertex) (d : ℕ) → get q v ≡ Some d → Has heap v d

-- the vertex of the entry does not wait at the distance of the entry
abbrev pub IsStale : Queue → Waiting → Type 0
IsStale q w = (v : Vertex) (d : ℕ) → IsHeapEntryAt w v d → get q v ≢ Some d

-- the heap is in order, and has what waits but for one vertex
pub record HoldsOthers (q : Queue) (first : Vertex) (heap : List (Reverse Waiting)) : Type 0 where
  pub in_order : IsHeap heap_cmp heap
  pub held : (v : Vertex) (d : ℕ) → get q v ≡ Some d → v ≢ first → Has heap v d

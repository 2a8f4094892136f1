-- The queue of a shortest-path search (RFC 2328, 16.1, step (3)): the vertices that wait, each at a
-- distance.
use Rattle.std.specs.Prelude.{ℕ, ◌+◌, ◌*◌, ◌≡◌, ◌≢◌, Bool, false, Option, Some, None, nat_le, if◌then◌else◌}
use Rattle.std.specs.Ordering.{nat_cmp, ordering_then}
use Rattle.std.specs.declared.cmp.Ordering.{Ordering}
use Rattle.std.specs.declared.cmp.Ordering.TheVariants.{Greater}
use Rattle.std.specs.FinMap.{FinMap, get, insert}
use Rattle.ospf_types.specs.declared.entry.Vertex.{Vertex}
use Rattle.ospf_types.specs.declared.entry.Vertex.TheVariants.{Router, Network}
use Rattle.ospf_types.specs.Vertices.{vertex_cmp}

-- the distance at which each vertex waits
abbrev pub Queue : Type 0
Queue = FinMap vertex_cmp ℕ

-- networks first
abbrev pub kind_and_number : Vertex → ℕ × ℕ
kind_and_number (Network n) = (0, n)
kind_and_number (Router r) = (1, r)

-- the order in which vertices leave the queue: by distance, of equal distances networks before
-- routers, then by number
abbrev pub queue_cmp : ℕ × Vertex → ℕ × Vertex → Ordering
queue_cmp x y =
    ordering_then (nat_cmp x.0 y.0) (ordering_then (nat_cmp (kind_and_number x.1).0 (kind_and_number y.1).0) (nat_cmp (kind_and_number x.1).1 (kind_and_number y.1).1))

-- v waits at d, and nothing that waits comes before it
pub record IsFirstWaiting (q : Queue) (v : Vertex) (d : ℕ) : Type 0 where
  pub waits : get q v ≡ Some d
  pub none_before : (w : Vertex) (e : ℕ) → get q w ≡ Some e → queue_cmp (d, v) (e, w) ≢ Greater

-- a distance, if there is one, is d or less
abbrev pub waits_within : Option ℕ → ℕ → Bool
waits_within None d = false
waits_within (Some e) d = nat_le e d

-- q, with v at d unless it waits at d or less
abbrev pub lessened : Queue → Vertex → ℕ → Queue
lessened q v d = if waits_within (get q v) d then q else insert q v d

-- a number that rises with the distance, and of equal distances from networks to routers
abbrev pub rank : Vertex → ℕ → ℕ
rank (Network n) d = 2 * d
rank (Router r) d = 2 * d + 1

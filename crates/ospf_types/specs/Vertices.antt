-- The order of vertices, and their code.
use Rattle.std.proofs.Common.{ℕ, ◌≡◌, ◌+◌, ◌^◌, ◌⊎◌, inl, inr, refl}
use Rattle.std.specs.Ordering.{nat_cmp, ordering_then}
use Rattle.std.specs.Coded.{Coded, code_by, coded⊎, coded_ℕ}
use Rattle.std.specs.declared.cmp.Ordering.{Ordering}
use Rattle.ospf_types.specs.declared.entry.Vertex.{Vertex}
use Rattle.ospf_types.specs.declared.entry.Vertex.TheVariants.{Router, Network}

-- routers first
abbrev pub vertex_rank : Vertex → ℕ × ℕ
vertex_rank (Router r) = (0, r)
vertex_rank (Network n) = (1, n)

abbrev pub vertex_cmp : Vertex → Vertex → Ordering
vertex_cmp a b = ordering_then (nat_cmp (vertex_rank a).0 (vertex_rank b).0) (nat_cmp (vertex_rank a).1 (vertex_rank b).1)

-- a number of its own for each vertex, below 2^33
abbrev pub vertex_word : Vertex → ℕ
vertex_word (Router r) = r
vertex_word (Network n) = 2 ^ 32 + n

-- the number of a router, or of a network
abbrev pub vertex_number : Vertex → ℕ ⊎ ℕ
vertex_number (Router r) = inl r
vertex_number (Network n) = inr n

abbrev pub numbered_vertex : ℕ ⊎ ℕ → Vertex
numbered_vertex (inl r) = Router r
numbered_vertex (inr n) = Network n

pub vertex_numbered : (v : Vertex) → numbered_vertex (vertex_number v) ≡ v
vertex_numbered (Router r) = refl
vertex_numbered (Network n) = refl

abbrev pub vertex_code : Coded Vertex
vertex_code = code_by (ℕ ⊎ ℕ) (coded⊎ coded_ℕ coded_ℕ) vertex_number numbered_vertex vertex_numbered

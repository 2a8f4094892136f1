-- One number for each vertex, in the order of vertices: routers below a number, networks from
-- there. No public clause cites this module.
use Rattle.std.specs.Prelude.{ℕ, ◌-◌, ◌^◌, ◌++◌, List, cond, map, nat_lt}
use Rattle.ospf_types.specs.declared.entry.Vertex.{Vertex}
use Rattle.ospf_types.specs.declared.entry.Vertex.TheVariants.{Router, Network}

-- the vertex of a number, networks from the first number on
abbrev pub vertex_from : ℕ → ℕ → Vertex
vertex_from first k = cond (nat_lt k first) (Router k) (Network (k - first))

abbrev pub vertex_at : ℕ → Vertex
vertex_at k = vertex_from (2 ^ 32) k

-- the vertices with those of some keys after them
abbrev pub with_keys : List Vertex → List ℕ → List Vertex
with_keys vertices keys = vertices ++ map vertex_at keys

-- The order of ends, the ends at one vertex, and the end at a router that a network-LSA lists.
use Rattle.std.specs.Prelude.{◌↔◌, ℕ, ◌≡◌, ◌≢◌, List, Contains}
use Rattle.std.specs.List.Sorted.{IsPartitionPoint}
use Rattle.std.specs.Ordering.{nat_cmp, ordering_then}
use Rattle.std.specs.declared.cmp.Ordering.{Ordering}
use Rattle.std.specs.declared.cmp.Ordering.TheVariants.{Less, Greater}
use Rattle.ospf_types.specs.declared.entry.Vertex.{Vertex}
use Rattle.ospf_types.specs.declared.entry.Vertex.TheVariants.{Router}
use Rattle.ospf_types.specs.Vertices.{vertex_cmp}
use Rattle.graph_links.specs.declared.link_end.LinkEnd.{LinkEnd}

-- by vertex, then Link Data, then metric
abbrev pub end_cmp : LinkEnd → LinkEnd → Ordering
end_cmp a b = ordering_then (vertex_cmp a.to b.to) (ordering_then (nat_cmp a.detail b.detail) (nat_cmp a.metric b.metric))

-- the link end of a router that a network-LSA lists
abbrev pub listed_end : ℕ → LinkEnd
listed_end router = record { to = Router router; detail = 0; metric = 0 }

-- the ends of a list that are at the vertex
abbrev pub AreEndsAt : Vertex → List LinkEnd → List LinkEnd → Type 0
AreEndsAt v all ends = (e : LinkEnd) → Contains ends e ↔ (Contains all e × (e.to ≡ v))

-- this many ends are below the vertex, and they come before all others
abbrev pub IsCountBelow : Vertex → List LinkEnd → ℕ → Type 0
IsCountBelow v ends n = IsPartitionPoint (λ (e : LinkEnd). vertex_cmp e.to v ≡ Less) (λ (e : LinkEnd). vertex_cmp e.to v ≢ Less) ends n

-- this many ends are below the vertex or at it, and they come before all others
abbrev pub IsCountUpTo : Vertex → List LinkEnd → ℕ → Type 0
IsCountUpTo v ends n = IsPartitionPoint (λ (e : LinkEnd). vertex_cmp e.to v ≢ Greater) (λ (e : LinkEnd). vertex_cmp e.to v ≡ Greater) ends n

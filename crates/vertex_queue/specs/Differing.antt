-- Why a repair lists a vertex as changed: by its distance before, or because it is nearer.
use Rattle.std.specs.Prelude.{ℕ, ◌≢◌, ◌↔◌, ◌⊎◌, List, Contains, Option, map}
use Rattle.std.specs.FinMap.{get}
use Rattle.ospf_types.specs.declared.entry.Vertex.{Vertex}
use Rattle.vertex_queue.specs.Maps.{DistanceMap}

-- the vertex was remembered with another distance than it has
abbrev pub IsFarther : List (Vertex × Option ℕ) → DistanceMap → Vertex → Type 0
IsFarther before distances v = (d : Option ℕ) × Contains before (v, d) × (get distances v ≢ d)

-- the vertex was moved, and had not lost its distance
abbrev pub IsNearer : List Vertex → List Vertex → Vertex → Type 0
IsNearer moved lost v = Contains moved v × (Contains lost v → ⊥)

-- each vertex with the distance that it has
abbrev pub with_distances : DistanceMap → List Vertex → List (Vertex × Option ℕ)
with_distances distances vertices = map (λ v. (v, get distances v)) vertices

-- both lists have the same vertices
abbrev pub HaveSameVertices : List Vertex → List Vertex → Type 0
HaveSameVertices xs ys = (v : Vertex) → Contains xs v ↔ Contains ys v

-- the list has what it had at the start, and that of which this holds
abbrev pub IsGrown : List Vertex → List Vertex → (Vertex → Type 0) → Type 0
IsGrown now start Holds = (v : Vertex) → Contains now v ↔ (Contains start v ⊎ Holds v)

-- the list has just the vertices of which this holds
abbrev pub HasExactly : List Vertex → (Vertex → Type 0) → Type 0
HasExactly vertices Holds = (v : Vertex) → Contains vertices v ↔ Holds v

-- the vertex was remembered with another distance, it is nearer, or its next hops were written
abbrev pub IsDiffering : List (Vertex × Option ℕ) → DistanceMap → List Vertex → List Vertex → List Vertex → Vertex → Type 0
IsDiffering before distances lost moved written v = IsFarther before distances v ⊎ (IsNearer moved lost v ⊎ Contains written v)

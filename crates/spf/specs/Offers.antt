-- What links offer vertices: each a distance at which it can be reached. A nearer one is queued;
-- over one that is as near the vertex has another least link.
use Rattle.std.specs.Prelude.{ℕ, ◌+◌, ◌≡◌, ◌≢◌, ◌<◌, ◌⊎◌, List, Contains, Option, Some, None}
use Rattle.std.specs.FinMap.{get}
use Rattle.ospf_types.specs.declared.entry.Vertex.{Vertex}
use Rattle.ospf_types.specs.declared.entry.Vertex.TheVariants.{Router}
use Rattle.ospf_types.specs.declared.label.Label.{Label}
use Rattle.ospf_types.specs.Distances.{Links}
use Rattle.vertex_graph.specs.GraphLink.{GraphLink}
use Rattle.vertex_graph.specs.Graphs.{GraphValue, LinksOf}
use Rattle.vertex_queue.specs.Maps.{DistanceMap}
use Rattle.spf.specs.declared.relax.Pending.{Pending}
use Rattle.spf.specs.Trees.{IsInLimit}

-- vertices, each with a distance
abbrev pub Offers : Type 1
Offers = Vertex → ℕ → Type 0

-- one vertex, and one distance
abbrev pub OneOffer : Vertex → ℕ → Offers
OneOffer v k to e = (to ≡ v) × (e ≡ k)

-- what a link offers its head, where its tail has this distance; the root is offered nothing
abbrev pub OverLink : ℕ → GraphLink → ℕ → Offers
OverLink root l near to e = (to ≡ l.to) × (to ≢ Router root) × (e ≡ near + l.cost)

-- what links offer whose tails all have this distance
abbrev pub OverLinks : ℕ → List GraphLink → ℕ → Offers
OverLinks root links near to e = (l : GraphLink) × Contains links l × OverLink root l near to e

-- what links offer where their tails are reached
abbrev pub OverReached : ℕ → (Vertex → Option ℕ) → List GraphLink → Offers
OverReached root distance links to e = (l : GraphLink) × (near : ℕ) × Contains links l × (distance l.from ≡ Some near) × OverLink root l near to e

-- what is offered over a relation of links out of one vertex
abbrev pub OutOf : Links → ℕ → Vertex → ℕ → Offers
OutOf link root from near to e = (cost : ℕ) × (label : Label) × link from to cost label × (to ≢ Router root) × (e ≡ near + cost)

-- and into several, where the tails are reached
abbrev pub Into : Links → ℕ → (Vertex → Option ℕ) → List Vertex → Offers
Into link root distance vertices to e = (from : Vertex) × (cost : ℕ) × (label : Label) × (near : ℕ) × Contains vertices to × link from to cost label × (distance from ≡ Some near) × (to ≢ Router root) × (e ≡ near + cost)

-- The offers were made: what is nearer is queued, and of each vertex the nearest; what is as near
-- makes its vertex stale.
pub record AreMade (offers : Offers) (distance queue more : Vertex → Option ℕ) (stale wider : List Vertex) : Type 0 where
  pub keeps : (v : Vertex) (e : ℕ) → queue v ≡ Some e → IsInLimit (more v) e
  pub put : (v : Vertex) (e : ℕ) → more v ≡ Some e → (queue v ≡ Some e) ⊎ (offers v e × ((d : ℕ) → distance v ≡ Some d → e < d))
  pub offered : (v : Vertex) (e : ℕ) → offers v e → IsInLimit (distance v) e ⊎ IsInLimit (more v) e
  pub widens : (v : Vertex) → Contains stale v → Contains wider v
  pub tells : (v : Vertex) (e : ℕ) → offers v e → distance v ≡ Some e → Contains wider v
  pub why : (v : Vertex) → Contains wider v → Contains stale v ⊎ ((e : ℕ) × offers v e × (distance v ≡ Some e))

-- the offers were made to what waits, where vertices have these distances
abbrev pub AreMadeIn : Offers → DistanceMap → Pending → Pending → Type 0
AreMadeIn offers distances old new = AreMade offers (get distances) (get old.queue) (get new.queue) old.stale new.stale

-- the offers were made, whatever the distances are, if the vertex is this far
abbrev pub AreMadeAt : Offers → Vertex → Option ℕ → Pending → Pending → Type 0
AreMadeAt offers v far old new =
    (distance : Vertex → Option ℕ) → distance v ≡ far → AreMade offers distance (get old.queue) (get new.queue) old.stale new.stale

-- what these links offer where their tails have a distance
abbrev pub OverReachedIn : ℕ → DistanceMap → List GraphLink → Offers
OverReachedIn root distances links = OverReached root (get distances) links

-- what the links of the graph out of a vertex at the distance offer
abbrev pub OutOfIn : GraphValue → Vertex → ℕ → Offers
OutOfIn g v near = OutOf (LinksOf g) g.root v near

-- what the links of the graph into these vertices offer
abbrev pub IntoIn : GraphValue → DistanceMap → List Vertex → Offers
IntoIn g distances vertices = Into (LinksOf g) g.root (get distances) vertices

-- the head of each link is this far
abbrev pub AreHeadsAt : DistanceMap → List GraphLink → Option ℕ → Type 0
AreHeadsAt distances links far = (l : GraphLink) → Contains links l → get distances l.to ≡ far

-- what is lost has no distance, the others keep theirs
pub record IsCleared (old : Vertex → Option ℕ) (lost : List Vertex) (new : Vertex → Option ℕ) : Type 0 where
  pub blank : (v : Vertex) → Contains lost v → new v ≡ None
  pub kept : (v : Vertex) → (Contains lost v → ⊥) → new v ≡ old v

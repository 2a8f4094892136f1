-- A graph of an area as its callers see it, and the links that it has (RFC 2328, 16.1).
use Rattle.std.specs.Prelude.{◌↔◌, ◌⊎◌, ℕ, ◌≡◌, ◌≢◌, ◌≤◌, ◌<◌, List, [], ◌∷◌, map, length, Contains, Option, Some, None, IsSome, option_map}
use Rattle.std.specs.List.{AllPairs}
use Rattle.std.specs.List.Sorted.{IsStrictlySortedBy}
use Rattle.std.specs.FinMap.{FinMap, get}
use Rattle.std.proofs.Common.{Bor}
use Rattle.lsa_codec.specs.declared.checked.Checked.{Checked}
use Rattle.ospf_types.specs.declared.entry.Vertex.{Vertex}
use Rattle.ospf_types.specs.declared.entry.Vertex.TheVariants.{Router, Network}
use Rattle.ospf_types.specs.declared.label.Label.{Label}
use Rattle.ospf_types.specs.declared.lsa.LinkKind.TheVariants as kind
use Rattle.ospf_types.specs.Distances.{Links}
use Rattle.ospf_types.specs.Links.{View, IsLinkOf, IsVertexOf}
use Rattle.ospf_types.specs.Lsa.{Body, RouterLink}
use Rattle.ospf_types.specs.Vertices.{vertex_cmp}
use Rattle.graph_links.specs.declared.link.GraphLink.{GraphLink}
use Rattle.graph_links.specs.declared.link.LinkChanges.{LinkChanges}
use Rattle.graph_links.specs.declared.link.Up.{Up}
use Rattle.graph_links.specs.declared.link_end.LinkEnd.{LinkEnd}
use Rattle.graph_links.specs.EndOrder.{end_cmp, listed_end}
use Rattle.vertex_graph.specs.Ends.{AreEnds}

abbrev pub EndsByVertex : Type 0
EndsByVertex = FinMap vertex_cmp (List LinkEnd)

-- the root, where each vertex leads, and the area's interfaces that are up
pub record GraphValue : Type 0 where
  pub root : ℕ
  pub ends : EndsByVertex
  pub interfaces : List Up

-- the kind of link that leads to the vertex
abbrev pub link_to : Vertex → LinkEnd → RouterLink
link_to (Router r) e = record { id = r; detail = e.detail; kind = kind.PointToPoint; metric = e.metric; tos = [] }
link_to (Network n) e = record { id = n; detail = e.detail; kind = kind.Transit; metric = e.metric; tos = [] }

abbrev pub link_of : LinkEnd → RouterLink
link_of e = link_to e.to e

abbrev pub number_of : Vertex → ℕ
number_of (Router r) = r
number_of (Network n) = n

-- what the graph's links rest on: the LSAs and interfaces that were given
abbrev pub graph_view : GraphValue → View
graph_view g = record {
  root = g.root;
  HasRouter = λ r flags links. (ends : List LinkEnd) × (get g.ends (Router r) ≡ Some ends) × (flags ≡ 0) × (links ≡ map link_of ends);
  HasNetwork = λ n mask routers. (ends : List LinkEnd) × (get g.ends (Network n) ≡ Some ends) × (mask ≡ 0) × (routers ≡ map (λ e. number_of e.to) ends);
  HasInterface = λ id address. Contains g.interfaces (record { id = id; address = address });
}

-- the links of the graph
abbrev pub LinksOf : GraphValue → Links
LinksOf g = IsLinkOf (graph_view g)

-- the root is a vertex
abbrev pub HasRoot : GraphValue → Type 0
HasRoot g = IsVertexOf (graph_view g) (Router g.root)

-- the links out of a vertex
abbrev pub AreLinksFrom : GraphValue → Vertex → List GraphLink → Type 0
AreLinksFrom g v links = (l : GraphLink) → Contains links l ↔ ((l.from ≡ v) × LinksOf g l.from l.to l.cost l.label)

-- the links into a vertex
abbrev pub AreLinksTo : GraphValue → Vertex → List GraphLink → Type 0
AreLinksTo g v links = (l : GraphLink) → Contains links l ↔ ((l.to ≡ v) × LinksOf g l.from l.to l.cost l.label)

-- metrics of a graph's links have 16 bits
abbrev pub HasCheapLinks : GraphValue → Type 0
HasCheapLinks g = (from to : Vertex) (cost : ℕ) (label : Label) → LinksOf g from to cost label → cost < 65536

-- at most this many routers of an area have an LSA
abbrev pub max_routers : ℕ
max_routers = 16384

-- no list of different routers that are there is longer than that
abbrev pub AreFew : (ℕ → Type 0) → Type 0
AreFew IsThere = (routers : List ℕ) → AllPairs (λ x y. x ≢ y) routers → ((r : ℕ) → Contains routers r → IsThere r) → length routers ≤ max_routers

abbrev pub HasFewRouters : GraphValue → Type 0
HasFewRouters g = AreFew (λ r. IsSome (get g.ends (Router r)))

-- each vertex has its ends in order, and a network leads only to routers
pub record HasEnds (g : GraphValue) : Type 0 where
  pub in_order : (v : Vertex) (ends : List LinkEnd) → get g.ends v ≡ Some ends → IsStrictlySortedBy end_cmp ends
  pub listed : (n : ℕ) (ends : List LinkEnd) (e : LinkEnd) → get g.ends (Network n) ≡ Some ends → Contains ends e → (router : ℕ) × (e ≡ listed_end router)

-- what is given: a vertex with the body of its LSA, or with `None` if the LSA goes
abbrev pub Handed : Type 0
Handed = Vertex × Option Body

-- what a slice gives
abbrev pub handed_of : List (Vertex × Option (Bor Checked)) → List Handed
handed_of = map (λ p. (p.0, option_map (λ lsa. lsa.now.body) p.1))

-- what is given for one vertex: its LSA, or none
abbrev pub handed_in : Vertex → Option (Bor Checked) → List Handed
handed_in v lsa = (v, option_map (λ (l : Bor Checked). l.now.body) lsa) ∷ []

-- no vertex is given twice
abbrev pub AreApartHanded : List Handed → Type 0
AreApartHanded handed = AllPairs (λ x y. x.0 ≢ y.0) handed

-- the vertex is there once these were given
abbrev pub IsThereAfter : GraphValue → List Handed → Vertex → Type 0
IsThereAfter g handed v = ((body : Body) × Contains handed (v, Some body)) ⊎ (((given : Option Body) → Contains handed (v, given) → ⊥) × IsSome (get g.ends v))

-- then too the routers are few
abbrev pub AreFewAfter : GraphValue → List Handed → Type 0
AreFewAfter g handed = AreFew (λ r. IsThereAfter g handed (Router r))

-- the graph once these were given
pub record IsReplaced (old new : GraphValue) (handed : List Handed) : Type 0 where
  pub there : (v : Vertex) (body : Body) → Contains handed (v, Some body) → (ends : List LinkEnd) × (get new.ends v ≡ Some ends) × AreEnds v body ends
  pub away : (v : Vertex) → Contains handed (v, None) → get new.ends v ≡ None
  pub others : (v : Vertex) → ((given : Option Body) → Contains handed (v, given) → ⊥) → get new.ends v ≡ get old.ends v
  pub root : new.root ≡ old.root
  pub interfaces : new.interfaces ≡ old.interfaces

-- exactly the links that were removed and added, without duplicates; one with another cost or label
-- is one of each
pub record AreExact (old new : GraphValue) (gone come : List GraphLink) : Type 0 where
  pub went : (l : GraphLink) → Contains gone l ↔ (LinksOf old l.from l.to l.cost l.label × (LinksOf new l.from l.to l.cost l.label → ⊥))
  pub came : (l : GraphLink) → Contains come l ↔ (LinksOf new l.from l.to l.cost l.label × (LinksOf old l.from l.to l.cost l.label → ⊥))
  pub went_once : AllPairs (λ k l. k ≢ l) gone
  pub came_once : AllPairs (λ k l. k ≢ l) come

-- a change names exactly the links that were removed and added
abbrev pub AreLinkChanges : GraphValue → GraphValue → LinkChanges → Type 0
AreLinkChanges old new changes = AreExact old new changes.gone.items changes.came.items

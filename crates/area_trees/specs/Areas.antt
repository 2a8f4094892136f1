-- The graph of an area as its database gives it, and its tree (RFC 2328, 16.1).
use Rattle.std.specs.Prelude.{◌↔◌, ◌⊎◌, ◌==◌, ℕ, ◌≡◌, ◌≤◌, Bool, false, List, [], ◌∷◌, ◌++◌, Contains, Option, Some, None, IsSome, if◌then◌else◌, option_to_list}
use Rattle.std.proofs.Common.{Bor}
use Rattle.std.specs.FinMap.{get, values}
use Rattle.ospf_types.specs.declared.entry.Vertex.{Vertex}
use Rattle.ospf_types.specs.declared.entry.Vertex.TheVariants.{Router, Network}
use Rattle.ospf_types.specs.declared.key.Key.{Key}
use Rattle.ospf_types.specs.Lsa.{Body}
use Rattle.lsa_codec.specs.declared.checked.Checked.{Checked}
use Rattle.lsdb.specs.Databases.{Database}
use Rattle.ospf_types.specs.declared.config.Interface.{Interface}
use Rattle.ospf_types.specs.Inputs.{Inputs, Area, IsUp}
use Rattle.lsdb.specs.Contents.{IsDatabaseSound}
pub use Rattle.lsdb.specs.Contents.{body_at}
use Rattle.vertex_graph.specs.LinkEnd.{LinkEnd}
use Rattle.vertex_graph.specs.Up.{Up}
use Rattle.vertex_graph.specs.Ends.{AreEnds}
use Rattle.vertex_graph.specs.GraphLink.{GraphLink}
use Rattle.vertex_graph.specs.Graphs.{GraphValue, Handed, AreExact, handed_of}
use Rattle.spf.specs.TreeValues.{TreeValue, AreChanged, IsBounded, IsTreeOf, IsWorkDone, IsWorkForAll}
use Rattle.spf.specs.Touched.{Touched}

-- ---- LSAs

abbrev pub router_key : ℕ → Key
router_key router = record { kind = 1; id = router; router = router }

abbrev pub network_key : ℕ → ℕ → Key
network_key id router = record { kind = 2; id = id; router = router }

abbrev pub IsUsed : Database → Key → Type 0
IsUsed d key = IsSome (body_at d key)

-- the vertex that an LSA with the key stands for
abbrev pub vertex_of : Key → Option Vertex
vertex_of key = if key.kind == 1 then Some (Router key.router) else (if key.kind == 2 then Some (Network key.id) else None)

-- the vertices that LSAs under these keys stand for
abbrev pub AreVerticesOf : List Key → List Vertex → Type 0
AreVerticesOf keys vertices = (v : Vertex) → Contains vertices v ↔ ((k : Key) × Contains keys k × (vertex_of k ≡ Some v))

-- the vertex of the key is added, if it has one
abbrev pub AddsVertexOf : Key → List Vertex → List Vertex → Type 0
AddsVertexOf key old new = new ≡ old ++ option_to_list (vertex_of key)

-- from the one to the other no LSA is used otherwise, but for those under these keys
abbrev pub DifferAmong : Database → Database → List Key → Type 0
DifferAmong before after keys = (key : Key) → (Contains keys key → ⊥) → body_at after key ≡ body_at before key

-- ---- what represents a vertex

-- the usable network-LSAs, each by its Link State ID and its Advertising Router
abbrev pub AreNetworksOf : Database → List (ℕ × ℕ) → Type 0
AreNetworksOf d networks = (id router : ℕ) → Contains networks (id, router) ↔ IsUsed d (network_key id router)

-- the networks belong to a database that differs from this one at most in the LSAs under these keys
abbrev pub AreNetworksBut : Database → List Key → List (ℕ × ℕ) → Type 0
AreNetworksBut d keys networks = (before : Database) × AreNetworksOf before networks × DifferAmong before d keys

-- a key of a network-LSA is among the networks exactly if the LSA is usable
abbrev pub FollowsKey : Database → Key → List (ℕ × ℕ) → Type 0
FollowsKey d key networks = key.kind ≡ 2 → Contains networks (key.id, key.router) ↔ IsUsed d key

-- the networks other than that of the key are the same
abbrev pub KeepsOtherNetworks : Key → List (ℕ × ℕ) → List (ℕ × ℕ) → Type 0
KeepsOtherNetworks key old new =
    (id router : ℕ) → (((key.kind ≡ 2) × (key.id ≡ id) × (key.router ≡ router)) → ⊥) → Contains new (id, router) ↔ Contains old (id, router)

-- of those with the Link State ID this Advertising Router is the greatest
abbrev pub IsGreatestRouter : List (ℕ × ℕ) → ℕ → ℕ → Type 0
IsGreatestRouter networks id router = Contains networks (id, router) × ((other : ℕ) → Contains networks (id, other) → other ≤ router)

-- of a database's usable network-LSAs with the Link State ID this Advertising Router is the
-- greatest
abbrev pub IsGreatestOf : Database → ℕ → ℕ → Type 0
IsGreatestOf d id router = IsUsed d (network_key id router) × ((other : ℕ) → IsUsed d (network_key id other) → other ≤ router)

-- The body of the LSA that stands for the vertex, or `None` if the vertex is not there. For a
-- transit network it is that LSA's which has the greatest Advertising Router.
abbrev pub IsStanding : Database → Vertex → Option Body → Type 0
IsStanding d (Router router) body = body ≡ body_at d (router_key router)
IsStanding d (Network id) body =
    ((router : ℕ) × IsGreatestOf d id router × (body ≡ body_at d (network_key id router)))
    ⊎ (((router : ℕ) → IsUsed d (network_key id router) → ⊥) × (body ≡ None))

-- The key of the LSA that stands for the vertex, where one does.
abbrev pub IsStandingKey : Database → Vertex → Key → Type 0
IsStandingKey d (Router router) key = key ≡ router_key router
IsStandingKey d (Network id) key = (router : ℕ) × IsGreatestOf d id router × (key ≡ network_key id router)

-- each of these vertices with what represents it
abbrev pub AreStanding : Database → List Vertex → List Handed → Type 0
AreStanding d [] [] = Unit {0}
AreStanding d [] (h ∷ hs) = ⊥
AreStanding d (v ∷ vs) [] = ⊥
AreStanding d (v ∷ vs) (h ∷ hs) = (h.0 ≡ v) × IsStanding d v h.1 × AreStanding d vs hs

-- each of these vertices with the LSA that stands for it, or with none
abbrev pub StandFor : Database → List Vertex → List (Vertex × Option (Bor Checked)) → Type 0
StandFor d vertices lsas = AreStanding d vertices (handed_of lsas)

-- where the vertex leads by the body of its LSA
abbrev pub LeadsByBody : Vertex → Option Body → Option (List LinkEnd) → Type 0
LeadsByBody v (Some body) (Some ends) = AreEnds v body ends
LeadsByBody v (Some body) None = ⊥
LeadsByBody v None ends = ends ≡ None

-- ---- graph and tree

pub record AreaGraphValue : Type 0 where
  pub graph : GraphValue
  pub networks : List (ℕ × ℕ)

-- the graph belongs to the database
pub record IsGraphOf (d : Database) (v : AreaGraphValue) : Type 0 where
  pub networks : AreNetworksOf d v.networks
  pub leads : (w : Vertex) → (body : Option Body) × IsStanding d w body × LeadsByBody w body (get v.graph.ends w)

-- the graph belongs to a database that differs from this one at most in the LSAs under these keys
abbrev pub IsGraphBut : Database → List Key → AreaGraphValue → Type 0
IsGraphBut d keys v = (before : Database) × IsGraphOf before v × DifferAmong before d keys

pub record AreaTreeValue : Type 0 where
  pub area : AreaGraphValue
  pub tree : TreeValue
  pub spent : Bool

-- graph and tree belong to the database and to these interfaces, for this root
pub record IsAreaTree (root : ℕ) (d : Database) (ups : List Up) (v : AreaTreeValue) : Type 0 where
  pub graph : IsGraphOf d v.area
  pub root_is : v.area.graph.root ≡ root
  pub interfaces : v.area.graph.interfaces ≡ ups
  pub tree : IsTreeOf v.area.graph v.tree
  pub fresh : v.spent ≡ false

-- graph and tree belong to some database and interfaces, for some root
abbrev pub IsTreeOfSome : AreaTreeValue → Type 0
IsTreeOfSome v = (root : ℕ) × (d : Database) × (ups : List Up) × IsAreaTree root d ups v

-- graph and tree belong to the database, for some root and interfaces
abbrev pub IsTreeIn : Database → AreaTreeValue → Type 0
IsTreeIn d v = (root : ℕ) × (ups : List Up) × IsAreaTree root d ups v

-- graph and tree belong to a database that differs from this one at most in the LSAs under these
-- keys
abbrev pub IsTreeBut : Database → List Key → AreaTreeValue → Type 0
IsTreeBut d keys v = (root : ℕ) × (before : Database) × (ups : List Up) × IsAreaTree root before ups v × DifferAmong before d keys

-- graph and tree belong to this database now, for the root and the interfaces that they were for
abbrev pub FollowsLsas : Database → AreaTreeValue → AreaTreeValue → Type 0
FollowsLsas d old new = (root : ℕ) (before : Database) (ups : List Up) → IsAreaTree root before ups old → IsAreaTree root d ups new

-- graph and tree belong to these interfaces now, for the root and the database that they were for
abbrev pub FollowsInterfaces : List Up → AreaTreeValue → AreaTreeValue → Type 0
FollowsInterfaces now old new = (root : ℕ) (d : Database) (ups : List Up) → IsAreaTree root d ups old → IsAreaTree root d now new

-- the tree lists the vertices whose distance or next hops differ
abbrev pub NamesChanged : AreaTreeValue → AreaTreeValue → Type 0
NamesChanged old new = AreChanged old.tree new.tree new.tree.changed

-- the tree that was built belongs to the database and to these interfaces, for this root
abbrev pub IsBuiltFor : ℕ → Database → List Up → AreaTreeValue × Touched → Type 0
IsBuiltFor root d ups built = IsAreaTree root d ups built.0

-- the work of building is the work for the whole tree
abbrev pub IsBuiltByWork : AreaTreeValue × Touched → Type 0
IsBuiltByWork built = IsWorkForAll built.0.area.graph built.0.tree built.1.taken built.1.hop_sets

-- the work of a change from the one to the other
abbrev pub IsWorkBetween : AreaTreeValue → AreaTreeValue → Touched → Type 0
IsWorkBetween old new touched = IsWorkDone new.area.graph old.tree new.tree touched.taken touched.hop_sets

-- the work of a change is bounded by what differs
abbrev pub IsWorkBounded : AreaTreeValue → AreaTreeValue → ℕ → ℕ → Type 0
IsWorkBounded old new taken hop_sets = (gone come : List GraphLink) × AreExact old.area.graph new.area.graph gone come × IsBounded new.area.graph gone come old.tree taken hop_sets

-- what a change took from queues and wrote of next hops is bounded by what differs
abbrev pub HasBoundedWork : AreaTreeValue → AreaTreeValue → Touched → Type 0
HasBoundedWork old new touched = IsWorkBounded old new touched.taken touched.hop_sets

-- ---- an area of the definitions

-- the area has the LSAs of the database, and these are its interfaces that are up
pub record IsAreaOf (s : Inputs) (a : Area) (d : Database) (ups : List Up) : Type 0 where
  pub lsas : a.lsas ≡ values d
  pub sound : IsDatabaseSound d
  pub interfaces : (u : Up) → Contains ups u ↔ ((i : Interface) × IsUp s a u.id i × (i.address ≡ u.address))

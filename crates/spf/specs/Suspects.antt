-- Losing support: what is done with vertices that are suspected to have lost their distance.
use Rattle.std.specs.Prelude.{◌↔◌, ◌⊎◌, ℕ, ◌+◌, ◌≡◌, ◌≢◌, ◌≤◌, ◌++◌, ◌∷◌, Bool, List, [], Contains, IsTrue, Option, Some}
use Rattle.std.specs.FinMap.{get}
use Rattle.std.specs.List.{All}
use Rattle.ospf_types.specs.declared.entry.Vertex.{Vertex}
use Rattle.ospf_types.specs.declared.entry.Vertex.TheVariants.{Router}
use Rattle.ospf_types.specs.declared.label.Label.{Label}
use Rattle.vertex_graph.specs.GraphLink.{GraphLink}
use Rattle.vertex_graph.specs.Graphs.{GraphValue, LinksOf, HasRoot}
use Rattle.vertex_queue.specs.Maps.{DistanceMap}
use Rattle.vertex_queue.specs.VertexSet.{HasNoDoubles}
use Rattle.spf.specs.declared.lose_support.Search.{Search}
use Rattle.spf.specs.Changes.{Among}
use Rattle.spf.specs.Loops.{AreLosingSupport, IsLost}
use Rattle.spf.specs.Parts.{LinksBefore, HadRoot, IsStaleBy}
use Rattle.spf.specs.Repairs.{IsSupported}

-- the link's tail is reached and not lost, and over the link its head is no farther than the limit
abbrev pub Supports : (Vertex → Option ℕ) → List Vertex → ℕ → GraphLink → Type 0
Supports old lost limit l = (near : ℕ) × (old l.from ≡ Some near) × (Contains lost l.from → ⊥) × (near + l.cost ≤ limit)

-- no link supports its head within the limit
abbrev pub NoneSupports : DistanceMap → List Vertex → ℕ → List GraphLink → Type 0
NoneSupports distances lost limit links = All (λ l. Supports (get distances) lost limit l → ⊥) links

-- some link does
abbrev pub SomeSupports : DistanceMap → List Vertex → ℕ → List GraphLink → Type 0
SomeSupports distances lost limit links = (l : GraphLink) × Contains links l × Supports (get distances) lost limit l

-- the result is true exactly if a link of the graph supports the vertex within the limit
abbrev pub TellsSupport : GraphValue → DistanceMap → List Vertex → Vertex → ℕ → Bool → Type 0
TellsSupport g distances lost v limit supported = IsTrue supported ↔ IsSupported (LinksOf g) (get distances) lost v limit

-- the link is a least one into a vertex other than the root
abbrev pub WasLeast : ℕ → (Vertex → Option ℕ) → GraphLink → Type 0
WasLeast root old l = (l.to ≢ Router root) × (near : ℕ) × (old l.from ≡ Some near) × (old l.to ≡ Some (near + l.cost))

-- over the link, from a tail at this distance, a reached vertex other than the root is no farther
-- than it was
abbrev pub MaySupport : ℕ → (Vertex → Option ℕ) → ℕ → GraphLink → Type 0
MaySupport root old near l = (l.to ≢ Router root) × (far : ℕ) × (old l.to ≡ Some far) × (near + l.cost ≤ far)

-- the head of a link of the list that passes
abbrev pub IsHead : (GraphLink → Type 0) → List GraphLink → Vertex → Type 0
IsHead Passes links v = (l : GraphLink) × Contains links l × Passes l × (l.to ≡ v)

-- Each of the vertices becomes stale, and suspected unless it is lost. No other does.
pub record AreToldOf (Told : Vertex → Type 0) (lost stale wider suspects more : List Vertex) : Type 0 where
  pub widens : (v : Vertex) → Contains stale v → Contains wider v
  pub waits : (v : Vertex) → Contains suspects v → Contains more v
  pub told : (v : Vertex) → Told v → Contains wider v × (Contains lost v ⊎ Contains more v)
  pub stale_only : (v : Vertex) → Contains wider v → Contains stale v ⊎ Told v
  pub suspects_only : (v : Vertex) → Contains more v → Contains suspects v ⊎ Told v
  pub apart : HasNoDoubles suspects → HasNoDoubles more

-- each vertex of which this holds became stale in the search, and no other
abbrev pub AreToldIn : (Vertex → Type 0) → Search → Search → Type 0
AreToldIn Told old new = AreToldOf Told old.lost old.pending.stale new.pending.stale old.suspects new.suspects

-- the heads of the least links among these became stale
abbrev pub AreHeadsTold : ℕ → DistanceMap → List GraphLink → Search → Search → Type 0
AreHeadsTold root distances links old new = AreToldIn (IsHead (WasLeast root (get distances)) links) old new

-- the heads of these links that a vertex at the distance might have supported became stale
abbrev pub AreHeadsBeyondTold : ℕ → DistanceMap → ℕ → List GraphLink → Search → Search → Type 0
AreHeadsBeyondTold root distances near links old new = AreToldIn (IsHead (MaySupport root (get distances) near) links) old new

-- what is lost or suspected is stale
abbrev pub AreSuspectsWithin : List Vertex → List Vertex → List Vertex → Type 0
AreSuspectsWithin lost suspects stale = (v : Vertex) → Contains lost v ⊎ Contains suspects v → Contains stale v

-- a suspect that is lost already, or supported, changes nothing
pub record IsPassed (g : GraphValue) (old : Vertex → Option ℕ) (lost more suspects again stale wider : List Vertex) (v : Vertex) : Type 0 where
  pub lost_same : more ≡ lost
  pub suspects_same : again ≡ suspects
  pub stale_same : wider ≡ stale
  pub passed : Contains lost v ⊎ ((d : ℕ) → old v ≡ Some d → IsSupported (LinksOf g) old lost v d)

-- a suspect without support is lost, and the heads of its links become stale
pub record IsLostNow (g : GraphValue) (old : Vertex → Option ℕ) (lost more suspects again stale wider : List Vertex) (v : Vertex) : Type 0 where
  pub judged : IsLost (LinksOf g) g.root old lost more suspects again stale wider v
  pub why : (w : Vertex) → Contains wider w → Contains stale w ⊎ ((cost : ℕ) × (label : Label) × LinksOf g v w cost label)
  pub fresh : Contains lost v → ⊥
  pub end : more ≡ lost ++ v ∷ []
  pub within : AreSuspectsWithin more again wider
  pub apart : HasNoDoubles suspects → HasNoDoubles again

-- what comes of a suspect
abbrev pub IsSuspectJudged : GraphValue → (Vertex → Option ℕ) → List Vertex → List Vertex → List Vertex → List Vertex → List Vertex → List Vertex → Vertex → Type 0
IsSuspectJudged g old lost more suspects again stale wider v = IsPassed g old lost more suspects again stale wider v ⊎ IsLostNow g old lost more suspects again stale wider v

-- what the search finds of a suspect
abbrev pub IsSuspectJudgedIn : GraphValue → DistanceMap → Search → Search → Vertex → Type 0
IsSuspectJudgedIn g distances old new v =
    IsSuspectJudged g (get distances) old.lost new.lost old.suspects new.suspects old.pending.stale new.pending.stale v

-- while suspects are left
pub record AreSuspected (g : GraphValue) (gone come : List GraphLink) (old : Vertex → Option ℕ) (lost suspects stale : List Vertex) : Type 0 where
  pub losing_support : AreLosingSupport (LinksBefore g gone come) (LinksOf g) (Among gone) g.root (HadRoot g.root old) (HasRoot g) old lost suspects stale
  pub why : (v : Vertex) → Contains stale v → IsStaleBy g gone lost v
  pub within : AreSuspectsWithin lost suspects stale
  pub lost_apart : HasNoDoubles lost
  pub suspects_apart : HasNoDoubles suspects

-- A graph before or after a change: its rows, over them the ends that are staged, and the links
-- that follow.
use Rattle.std.specs.Prelude.{◌↔◌, ◌⊎◌, ℕ, ◌≡◌, ◌≢◌, List, [], map, Contains, Option, Some, None, option_map}
use Rattle.std.specs.FinMap.{find}
use Rattle.std.specs.Global.{Vec}
use Rattle.std.specs.List.{All, AllPairs}
use Rattle.std.specs.List.Sorted.{IsStrictlySortedBy}
use Rattle.ospf_types.specs.declared.entry.Vertex.{Vertex}
use Rattle.ospf_types.specs.Distances.{Links}
use Rattle.ospf_types.specs.Vertices.{vertex_cmp}
use Rattle.graph_links.specs.declared.link_end.LinkEnd.{LinkEnd}
use Rattle.graph_links.specs.declared.row_update.RowUpdate.{RowUpdate}
use Rattle.graph_links.specs.declared.link.GraphLink.{GraphLink}
use Rattle.graph_links.specs.declared.link.Up.{Up}
use Rattle.graph_links.specs.declared.row.Row.{Row}
use Rattle.graph_links.specs.declared.graph_view.GraphView.{GraphView}
use Rattle.graph_links.specs.EndOrder.{end_cmp}
use Rattle.graph_links.specs.Differing.{IsOnlyIn}
use Rattle.graph_links.specs.Pairs.{AddsToList, AreApart, AreCheap, IsPairLink}

-- where each vertex leads, if it is there
abbrev pub Leading : Type 0
Leading = Vertex → Option (List LinkEnd)

abbrev pub RowList : Type 0
RowList = List (Vertex × Row)

abbrev pub StagedList : Type 0
StagedList = List (Vertex × Option (Vec LinkEnd))

-- where the vertex of a row leads, or `None` if there is no row
abbrev pub ends_of_row : Option Row → Option (List LinkEnd)
ends_of_row row = option_map (λ (r : Row). r.ends.items) row

abbrev pub row_ends : RowList → Leading
row_ends rows v = ends_of_row (find vertex_cmp v rows)

-- the staged ends of a vertex, or its ends before if nothing is staged
abbrev pub staged_or : Option (Option (Vec LinkEnd)) → Option (List LinkEnd) → Option (List LinkEnd)
staged_or None before = before
staged_or (Some given) before = option_map (λ (ends : Vec LinkEnd). ends.items) given

abbrev pub ends_after : RowList → StagedList → Leading
ends_after rows staged v = staged_or (find vertex_cmp v staged) (row_ends rows v)

-- no ends if the vertex is not there
abbrev pub ends_or : Option (List LinkEnd) → List LinkEnd
ends_or None = []
ends_or (Some ends) = ends

-- the links by where each vertex leads
abbrev pub LinksBy : ℕ → List Up → Leading → Links
LinksBy root ups leading v w cost label = IsPairLink root ups v (ends_or (leading v)) w (ends_or (leading w)) cost label

abbrev pub ends_in : GraphView → Leading
ends_in side = ends_after side.rows.now.entries side.staged.now.entries

-- all that the vertex leads to, nothing if it is not there
abbrev pub all_ends : GraphView → Vertex → List LinkEnd
all_ends side v = ends_or (ends_in side v)

abbrev pub LinksIn : GraphView → Links
LinksIn side = LinksBy side.local.root side.local.interfaces.now (ends_in side)

abbrev pub IsInOrder : Leading → Type 0
IsInOrder leading = (v : Vertex) → IsStrictlySortedBy end_cmp (ends_or (leading v))

-- both sides have the same rows, and differ in what is staged
abbrev pub HasSameRows : GraphView → GraphView → Type 0
HasSameRows here there = here.rows.now.entries ≡ there.rows.now.entries

-- ---- rows

-- a link from one vertex to another
abbrev pub IsOutTo : Links → Vertex → GraphLink → Vertex → Type 0
IsOutTo Link_of v l w = (l.from ≡ v) × (l.to ≡ w) × Link_of l.from l.to l.cost l.label

-- a link to one vertex from another
abbrev pub IsIntoFrom : Links → Vertex → GraphLink → Vertex → Type 0
IsIntoFrom Link_of v l w = (l.from ≡ w) × (l.to ≡ v) × Link_of l.from l.to l.cost l.label

-- the links out of one vertex to another are added
abbrev pub AddsOut : GraphView → Vertex → Vertex → List GraphLink → List GraphLink → Type 0
AddsOut side v w old new = AddsToList old new (λ (l : GraphLink). IsOutTo (LinksIn side) v l w)

-- the links into one vertex from another are added
abbrev pub AddsInto : GraphView → Vertex → Vertex → List GraphLink → List GraphLink → Type 0
AddsInto side v w old new = AddsToList old new (λ (l : GraphLink). IsIntoFrom (LinksIn side) v l w)

-- no link of the row costs more than 16 bits hold, if none did before
abbrev pub StaysCheap : Row → Row → Type 0
StaysCheap old new = (AreCheap old.out.items → AreCheap new.out.items) × (AreCheap old.into.items → AreCheap new.into.items)

abbrev pub AreOut : Links → Vertex → List GraphLink → Type 0
AreOut Link_of v links = (l : GraphLink) → Contains links l ↔ ((l.from ≡ v) × Link_of l.from l.to l.cost l.label)

abbrev pub AreInto : Links → Vertex → List GraphLink → Type 0
AreInto Link_of v links = (l : GraphLink) → Contains links l ↔ ((l.to ≡ v) × Link_of l.from l.to l.cost l.label)

-- the row has the links of its vertex, without duplicates
pub record IsRow (Link_of : Links) (v : Vertex) (row : Row) : Type 0 where
  pub out : AreOut Link_of v row.out.items
  pub into : AreInto Link_of v row.into.items
  pub out_cheap : AreCheap row.out.items
  pub into_cheap : AreCheap row.into.items
  pub out_once : AreApart row.out.items
  pub into_once : AreApart row.into.items

-- what a vertex has after a change: a row, if it is there
abbrev pub IsFreshRow : Leading → Links → Vertex → Option Row → Type 0
IsFreshRow leading Link_of v None = leading v ≡ None
IsFreshRow leading Link_of v (Some row) = (leading v ≡ Some row.ends.items) × IsRow Link_of v row

-- what a vertex has on that side of a change: a row, if it is there
abbrev pub IsFreshRowIn : GraphView → Vertex → Option Row → Type 0
IsFreshRowIn side v row = IsFreshRow (ends_in side) (LinksIn side) v row

-- a row for each of the vertices
pub record AreFresh (leading : Leading) (Link_of : Links) (vertices : List Vertex) (fresh : List RowUpdate) : Type 0 where
  pub each : map (λ (f : RowUpdate). f.vertex) fresh ≡ vertices
  pub rows : All (λ (f : RowUpdate). IsFreshRow leading Link_of f.vertex f.row) fresh

-- a row for each of the vertices, by that side of a change
abbrev pub AreFreshIn : GraphView → List Vertex → List RowUpdate → Type 0
AreFreshIn side vertices fresh = AreFresh (ends_in side) (LinksIn side) vertices fresh

-- no two of the fresh rows are for one vertex
abbrev pub HaveDifferentVertices : List RowUpdate → Type 0
HaveDifferentVertices fresh = AllPairs (λ v w. v ≢ w) (map (λ (f : RowUpdate). f.vertex) fresh)

-- each vertex has its fresh row, if there is one, and otherwise what it had
abbrev pub AreRowsPlaced : List RowUpdate → RowList → RowList → Type 0
AreRowsPlaced fresh old new = (v : Vertex) →
    ((f : RowUpdate) × Contains fresh f × (f.vertex ≡ v) × (find vertex_cmp v new ≡ f.row))
    ⊎ (((f : RowUpdate) → Contains fresh f → f.vertex ≢ v) × (find vertex_cmp v new ≡ find vertex_cmp v old))

-- ---- a change

-- a vertex that is touched has its row after the change, and any other what it had
abbrev pub AreRowsChanged : Leading → Links → List Vertex → RowList → RowList → Type 0
AreRowsChanged leading Link_of touched old new = (v : Vertex) →
    (Contains touched v × IsFreshRow leading Link_of v (find vertex_cmp v new))
    ⊎ ((Contains touched v → ⊥) × (find vertex_cmp v new ≡ find vertex_cmp v old))

-- the links out of a vertex by its row, empty if it has no row
abbrev pub out_of : Option Row → List GraphLink
out_of None = []
out_of (Some row) = row.out.items

-- each row has the links of its vertex, by where the rows' vertices lead
abbrev pub AreRowsBy : ℕ → List Up → RowList → Type 0
AreRowsBy root ups rows = (v : Vertex) (row : Row) → find vertex_cmp v rows ≡ Some row → IsRow (LinksBy root ups (row_ends rows)) v row

-- links out of the vertex, without duplicates
abbrev pub AreLinksOut : Vertex → List GraphLink → Type 0
AreLinksOut v links = AreApart links × ((l : GraphLink) → Contains links l → l.from ≡ v)

-- what a row has before and after are links out of its vertex
abbrev pub AreOwn : RowList → List RowUpdate → Type 0
AreOwn rows fresh = (f : RowUpdate) → Contains fresh f → AreLinksOut f.vertex (out_of (find vertex_cmp f.vertex rows)) × AreLinksOut f.vertex (out_of f.row)

-- the vertex of the fresh row had the link, and has it no longer
abbrev pub IsLinkRemoved : RowList → GraphLink → RowUpdate → Type 0
IsLinkRemoved rows l f = IsOnlyIn (out_of (find vertex_cmp f.vertex rows)) (out_of f.row) l

-- it has the link, and had it not
abbrev pub IsBrought : RowList → GraphLink → RowUpdate → Type 0
IsBrought rows l f = IsOnlyIn (out_of f.row) (out_of (find vertex_cmp f.vertex rows)) l

-- just the links that are so for one of the fresh rows
abbrev pub AreOfFresh : (GraphLink → RowUpdate → Type 0) → List RowUpdate → List GraphLink → Type 0
AreOfFresh P fresh links = (l : GraphLink) → Contains links l ↔ ((f : RowUpdate) × Contains fresh f × P l f)

-- just the links that the vertices of the fresh rows had, and have no longer
abbrev pub HaveGone : RowList → List RowUpdate → List GraphLink → Type 0
HaveGone rows fresh links = AreOfFresh (IsLinkRemoved rows) fresh links

-- just the links that the vertices of the fresh rows have, and had not
abbrev pub HaveCome : RowList → List RowUpdate → List GraphLink → Type 0
HaveCome rows fresh links = AreOfFresh (IsBrought rows) fresh links

-- of the links out of these vertices, just those that are only in the first graph
abbrev pub AreMissing : List Vertex → Links → Links → List GraphLink → Type 0
AreMissing touched Here There links = (l : GraphLink) → Contains links l ↔ (Contains touched l.from × Here l.from l.to l.cost l.label × (There l.from l.to l.cost l.label → ⊥))

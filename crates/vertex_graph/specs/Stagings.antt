-- The LSAs that are given, and the vertices that they touch.
use Rattle.std.specs.Prelude.{◌↔◌, ◌⊎◌, ℕ, ◌≡◌, ◌≢◌, List, Contains, Option, Some, None, option_copied, option_map}
use Rattle.std.specs.FinMap.{find}
use Rattle.std.specs.Global.{Vec}
use Rattle.std.proofs.Common.{Bor}
use Rattle.lsa_codec.specs.declared.checked.Checked.{Checked}
use Rattle.ospf_types.specs.declared.entry.Vertex.{Vertex}
use Rattle.ospf_types.specs.declared.entry.Vertex.TheVariants.{Router}
use Rattle.ospf_types.specs.Lsa.{Body}
use Rattle.ospf_types.specs.Vertices.{vertex_cmp}
use Rattle.graph_links.specs.declared.link_end.LinkEnd.{LinkEnd}
use Rattle.vertex_graph.specs.Ends.{AreEnds}
use Rattle.vertex_graph.specs.Graphs.{Handed}
use Rattle.vertex_graph.specs.declared.staging.Staging.{Staging}
use Rattle.graph_links.specs.declared.row.Row.{Row}
use Rattle.graph_links.specs.Pairs.{Names}
use Rattle.graph_links.specs.Sides.{Leading, RowList, StagedList, ends_after, ends_of_row, ends_or, row_ends}

-- where vertices lead once these were given
pub record IsHandedIn (before after : Leading) (handed : List Handed) : Type 0 where
  pub there : (v : Vertex) (body : Body) → Contains handed (v, Some body) → (ends : List LinkEnd) × (after v ≡ Some ends) × AreEnds v body ends
  pub away : (v : Vertex) → Contains handed (v, None) → after v ≡ None
  pub others : (v : Vertex) → ((given : Option Body) → Contains handed (v, given) → ⊥) → after v ≡ before v

-- what is staged is where vertices lead once these were given
abbrev pub StagesAll : RowList → List Handed → Staging → Type 0
StagesAll rows handed staging = IsHandedIn (row_ends rows) (ends_after rows staging.ends.entries) handed

-- where the vertex leads by what is given
abbrev pub IsGivenEnds : Vertex → Option Body → Option (List LinkEnd) → Type 0
IsGivenEnds v (Some body) (Some ends) = AreEnds v body ends
IsGivenEnds v (Some body) None = ⊥
IsGivenEnds v None ends = ends ≡ None

-- where the vertex leads by the LSA that is given, or by none
abbrev pub IsGivenBy : Vertex → Option (Bor Checked) → Option (Vec LinkEnd) → Type 0
IsGivenBy v lsa ends = IsGivenEnds v (option_map (λ (l : Bor Checked). l.now.body) lsa) (option_map (λ (es : Vec LinkEnd). es.items) ends)

-- now the vertex leads there, and what is staged of others is what was
pub record IsStaged (rows : RowList) (v : Vertex) (ends : Option (List LinkEnd)) (old new : StagedList) : Type 0 where
  pub own : ends_after rows new v ≡ ends
  pub others : (w : Vertex) → w ≢ v → find vertex_cmp w new ≡ find vertex_cmp w old

-- the vertex is staged to lead there, and what is staged of others is what was
abbrev pub StagesOne : RowList → Vertex → Option (Vec LinkEnd) → Staging → Staging → Type 0
StagesOne rows v ends old new = IsStaged rows v (option_map (λ (es : Vec LinkEnd). es.items) ends) old.ends.entries new.ends.entries

-- a vertex leads to the same ends before and after
abbrev pub LeadsAlike : Option (Bor (List LinkEnd)) → Option (Bor (List LinkEnd)) → Type 0
LeadsAlike before after = option_map (λ (ends : Bor (List LinkEnd)). ends.now) before ≡ option_map (λ (ends : Bor (List LinkEnd)). ends.now) after

-- A vertex that leads elsewhere is among these, and so is one that another leads to otherwise.
pub record AreTouched (before after : Leading) (touched : List Vertex) : Type 0 where
  pub own : (v : Vertex) → (Contains touched v → ⊥) → after v ≡ before v
  pub named : (v w : Vertex) → (Contains touched v → ⊥) → (e : LinkEnd) → e.to ≡ v → Contains (ends_or (before w)) e ↔ Contains (ends_or (after w)) e

-- each vertex is touched whose row may change by what is staged
abbrev pub HasTouched : RowList → Staging → Type 0
HasTouched rows staging = AreTouched (row_ends rows) (ends_after rows staging.ends.entries) staging.touched.items

abbrev pub AreVerticesWithin : List Vertex → List Vertex → Type 0
AreVerticesWithin some all = (v : Vertex) → Contains some v → Contains all v

-- the vertex at the end is touched, unless the end is among the others
abbrev pub TouchesUnless : LinkEnd → List LinkEnd → List Vertex → Type 0
TouchesUnless e others touched = Contains others e ⊎ Contains touched e.to

-- the vertex at each end that is not among the others is touched
abbrev pub TouchesOthers : List LinkEnd → List LinkEnd → List Vertex → Type 0
TouchesOthers ends others touched = (e : LinkEnd) → Contains ends e → TouchesUnless e others touched

-- where the vertex of a row leads, nowhere if there is no row
abbrev pub ends_before : Option (Bor Row) → List LinkEnd
ends_before row = ends_or (ends_of_row (option_copied row))

-- each vertex is touched that was led to by the row, and is not by these ends
abbrev pub TouchesGone : Option (Bor Row) → List LinkEnd → List Vertex → Type 0
TouchesGone before after touched = TouchesOthers (ends_before before) after touched

-- each vertex is touched that is led to by these ends, and was not by the row
abbrev pub TouchesCome : Option (Bor Row) → List LinkEnd → List Vertex → Type 0
TouchesCome before after touched = TouchesOthers after (ends_before before) touched

-- each vertex that the root leads to is touched
abbrev pub TouchesNeighbours : RowList → ℕ → Staging → Type 0
TouchesNeighbours rows root staging = (v : Vertex) → Names (ends_or (row_ends rows (Router root))) v → Contains staging.touched.items v

-- The rows that a change makes of what is staged, and the links that it lists as removed and added.
use Rattle.std.specs.Prelude.{ℕ, List}
use Rattle.ospf_types.specs.Distances.{Links}
use Rattle.graph_links.specs.declared.link.LinkChanges.{LinkChanges}
use Rattle.graph_links.specs.declared.link.Up.{Up}
use Rattle.graph_links.specs.Sides.{AreMissing, AreRowsBy, AreRowsChanged, Leading, LinksBy, RowList, ends_after, row_ends}
use Rattle.vertex_graph.specs.declared.change.GraphChange.{GraphChange}

-- where each vertex leads once what is staged holds
abbrev pub leading_after : GraphChange → RowList → Leading
leading_after change rows = ends_after rows change.staging.now.ends.entries

-- and the links then
abbrev pub links_after : GraphChange → RowList → Links
links_after change rows = LinksBy change.local.root change.local.interfaces.now (leading_after change rows)

-- each vertex that is touched has its row by what is staged, and any other what it had
abbrev pub ChangesRows : GraphChange → RowList → RowList → Type 0
ChangesRows change old new = AreRowsChanged (leading_after change old) (links_after change old) change.staging.now.touched.items old new

-- the removed links: links of the rows out of touched vertices that are not there after
abbrev pub NamesGone : GraphChange → RowList → LinkChanges → Type 0
NamesGone change rows changes =
    (root : ℕ) (ups : List Up) → AreRowsBy root ups rows
    → AreMissing change.staging.now.touched.items (LinksBy root ups (row_ends rows)) (links_after change rows) changes.gone.items

-- the added links: links after, out of touched vertices, that the rows do not have
abbrev pub NamesCome : GraphChange → RowList → LinkChanges → Type 0
NamesCome change rows changes =
    (root : ℕ) (ups : List Up) → AreRowsBy root ups rows
    → AreMissing change.staging.now.touched.items (links_after change rows) (LinksBy root ups (row_ends rows)) changes.came.items

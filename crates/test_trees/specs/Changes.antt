-- The conditions of a tree on the changes that lead to a graph.
use Rattle.std.specs.Prelude.{◌≡◌, false, List}
use Rattle.vertex_graph.specs.GraphLink.{GraphLink}
use Rattle.vertex_graph.specs.Graphs.{GraphValue, HasEnds, AreExact}
use Rattle.spf.specs.TreeValues.{TreeValue, IsTreeOf}

-- The tree is the tree of the graph, unless it is spent.
abbrev pub AreTogether : GraphValue → TreeValue → Type 0
AreTogether g t = t.spent ≡ false → IsTreeOf g t

-- These are all the links that were removed and added between two graphs with the same root.
pub record AreChangesOf (before after : GraphValue) (gone come : List GraphLink) : Type 0 where
  pub ends : HasEnds before
  pub root : before.root ≡ after.root
  pub exact : AreExact before after gone come

-- The tree is the tree of a graph from which these changes lead to the one after.
pub record AreChangesTo (after : GraphValue) (gone come : List GraphLink) (t : TreeValue) : Type 0 where
  pub before : GraphValue
  pub changes : AreChangesOf before after gone come
  pub tree : AreTogether before t

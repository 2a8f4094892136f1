-- The changes of links as lists: the removed links and the added links.
use Rattle.std.specs.Prelude.{◌↔◌, ℕ, ◌⊎◌, List, Contains}
use Rattle.ospf_types.specs.declared.entry.Vertex.{Vertex}
use Rattle.ospf_types.specs.declared.label.Label.{Label}
use Rattle.ospf_types.specs.Distances.{Links}
use Rattle.vertex_graph.specs.GraphLink.{GraphLink}

-- the value of a link
abbrev pub link_value : Vertex → Vertex → ℕ → Label → GraphLink
link_value v w c l = record { from = v; to = w; cost = c; label = l }

-- the links of a list
abbrev pub Among : List GraphLink → Links
Among links from to cost label = Contains links (link_value from to cost label)

-- the links before: the links after that were not added, and the removed links
abbrev pub Earlier : Links → List GraphLink → List GraphLink → Links
Earlier after gone come from to cost label = (after from to cost label × (Among come from to cost label → ⊥)) ⊎ Among gone from to cost label

-- both relations have the same links
abbrev pub SameLinks : Links → Links → Type 0
SameLinks A B = (from to : Vertex) (cost : ℕ) (label : Label) → A from to cost label ↔ B from to cost label

-- each link is there or not
abbrev pub AreDecided : Links → Type 0
AreDecided link = (from to : Vertex) (cost : ℕ) (label : Label) → link from to cost label ⊎ (link from to cost label → ⊥)

-- The lists have just the removed links and the added links.
pub record AreExactChanges (before after : Links) (gone come : List GraphLink) : Type 0 where
  pub went : SameLinks (Among gone) (λ from to cost label. before from to cost label × (after from to cost label → ⊥))
  pub came : SameLinks (Among come) (λ from to cost label. after from to cost label × (before from to cost label → ⊥))

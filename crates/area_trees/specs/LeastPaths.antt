-- Paths of least cost by which a vertex has a next hop (RFC 2328, 16.1 and 16.1.1), as the links
-- that they take.
use Rattle.std.specs.Prelude.{◌⊎◌, ℕ, suc, ◌≡◌, ◌≢◌, List, [], ◌∷◌, ◌++◌, map, reverse, Option, Some, None}
use Rattle.std.specs.FinMap.{get}
use Rattle.std.proofs.Common.{Bor}
use Rattle.ospf_types.specs.declared.entry.Vertex.{Vertex}
use Rattle.ospf_types.specs.declared.entry.Vertex.TheVariants.{Router}
use Rattle.ospf_types.specs.declared.hop.NextHop.{NextHop}
use Rattle.ospf_types.specs.Distances.{TakenLink, IsPath, cost_of, IsDistance, FirstOnly, IsFirst, IsHop}
use Rattle.vertex_graph.specs.Graphs.{GraphValue, LinksOf, HasRoot}
use Rattle.vertex_graph.specs.GraphLink.{GraphLink}
use Rattle.spf.specs.HandedOn.{IsLeastLink, IsGivenOver}
use Rattle.spf.specs.Parts.{hops_of}
use Rattle.spf.specs.Trees.{step_to, HandsOn, rank}
use Rattle.spf.specs.TreeValues.{TreeValue}
use Rattle.area_trees.specs.declared.last_link.Before.{Before}
use Rattle.area_trees.specs.declared.last_link.Before.TheVariants as comes
use Rattle.area_trees.specs.declared.last_link.LastLink.{LastLink}

-- the links that references lead to
abbrev pub links_at : List (Bor GraphLink) → List GraphLink
links_at links = map (λ l. l.now) links

-- the link as it is taken
abbrev pub step_over : GraphLink → TakenLink
step_over l = step_to l.to l.cost l.label

abbrev pub way_over : List GraphLink → List TakenLink
way_over links = map step_over links

-- each link begins where the one before it ends, the first at the vertex
abbrev pub AreEndToEnd : Vertex → List GraphLink → Type 0
AreEndToEnd from [] = Unit {0}
AreEndToEnd from (l ∷ links) = (l.from ≡ from) × AreEndToEnd l.to links

-- the next hop is one of the vertex
abbrev pub HasHop : GraphValue → Vertex → NextHop → Type 0
HasHop g to h = IsHop (LinksOf g) g.root (HasRoot g) to h

-- The links lead from the root to the vertex, end to end, at the least cost of any path, and h is a
-- next hop of theirs.
pub record IsLeastPath (g : GraphValue) (to : Vertex) (h : NextHop) (links : List GraphLink) : Type 0 where
  pub path : IsPath (LinksOf g) g.root (HasRoot g) (way_over links) to
  pub least : IsDistance (LinksOf g) g.root (HasRoot g) to (cost_of (way_over links))
  pub first : IsFirst (way_over links) h
  pub joined : AreEndToEnd (Router g.root) links

-- a path by which the vertex has the next hop; it is empty just where the vertex has it not
abbrev pub IsPathOver : GraphValue → Vertex → NextHop → List GraphLink → Type 0
IsPathOver g to h [] = HasHop g to h → ⊥
IsPathOver g to h (l ∷ links) = IsLeastPath g to h (l ∷ links)

-- The links found from its end on end a path: each path to where they begin, by the next hop that
-- is left, goes on over them.
pub record ExtendsPath (g : GraphValue) (to : Vertex) (hop : NextHop) (at : Vertex) (left : NextHop) (links : List GraphLink) : Type 0 where
  pub has : HasHop g at left
  pub whole : (before : List GraphLink) → IsLeastPath g at left before → IsLeastPath g to hop (before ++ links)

-- The links found, the last one first. Where no next hop is left, they are the whole path, or there
-- is none.
abbrev pub IsPathFound : GraphValue → Vertex → NextHop → Vertex → Option NextHop → List (Bor GraphLink) → Type 0
IsPathFound g to hop at (Some left) links = ExtendsPath g to hop at left (reverse (links_at links))
IsPathFound g to hop at None links = IsLeastPath g to hop (reverse (links_at links)) ⊎ ((links ≡ []) × (HasHop g to hop → ⊥))

-- the next hop that is left
abbrev pub left_of : Before → Option NextHop
left_of comes.Root = None
left_of (comes.Path tail) = Some tail

-- how far it is to the root, where a next hop is left; of what is equally near the networks are
-- nearer
abbrev pub rank_at : Vertex → Option ℕ → ℕ
rank_at v None = 0
rank_at v (Some d) = suc (rank v d)

abbrev pub far_left : TreeValue → Vertex → Option NextHop → ℕ
far_left t at None = 0
far_left t at (Some left) = rank_at at (get t.distances at)

-- the next hop, just where the tree has it for the vertex
abbrev pub IsHopIfSome : TreeValue → Vertex → NextHop → Option NextHop → Type 0
IsHopIfSome t v h (Some found) = (found ≡ h) × hops_of t.hops v h
IsHopIfSome t v h None = hops_of t.hops v h → ⊥

-- the next hop of the link's tail becomes that of its head
abbrev pub IsHandedBy : TreeValue → GraphLink → NextHop → NextHop → Type 0
IsHandedBy t l h tail = hops_of t.hops l.from tail × HandsOn tail l.label h

-- what comes before a link by which its head has the next hop
abbrev pub ComesBefore : GraphValue → TreeValue → GraphLink → NextHop → Before → Type 0
ComesBefore g t l h comes.Root = (l.from ≡ Router g.root) × FirstOnly l.to l.label h
ComesBefore g t l h (comes.Path tail) = (l.from ≢ Router g.root) × IsHandedBy t l h tail

-- and the link is a least one
abbrev pub IsLeastLinkFrom : GraphValue → TreeValue → GraphLink → NextHop → Before → Type 0
IsLeastLinkFrom g t l h b = IsLeastLink (get t.distances) l × ComesBefore g t l h b

-- the head has not the next hop by the link
abbrev pub IsNotBefore : GraphValue → TreeValue → GraphLink → NextHop → Type 0
IsNotBefore g t l h = IsGivenOver g.root (get t.distances) (hops_of t.hops) l h → ⊥

-- the last link of a path of least cost to the vertex, with what comes before it
pub record IsLast (g : GraphValue) (t : TreeValue) (to : Vertex) (h : NextHop) (last : LastLink) : Type 0 where
  pub ends : last.link.now.to ≡ to
  pub taken : LinksOf g last.link.now.from last.link.now.to last.link.now.cost last.link.now.label
  pub before : IsLeastLinkFrom g t last.link.now h last.before

-- An LSA describes the tail of each link of a graph.
use Rattle.std.proofs.Common.{◌≡◌, subst, Some, None, Option, ℕ, List}
use Rattle.std.specs.FinMap.{get}
use Rattle.ospf_types.specs.declared.entry.Vertex.{Vertex}
use Rattle.ospf_types.specs.declared.entry.Vertex.TheVariants.{Router, Network}
use Rattle.ospf_types.specs.declared.label.Label.{Label}
use Rattle.ospf_types.specs.Lsa.{Body}
use Rattle.vertex_graph.specs.LinkEnd.{LinkEnd}
use Rattle.vertex_graph.specs.Graphs.{GraphValue, LinksOf}
use Rattle.area_trees.specs.Areas.{IsStanding, LeadsByBody}
use Rattle.area_trees.proofs.Standing.{one_standing}
use Rattle.intra.specs.Inputs.{AreaValue, HasTree}

-- the tail of a link leads somewhere
tail_leads : (g : GraphValue) (from to : Vertex) (cost : ℕ) (label : Label) → LinksOf g from to cost label → (ends : List LinkEnd) × (get g.ends from ≡ Some ends)
tail_leads g (Router r) (Router q) cost label link = (link.3.0, link.3.1)
tail_leads g (Router r) (Network q) cost label link = (link.3.0, link.3.1)
tail_leads g (Network n) (Router q) cost label link = (link.3.2.0, link.3.2.1)
tail_leads g (Network n) (Network q) cost label link = absurd link

leads_by_some : (v : Vertex) (body : Option Body) (ends : List LinkEnd) → LeadsByBody v body (Some ends) → body ≡ None → ⊥
leads_by_some v None ends leads e = absurd cc
leads_by_some v (Some body) ends leads e = absurd cc

pub tail_stands : (a : AreaValue) → HasTree a → (from to : Vertex) (cost : ℕ) (label : Label) → LinksOf a.tree.area.graph from to cost label → IsStanding a.lsas from None → ⊥
tail_stands a tree from to cost label link none =
    let leads = tree.2.graph.leads from in
    let ends = tail_leads a.tree.area.graph from to cost label link in
    let by = subst (LeadsByBody from leads.0) ends.1 leads.2 in
    leads_by_some from leads.0 ends.0 by (one_standing a.lsas from leads.0 None leads.1 none)

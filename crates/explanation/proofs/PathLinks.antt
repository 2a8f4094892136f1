-- The links of a path are links of the graph, and each becomes a step.
use Rattle.std.proofs.Common.{◌≡◌, ◌<◌, ◌≤◌, ◌+◌, ℕ, List, [], ◌∷◌, ◌++◌, Bor, take, length, get_or, sym, ap, subst, ◌∙◌, inl, inr}
use Rattle.std.specs.Prelude.{Contains}
use Rattle.std.proofs.lemmas.List.{map-append, take_all, take_more}
use Rattle.ospf_types.proofs.Elements.{no_element, first_or_later}
use Rattle.ospf_types.specs.declared.entry.Vertex.{Vertex}
use Rattle.ospf_types.specs.declared.hop.NextHop.{NextHop}
use Rattle.ospf_types.specs.declared.entry.Vertex.TheVariants.{Router}
use Rattle.ospf_types.specs.Distances.{Leads}
use Rattle.vertex_graph.specs.Graphs.{GraphValue, LinksOf}
use Rattle.vertex_graph.specs.GraphLink.{GraphLink}
use Rattle.area_trees.specs.LeastPaths.{AreEndToEnd, IsPathOver, links_at, way_over}
use Rattle.intra.specs.Inputs.{AreaValue}
use Rattle.explanation.specs.declared.trace.Step.{Step}
use Rattle.explanation.specs.Traces.{AreLinksIn, AreLinkSteps, IsLinkStep, IsStepAdded}

-- along a trace from a vertex
along : (g : GraphValue) (root : ℕ) (from to : Vertex) (links : List (Bor GraphLink)) → Leads (LinksOf g) root from (way_over (links_at links)) to → AreEndToEnd from (links_at links)
    → (l : Bor GraphLink) → Contains links l → LinksOf g l.now.from l.now.to l.now.cost l.now.label
along g root from to [] leads joined l among = absurd (no_element l among)
along g root from to (k ∷ links) leads joined l among = elim (first_or_later k l links among) [
  | inl first ↦ subst (λ (m : Bor GraphLink). LinksOf g m.now.from m.now.to m.now.cost m.now.label) (sym first) (subst (λ (v : Vertex). LinksOf g v k.now.to k.now.cost k.now.label) (sym joined.0) leads.0)
  | inr later ↦ along g root k.now.to to links leads.2 joined.1 l later
]

pub links_in : (a : AreaValue) (to : Vertex) (h : NextHop) (links : List (Bor GraphLink)) → IsPathOver a.tree.area.graph to h (links_at links) → AreLinksIn a links
links_in a to h [] path l among = absurd (no_element l among)
links_in a to h (k ∷ links) path l among = along a.tree.area.graph a.tree.area.graph.root (Router a.tree.area.graph.root) to (k ∷ links) path.path.1 path.joined l among

-- one more link and its step
more_steps : (a : AreaValue) (ls : List GraphLink) (l : GraphLink) (steps : List Step) (step : Step) → AreLinkSteps a ls steps → IsLinkStep a l step → AreLinkSteps a (ls ++ l ∷ []) (steps ++ step ∷ [])
more_steps a [] l [] step are is = (is, tt)
more_steps a [] l (s ∷ steps) step are is = absurd are
more_steps a (k ∷ ls) l [] step are is = absurd are
more_steps a (k ∷ ls) l (s ∷ steps) step are is = (are.0, more_steps a ls l steps step are.1 is)

pub one_more : (a : AreaValue) (links : List (Bor GraphLink)) (i : ℕ) (l : Bor GraphLink) (before after : List Step) → i < length links → l ≡ get_or links i l
    → AreLinkSteps a (links_at (take i links)) before → IsStepAdded a l.now before after → AreLinkSteps a (links_at (take (i + 1) links)) after
one_more a links i l before after lt here are more =
    let cut : take (i + 1) links ≡ take i links ++ l ∷ [] = take_more links i l lt ∙ ap (λ (k : Bor GraphLink). take i links ++ k ∷ []) (sym here) in
    let mapped = ap links_at cut ∙ map-append (λ (k : Bor GraphLink). k.now) (take i links) (l ∷ []) in
    subst (AreLinkSteps a (links_at (take (i + 1) links))) (sym more.2)
    (subst (λ (ls : List GraphLink). AreLinkSteps a ls (before ++ more.0 ∷ [])) (sym mapped) (more_steps a (links_at (take i links)) l.now before more.0 are more.1))

pub all_steps : (a : AreaValue) (links : List (Bor GraphLink)) (i : ℕ) (steps : List Step) → length links ≤ i → AreLinkSteps a (links_at (take i links)) steps → AreLinkSteps a (links_at links) steps
all_steps a links i steps past are = subst (λ (ls : List (Bor GraphLink)). AreLinkSteps a (links_at ls) steps) (take_all i links past) are

use Rattle.std.proofs.Common.{List, Bor, sym, subst, inl}
use Rattle.std.specs.Prelude.{Contains}
use Rattle.vertex_graph.specs.GraphLink.{GraphLink}
use Rattle.area_trees.specs.LeastPaths.{IsPathOver, links_at}
use Rattle.intra.specs.Inputs.{AreaValue, HasTree}
use Rattle.explanation.specs.Traces.{AreLinkSteps}
use Rattle.explanation.proofs.PathLinks.{links_in}
use Rattle.explanation.proofs.layers.Layers.steps_to.Goals as goal

pub links_of_path-requires : goal.links_of_path-requires
links_of_path-requires c =
    let t = subst HasTree (sym c.area-in-Some.view_is) (c.requires.trees c.in-Some.area.now c.in-Some.ensures.some.0) in
    (t.0, c.area-in-Some.inside.database.now.lsas, t.1, t.2)

pub link_steps-requires-clause-tree : goal.link_steps-requires-clause-tree
link_steps-requires-clause-tree c = c.requires.trees c.in-Some.area.now c.in-Some.ensures.some.0

pub link_steps-requires-clause-links : goal.link_steps-requires-clause-links
link_steps-requires-clause-links c = λ l among.
    links_in c.in-Some.area.now c.args.vertex c.args.hop c.in_ok-links-in-Some.links.items
    (subst (λ (a : AreaValue). IsPathOver a.tree.area.graph c.args.vertex c.args.hop (links_at c.in_ok-links-in-Some.links.items)) c.area-in-Some.view_is c.in_ok-links-in-Some.ensures)
    l (subst (λ (list : List (Bor GraphLink)). Contains list l) c.deref.ensures.value among)

pub returns-in_ok-steps-in-Some : goal.returns-in_ok-steps-in-Some
returns-in_ok-steps-in-Some c =
    let path = subst (λ (a : AreaValue). IsPathOver a.tree.area.graph c.args.vertex c.args.hop (links_at c.in_ok-links-in-Some.links.items)) c.area-in-Some.view_is c.in_ok-links-in-Some.ensures in
    let steps = subst (λ (list : List (Bor GraphLink)). AreLinkSteps c.in-Some.area.now (links_at list) c.in_ok-steps-in-Some.steps.items) c.deref.ensures.value c.in_ok-steps-in-Some.ensures in
    inl (c.in-Some.area.now, c.in-Some.ensures.some, (links_at c.in_ok-links-in-Some.links.items, path, steps))

use Rattle.std.proofs.Common.{List, [], sym, ap, subst, ◌∙◌}
use Rattle.std.specs.Prelude.{option_map}
use Rattle.graph_links.specs.declared.link.GraphLink.{GraphLink}
use Rattle.graph_links.specs.declared.row.Row.{Row}
use Rattle.vertex_graph.specs.Graphs.{GraphValue, AreLinksFrom}
use Rattle.graph_links.specs.Pairs.{AreApart, AreCheap}
use Rattle.vertex_graph.specs.Rows.{graph_of}
use Rattle.vertex_graph.proofs.Changed.{get_graph, no_links_from}
use Rattle.vertex_graph.proofs.graph.Graph.links_from_at.Goals as goal

pub returns-in-Some-clause-exact : goal.returns-in-Some-clause-exact
returns-in-Some-clause-exact c =
    let i = c.self.inside in
    let is = c.self.invariant.right c.args.vertex.now c.in-Some.row.now (sym c.in-Some.ensures) in
    subst (λ (g : GraphValue). AreLinksFrom g c.args.vertex.now c.deref.result.now) c.self.view_is
    (subst (λ (links : List GraphLink). AreLinksFrom (graph_of i.root i.rows.entries i.interfaces.items) c.args.vertex.now links) (sym c.deref.ensures.value) is.out)

pub returns-in-Some-clause-cheap : goal.returns-in-Some-clause-cheap
returns-in-Some-clause-cheap c =
    let is = c.self.invariant.right c.args.vertex.now c.in-Some.row.now (sym c.in-Some.ensures) in
    subst AreCheap (sym c.deref.ensures.value) is.out_cheap

pub returns-in-Some-clause-each_once : goal.returns-in-Some-clause-each_once
returns-in-Some-clause-each_once c =
    let is = c.self.invariant.right c.args.vertex.now c.in-Some.row.now (sym c.in-Some.ensures) in
    subst AreApart (sym c.deref.ensures.value) is.out_once

pub returns-in-None-clause-exact : goal.returns-in-None-clause-exact
returns-in-None-clause-exact c =
    let i = c.self.inside in
    let none = get_graph i.root i.rows.entries i.interfaces.items c.args.vertex.now ∙ ap (option_map (λ (row : Row). row.ends.items)) (sym c.in-None.ensures) in
    subst (λ (g : GraphValue). AreLinksFrom g c.args.vertex.now []) c.self.view_is (no_links_from (graph_of i.root i.rows.entries i.interfaces.items) c.self.invariant.ends c.args.vertex.now none)

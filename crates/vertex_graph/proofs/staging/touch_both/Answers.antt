use Rattle.std.proofs.Common.{List, ap, subst, ◌∙◌}
use Rattle.graph_links.specs.declared.link_end.LinkEnd.{LinkEnd}
use Rattle.graph_links.specs.Sides.{ends_or}
use Rattle.vertex_graph.specs.Stagings.{TouchesOthers}
use Rattle.vertex_graph.proofs.HandedIn.{touches_within}
use Rattle.vertex_graph.proofs.staging.touch_both.Goals as goal

pub returns-clause-own : goal.returns-clause-own
returns-clause-own c = c.in_ok-touch-2.ensures.kept c.args.vertex.now (c.in_ok-touch.ensures.kept c.args.vertex.now c.in_ok-touch_vertex.ensures.own)

pub returns-clause-gone : goal.returns-clause-gone
returns-clause-gone c =
    subst (λ (es : List LinkEnd). TouchesOthers es c.args.after.now c.touch-2.new.touched.items) (c.ends_or_empty-ends.ensures ∙ ap ends_or c.ends_of_row.ensures)
    (touches_within c.ends_or_empty-ends.result.now c.args.after.now c.touch.new.touched.items c.touch-2.new.touched.items c.in_ok-touch-2.ensures.kept c.in_ok-touch.ensures.others)

pub returns-clause-came : goal.returns-clause-came
returns-clause-came c =
    subst (λ (es : List LinkEnd). TouchesOthers c.args.after.now es c.touch-2.new.touched.items) (c.ends_or_empty-ends.ensures ∙ ap ends_or c.ends_of_row.ensures) c.in_ok-touch-2.ensures.others

use Rattle.std.proofs.Common.{Option, ap, subst, ◌∙◌}
use Rattle.std.specs.Prelude.{Contains, option_copied, option_map}
use Rattle.std.specs.FinMap.{find}
use Rattle.ospf_types.specs.declared.entry.Vertex.{Vertex}
use Rattle.ospf_types.specs.Vertices.{vertex_cmp}
use Rattle.graph_links.specs.declared.row.Row.{Row}
use Rattle.ospf_types.specs.declared.entry.Vertex.TheVariants.{Router}
use Rattle.graph_links.specs.Sides.{row_ends, ends_or}
use Rattle.vertex_graph.proofs.HandedIn.{named_touched}
use Rattle.vertex_graph.proofs.staging.stage_root.Goals as goal

pub returns-clause-root : goal.returns-clause-root
returns-clause-root c = (c.keep_once.ensures.same (Router c.args.root)).1 (subst (Contains c.touch_both.new.touched.items) c.new.ensures c.in_ok-touch_both.ensures.own)

pub returns-clause-neighbours : goal.returns-clause-neighbours
returns-clause-neighbours c v names =
    (c.keep_once.ensures.same v).1
    (named_touched (ends_or (option_map (λ (row : Row). row.ends.items) (option_copied c.find_row-place.result.0))) (ends_or (row_ends c.args.rows.now.entries (Router c.args.root))) c.touch_both.new.touched.items
    (ap (λ (o : Option Row). ends_or (option_map (λ (row : Row). row.ends.items) o)) (c.find_row-place.ensures ∙ ap (λ (v : Vertex). find vertex_cmp v c.args.rows.now.entries) c.without_hint.ensures)) c.in_ok-touch_both.ensures.gone v names)

use Rattle.std.proofs.Common.{◌≡◌, Option, ap, subst, ◌∙◌}
use Rattle.std.specs.Prelude.{Contains, option_copied, option_map}
use Rattle.std.specs.FinMap.{find}
use Rattle.ospf_types.specs.declared.entry.Vertex.{Vertex}
use Rattle.ospf_types.specs.Vertices.{vertex_cmp}
use Rattle.graph_links.specs.declared.row.Row.{Row}
use Rattle.std.specs.Global.{Vec}
use Rattle.graph_links.specs.declared.link_end.LinkEnd.{LinkEnd}
use Rattle.graph_links.specs.Sides.{row_ends, ends_or}
use Rattle.vertex_graph.proofs.HandedIn.{staged_by, touched_more, touches_as}
use Rattle.vertex_graph.proofs.staging.stage_one.Goals as goal

pub returns-clause-ends : goal.returns-clause-ends
returns-clause-ends c = staged_by c.args.rows.now.entries c.args.staging.now.ends.entries c.insert.new.self.entries c.args.vertex c.args.ends c.in_ok-insert.ensures.updates.0

pub returns-clause-touched : goal.returns-clause-touched
returns-clause-touched c =
    let rows = c.args.rows.now.entries in
    let ends = option_map (λ (es : Vec LinkEnd). es.items) c.args.ends in
    let touched = c.touch_both.new.touched.items in
    let before : ends_or (option_map (λ (row : Row). row.ends.items) (option_copied c.find_row-place.result.0)) ≡ ends_or (row_ends rows c.args.vertex) =
    ap (λ (o : Option Row). ends_or (option_map (λ (row : Row). row.ends.items) o)) (c.find_row-place.ensures ∙ ap (λ (v : Vertex). find vertex_cmp v rows) c.without_hint.ensures) in
    let after : c.ends_or_empty.result.now ≡ ends_or ends = c.ends_or_empty.ensures ∙ ap ends_or c.staged_ends-after.ensures in
    let all = c.in_ok-touch_both.ensures in
    touched_more rows c.args.vertex ends c.args.staging.now.ends.entries c.insert.new.self.entries c.args.staging.now.touched.items touched (returns-clause-ends c) c.requires.touched (subst (Contains touched) c.new-placed.ensures all.own) all.kept
    (touches_as _ _ _ _ touched before after all.gone) (touches_as _ _ _ _ touched after before all.came)

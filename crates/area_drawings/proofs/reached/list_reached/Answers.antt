use Rattle.std.proofs.Common.{◌≡◌, List, ap, ◌∙◌}
use Rattle.std.specs.List.{filter_map}
use Rattle.ospf_types.specs.declared.entry.Vertex.{Vertex}
use Rattle.area_drawings.specs.Reaching.{reached_by}
use Rattle.area_drawings.proofs.Reaches.{are_reached}
use Rattle.area_drawings.proofs.reached.list_reached.Goals as goal

pub returns : goal.returns
returns c =
    let t = c.args.tree.now in
    let is : c.in_ok-reached.reached.items ≡ filter_map (reached_by t) c.in_ok-vertices.vertices.items = c.in_ok-reached.ensures ∙ ap (λ (vs : List Vertex). filter_map (reached_by t) vs) c.deref.ensures.value in
    are_reached t c.args.database.now c.keys.result.now c.in_ok-vertices.vertices.items c.in_ok-reached.reached.items c.sort_by_key.new.self.items
    c.keys.ensures.ordered c.keys.ensures.value c.in_ok-vertices.ensures.in_order c.in_ok-vertices.ensures.exact is c.in_ok-sort_by_key.ensures.permutation

use Rattle.std.proofs.Common.{sym, ap, ◌∙◌}
use Rattle.std.specs.FinMap.{len, len-empty}
use Rattle.ospf_types.specs.Vertices.{vertex_cmp}
use Rattle.vertex_map.specs.Values.{values_of}
use Rattle.vertex_map.proofs.vertex_map.VertexMap.with_room.Goals as goal

pub invariant_of-result : goal.invariant_of-result
invariant_of-result g c = sym (ap (λ es. len (values_of es)) c.in_ok-entries.ensures.empty ∙ len-empty vertex_cmp g.row.V.Denot)

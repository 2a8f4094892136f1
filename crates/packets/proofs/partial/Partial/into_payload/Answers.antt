use Rattle.std.proofs.Common.{◌≤◌, ap, ◌∙◌, length, take, arith}
use Rattle.packets.specs.Kept.{is_whole, payload_of}
use Rattle.packets.proofs.Cells.{all_bytes, whole_all}
use Rattle.packets.proofs.partial.Partial.into_payload.Goals as goal

pub returns : goal.returns
returns c =
    let v = c.self.inside in
    let enough : length v.came.items ≤ length v.bytes.items = omega (arith, v.came.ok.0, v.bytes.ok.0, c.self.invariant.0) in
    c.truncate.ensures.items ∙ ap (λ n. take n v.bytes.items) (c.len.ensures ∙ v.came.ok.0)
    ∙ all_bytes v.came.items v.bytes.items enough (whole_all v.has_end _ (ap is_whole c.self.view_is ∙ c.requires))
    ∙ ap payload_of c.self.view_is

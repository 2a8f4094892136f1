use Rattle.std.proofs.Common.{◌≤◌, ap, sym, ◌∙◌, length, arith, ◌&&◌, is_some, eqb}
use Rattle.std.specs.List.{list_all}
use Rattle.packets.specs.Kept.{cells, is_whole}
use Rattle.packets.proofs.Cells.{all_came}
use Rattle.packets.proofs.Missing.{none_missing}
use Rattle.packets.proofs.partial.Partial.is_whole.Goals as goal

pub returns-then-self : goal.returns-then-self
returns-then-self c =
    let v = c.self.inside in
    let enough : length v.came.items ≤ length v.bytes.items = omega (arith, v.came.ok.0, v.bytes.ok.0, c.self.invariant.0) in
    ap (λ n. eqb n 0) c.self.invariant.2 ∙ none_missing v.came.items ∙ all_came v.came.items v.bytes.items enough
    ∙ sym (ap (λ b. b && list_all is_some (cells v.came.items v.bytes.items)) c.if-self.true)
    ∙ ap is_whole c.self.view_is

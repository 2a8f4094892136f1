use Rattle.std.proofs.Common.{ap, sym, ◌∙◌, length, arith}
use Rattle.packets.specs.Kept.{Kept}
use Rattle.packets.proofs.Cells.{length-cells}
use Rattle.packets.proofs.partial.Partial.size.Goals as goal

pub returns-clause-value : goal.returns-clause-value
returns-clause-value c =
    let v = c.self.inside in
    c.len.ensures ∙ v.came.ok.0 ∙ sym (length-cells v.came.items v.bytes.items (omega (arith, v.came.ok.0, v.bytes.ok.0, c.self.invariant.0)))
    ∙ ap (λ (k : Kept). length k.bytes) c.self.view_is

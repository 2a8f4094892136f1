use Rattle.std.proofs.Common.{arith, sym, ◌∙◌}
use Rattle.std.proofs.lemmas.Fmt.{decimal_injective}
use Rattle.recording.proofs.words.read_number.Goals as goal

pub returns-in_err-value : goal.returns-in_err-value
returns-in_err-value c = rw c.from_residual.ensures (λ n within same. c.in_err-value.ensures n (omega arith) same)

pub returns-else-value-from : goal.returns-else-value-from
returns-else-value-from c n within same =
    let value = c.in_ok-value.ensures in
    let is = decimal_injective c.in_ok-value.value n value.0 (omega arith) (sym value.1 ∙ same) in
    omega (arith, is, within, c.if-value-from.false, c.from.ensures)

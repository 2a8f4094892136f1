use Rattle.std.proofs.Common.{ℕ, arith}
use Rattle.std.proofs.lemmas.List.{length-take, length-drop}
use Rattle.captures.proofs.Windows.{consumed}
use Rattle.captures.proofs.window.Window.pass.Goals as goal

pub returns : goal.returns
returns c =
    let w = c.args.self.now in
    consumed w.bytes.items w.start w.end c.args.count (omega (arith, length-take {A = ℕ}, length-drop {A = ℕ}))

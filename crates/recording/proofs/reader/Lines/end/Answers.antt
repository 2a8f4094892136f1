use Rattle.std.proofs.Common.{◌≡◌, length, ap, arith}
use Rattle.std.proofs.lemmas.List.{length-drop}
use Rattle.recording.specs.Left.{left_in}
use Rattle.recording.proofs.reader.Lines.end.Goals as goal

pub returns-else-self-clause-cut : goal.returns-else-self-clause-cut
returns-else-self-clause-cut c = λ none.
    let e : length (left_in c.args.self) ≡ 0 = ap length none in
    omega (arith, length-drop c.args.self.start c.args.self.text.now)

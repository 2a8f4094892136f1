use Rattle.recording.proofs.Fields.{no_stub}
use Rattle.recording.proofs.words.Words.stub.Goals as goal

pub returns-in_err-choice : goal.returns-in_err-choice
returns-in_err-choice c = rw c.from_residual.ensures (no_stub c.args.self.now c.in_err-choice.ensures)

use Rattle.replay.proofs.LineTexts.{due_printed}
use Rattle.replay.proofs.lines.put_due_words.Goals as goal

pub returns : goal.returns
returns c = due_printed _ _ _ _ c.args.area c.args.due c.in_ok-write.ensures.bytes c.in_ok-put_dest.ensures c.in_ok-writeln.ensures.bytes

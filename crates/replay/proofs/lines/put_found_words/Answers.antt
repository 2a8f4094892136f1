use Rattle.replay.proofs.LineTexts.{lookup_printed}
use Rattle.replay.proofs.lines.put_found_words.Goals as goal

pub returns : goal.returns
returns c = lookup_printed _ _ _ _ _ _ c.in_ok-writeln.ensures.bytes

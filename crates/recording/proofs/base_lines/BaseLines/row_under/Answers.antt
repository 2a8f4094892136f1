use Rattle.recording.proofs.Rows.{row_greater}
use Rattle.recording.proofs.base_lines.BaseLines.row_under.Goals as goal

pub returns-in-Greater : goal.returns-in-Greater
returns-in-Greater c = row_greater c.as_slice.result.now _ c.in-Some.last.now c.args.scope c.as_slice.ensures c.requires.ordered c.in-Some.ensures.value c.in-Greater.ensures

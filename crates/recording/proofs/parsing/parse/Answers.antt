use Rattle.recording.proofs.Only.{only_this}
use Rattle.recording.proofs.parsing.parse.Goals as goal

pub returns-clause-only : goal.returns-clause-only
returns-clause-only c = only_this c.parse_text.result c.parse_text.ensures.text c.parse_text.ensures.fault

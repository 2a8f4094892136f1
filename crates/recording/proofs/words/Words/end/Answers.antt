use Rattle.std.proofs.Common.{sym, ◌∙◌}
use Rattle.recording.proofs.Cutting.{word_left}
use Rattle.recording.proofs.words.Words.end.Goals as goal

pub returns-then-is_some : goal.returns-then-is_some
returns-then-is_some c none = word_left c.self.inside.left (sym c.is_some.ensures ∙ c.if-is_some.true) (c.self.view_is ∙ none)

use Rattle.std.proofs.Common.{sym, ap, ◌∙◌}
use Rattle.recording.specs.Places.{is_front_word}
use Rattle.recording.specs.Reading.{first_word}
use Rattle.recording.proofs.FrontWords.{front_told}
use Rattle.recording.proofs.preamble.is_preamble_line.Goals as goal

pub returns-in-Some-clause-said : goal.returns-in-Some-clause-said
returns-in-Some-clause-said c = λ v form said.
    c.is_front_word.ensures ∙ ap (λ words. is_front_word (first_word words)) (sym c.in-Some.ensures ∙ c.of-words.ensures) ∙ front_told v c.args.line.now form said

use Rattle.std.proofs.Common.{◌+◌, ◌∷◌, ap, sym, ◌∙◌, take}
use Rattle.std.proofs.lemmas.List.{take_rest}
use Rattle.recording.specs.Reading.{cut, words_left}
use Rattle.recording.proofs.Cutting.{first_cut, no_cut}
use Rattle.recording.proofs.words.Words.next.Goals as goal

pub returns-in-Some : goal.returns-in-Some
returns-in-Some c =
    let text = c.in_ok-left.left.now in
    let place = c.in-Some.end in
    sym c.self.view_is ∙ ap words_left c.in_ok-left.was ∙ first_cut text 32 place c.in-Some.ensures ∙ ap (λ rest. take place text ∷ cut rest) (sym (take_rest text (place + 1)))

pub returns-in-None : goal.returns-in-None
returns-in-None c = sym c.self.view_is ∙ ap words_left c.in_ok-left.was ∙ no_cut c.in_ok-left.left.now 32 c.in-None.ensures

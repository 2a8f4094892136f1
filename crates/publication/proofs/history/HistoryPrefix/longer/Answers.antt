use Rattle.std.proofs.Common.{ap, subst, sym, arith, List, ◌∙◌}
use mathlib.Core.List.{IsPrefix}
use Rattle.publication.specs.declared.history.Page.{Page}
use Rattle.publication.specs.Lines.{HistoryLine}
use Rattle.publication.specs.HistoryRules.{key_in}
use Rattle.publication.proofs.Written.{shorter_begins}
use Rattle.publication.proofs.history.HistoryPrefix.longer.Goals as goal

pub returns-then-self-other-clause-this : goal.returns-then-self-other-clause-this
returns-then-self-other-clause-this c =
    let mine = c.self.inside in
    let theirs = c.other.inside in
    let both = c.learn.new.self.log in
    let this : IsPrefix mine.log.log both = subst (λ (l : List Page). IsPrefix l both) (ap (λ s. s.log) c.again-both.ensures) c.learn.ensures.2 in
    rw (c.again.ensures, ← c.self.view_is, ← c.other.view_is)
    (shorter_begins (key_in mine.first.log) (key_in theirs.first.log) mine.log.log theirs.log.log both
    (ap (λ (l : HistoryLine). l.book.first) c.self.view_is ∙ ap (λ h. h.first) (sym c.requires) ∙ sym (ap (λ (l : HistoryLine). l.book.first) c.other.view_is))
    this c.learn.ensures.3 (omega (arith, c.self.invariant, c.other.invariant)))

pub returns-clause-that : goal.returns-clause-that
returns-clause-that c =
    let mine = c.self.inside in
    let theirs = c.other.inside in
    let both = c.learn.new.self.log in
    let this : IsPrefix mine.log.log both = subst (λ (l : List Page). IsPrefix l both) (ap (λ s. s.log) c.again-both.ensures) c.learn.ensures.2 in
    rw (c.again-else-self-other.ensures, ← c.self.view_is, ← c.other.view_is)
    (shorter_begins (key_in theirs.first.log) (key_in mine.first.log) theirs.log.log mine.log.log both
    (ap (λ (l : HistoryLine). l.book.first) c.other.view_is ∙ ap (λ h. h.first) c.requires ∙ sym (ap (λ (l : HistoryLine). l.book.first) c.self.view_is))
    c.learn.ensures.3 this (omega (arith, c.self.invariant, c.other.invariant)))

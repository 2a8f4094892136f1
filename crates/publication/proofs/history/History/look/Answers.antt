use Rattle.std.proofs.Common.{◌≡◌, sym, ◌∙◌, ap, subst, length}
use mathlib.Core.List.{IsPrefix}
use Rattle.publication.specs.HistoryRules.{key_in, key_after, written, AreOthers}
use Rattle.publication.specs.Lines.{HistoryLine, HistoryBook}
use Rattle.publication.proofs.Adding.{looks_moves}
use Rattle.publication.proofs.Written.{looked}
use Rattle.publication.proofs.history.History.look.Goals as goal

pub compare_exchange-requires : goal.compare_exchange-requires
compare_exchange-requires c =
    let h = c.self.invariant.0 in
    let history = c.self.invariant.2 in
    let offer = c.plain-offer.ensures in
    let home = sym (ap (λ w. w.book) h) in (
      ap (λ w. w.tracked) h,
      c.learn.ensures.0 ∙ home,
      history.same ∙ home,
      offer.0,
      rw (ap (λ w. w.key) h, offer.3) (looks_moves c.learn.new.self.log c.self.inside.pen.nib c.plain-offer.result.ask history.may),
    )

told : (c : goal.After-drop-offer)
    → (written (key_in c.self.inside.first.log) c.compare_exchange.new.seen.log ≡ written (key_in c.self.inside.first.log) c.self.inside.log.log)
    × (key_after (key_in c.self.inside.first.log) c.compare_exchange.new.seen.log ≡ key_after (key_in c.self.inside.first.log) c.self.inside.log.log)
    × IsPrefix (written (key_in c.front.inside.first.log) c.front.inside.log.log) (written (key_in c.self.inside.first.log) c.self.inside.log.log)
told c =
    let i = c.self.inside in
    let history = c.self.invariant.2 in
    let step = c.compare_exchange.ensures in
    let log = c.compare_exchange.new.seen.log in
    let others : AreOthers (key_after (key_in i.first.log) i.log.log) log = rw history.next step.7.0 in
    let first : key_in c.front.inside.first.log ≡ key_in i.first.log =
    ap (λ (l : HistoryLine). l.book.first) c.front.view_is ∙ ap (λ (h : HistoryBook). h.first) c.requires ∙ sym (ap (λ (l : HistoryLine). l.book.first) c.self.view_is) in
    looked (key_in i.first.log) (key_in c.front.inside.first.log) i.log.log c.front.inside.log.log c.learn.new.self.log log first c.learn.ensures.2 c.learn.ensures.3 step.6 others

pub invariant_of-self : goal.invariant_of-self
invariant_of-self c =
    let history = c.self.invariant.2 in
    let step = c.compare_exchange.ensures in
    let all = told c in
    let book = step.0 ∙ c.learn.ensures.0 in (
      rw book c.self.invariant.0,
      c.self.invariant.1 ∙ sym (ap length all.0),
      record { same = step.5 ∙ history.same ∙ sym book; may = ap (λ n. n.right) step.7.1 ∙ history.may; next = all.1 ∙ history.next ∙ sym (ap (λ n. n.key) step.7.1) },
    )

pub returns-clause-same : goal.returns-clause-same
returns-clause-same c =
    (λ j. record { book = record { book = (c.compare_exchange.ensures.0 ∙ c.learn.ensures.0) j; first = key_in c.self.inside.first.log }; list = (told c).0 j }) ∙ c.self.view_is

pub returns-clause-begun : goal.returns-clause-begun
returns-clause-begun c = subst (λ (z : HistoryLine × HistoryLine). IsPrefix z.0.list z.1.list) (λ j. (c.front.view_is j, c.self.view_is j)) (told c).2

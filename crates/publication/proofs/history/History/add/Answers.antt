use Rattle.std.proofs.Common.{◌≡◌, sym, ◌∙◌, ap, arith, length, length-append, [], ◌∷◌, ◌++◌}
use Rattle.publication.specs.HistoryRules.{key_in, written}
use Rattle.publication.specs.Lines.{HistoryLine}
use Rattle.publication.proofs.Adding.{adds_moves}
use Rattle.publication.proofs.Written.{wrote}
use Rattle.publication.proofs.history.History.add.Goals as goal

pub compare_exchange-requires : goal.compare_exchange-requires
compare_exchange-requires c =
    let h = c.self.invariant.0 in
    let history = c.self.invariant.2 in
    let offer = c.plain-offer.ensures in
    let mine : c.self.inside.log.book ≡ c.self.inside.head.book = sym (ap (λ w. w.book) h) in (
      ap (λ w. w.tracked) h,
      mine,
      history.same ∙ mine,
      offer.0,
      rw (ap (λ w. w.key) h, offer.3) (adds_moves c.self.inside.log.log c.self.inside.pen.nib c.plain-offer.result.ask history.may (ap (λ p. p.pen) offer.1)),
    )

pub invariant_of-self : goal.invariant_of-self
invariant_of-self c =
    let i = c.self.inside in
    let history = c.self.invariant.2 in
    let offer = c.plain-offer.ensures in
    let step = c.compare_exchange.ensures in
    let next = c.new_pen-next.ensures in
    let done = wrote (key_in i.first.log) i.log.log c.compare_exchange.new.seen.log i.pen.nib.key c.new_pen-next.result.nib.key c.args.event.now c.plain-offer.result.ask offer.1 history.next step.7 in (
      rw step.0 c.self.invariant.0,
      omega (arith, c.self.invariant.1, ap length done.0, length-append (written (key_in i.first.log) i.log.log) (c.args.event.now ∷ [])),
      record { same = next.0 ∙ sym step.0; may = next.1; next = done.1 },
    )

pub returns : goal.returns
returns c =
    let i = c.self.inside in
    let history = c.self.invariant.2 in
    let offer = c.plain-offer.ensures in
    let step = c.compare_exchange.ensures in
    let done = wrote (key_in i.first.log) i.log.log c.compare_exchange.new.seen.log i.pen.nib.key c.new_pen-next.result.nib.key c.args.event.now c.plain-offer.result.ask offer.1 history.next step.7 in (
      (λ j. record { book = step.0 j; first = key_in i.first.log }) ∙ ap (λ (l : HistoryLine). l.book) c.self.view_is,
      done.0 ∙ ap (λ (l : HistoryLine). l.list ++ c.args.event.now ∷ []) c.self.view_is,
    )

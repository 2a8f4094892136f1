use Rattle.std.proofs.Common.{◌≡◌, sym, ◌∙◌, ap}
use Rattle.publication.proofs.Adding.{makes_moves}
use Rattle.publication.proofs.history.new_pen.Goals as goal

pub compare_exchange-requires : goal.compare_exchange-requires
compare_exchange-requires c =
    let h = c.requires in
    let offer = c.plain-offer.ensures in
    let pen = c.no_pen-pen.ensures in
    let mine : c.again-log.result.book ≡ c.args.head.now.book = ap (λ s. s.book) c.again-log.ensures ∙ sym (ap (λ w. w.book) h) in (
      ap (λ w. w.tracked) h,
      mine,
      pen.0 ∙ mine,
      offer.0,
      rw (ap (λ w. w.key) h, pen.1, offer.3) (makes_moves c.again-log.result.log c.plain-offer.result.ask),
    )

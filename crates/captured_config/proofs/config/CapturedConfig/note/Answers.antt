use Rattle.std.proofs.Common.{◌∙◌, ap, sym}
use Rattle.std.proofs.lemmas.Result.{on_ok_weaker}
use Rattle.captured_config.specs.Facts.{FactLists, Facts}
use Rattle.captured_config.proofs.KeptFacts.{counted}
use Rattle.captured_config.proofs.config.CapturedConfig.note.Goals as goal

pub returns-clause-ok : goal.returns-clause-ok
returns-clause-ok c =
    let router = c.self.inside.router in
    let old : Facts = record { router = router; lists = c.self.inside.lists } in
    let new : Facts = record { router = router; lists = c.note.new.self } in
    on_ok_weaker c.note.result
    (λ is captured are. counted captured c.args.area c.args.lsa.now old new (c.self.view_is ∙ are)
    (sym c.is_counted.ensures ∙ c.if-not-is_counted.false) (ap (λ (f : FactLists). record { router = router; lists = f }) is))
    c.note.ensures.ok

use Rattle.std.proofs.Common.{refl}
use Rattle.replay.proofs.Written.{err_as}
use Rattle.replay.proofs.Recorded.{journal_adds, journal_begun, journal_stopped}
use Rattle.replay.proofs.journal.Journal.show.Goals as goal

pub returns-in_err-show_front-clause-err : goal.returns-in_err-show_front-clause-err
returns-in_err-show_front-clause-err g c =
    λ whole. err_as _ c.from_residual.result c.in_err-show_front.field-0.0 c.from_residual.ensures.1
    (journal_begun c.args.format c.args.self.version c.args.self.core.now c.args.self.core.now.journal refl c.in_err-show_front.field-0.0 _ _ _ (c.in_err-show_front.ensures.err whole))

pub returns-in_err-show_events-clause-err : goal.returns-in_err-show_events-clause-err
returns-in_err-show_events-clause-err g c =
    λ whole. err_as _ c.from_residual-in_err-show_events.result c.in_err-show_events.field-0.0 c.from_residual-in_err-show_events.ensures.1
    (journal_stopped c.args.format c.args.self.version c.args.self.core.now c.journal.result.now c.journal.ensures.value c.in_err-show_events.field-0.0 _ _ _ _ _ whole c.in_ok-show_front.ensures.ok c.in_err-show_events.ensures.err)

pub returns-clause-ok : goal.returns-clause-ok
returns-clause-ok g c = journal_adds c.args.format c.args.self.version c.args.self.core.now c.journal.result.now c.journal.ensures.value _ _ _ _ _ _ c.in_ok-show_front.ensures.ok c.in_ok-show_events.ensures.ok

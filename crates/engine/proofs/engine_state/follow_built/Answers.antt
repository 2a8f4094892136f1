use Rattle.std.proofs.Common.{◌++◌, ap, ◌∙◌}
use Rattle.engine.proofs.Rolling.{whole_begun}
use Rattle.engine.proofs.engine_state.follow_built.Goals as goal

pub returns-clause-written : goal.returns-clause-written
returns-clause-written c =
    let rolled = c.args.rolled.now in
    whole_begun rolled c.args.core.now c.follow.new.history.list c.if-not-is_current.ensures.value (c.follow.ensures.whole ∙ ap (λ journal. rolled.list ++ journal) c.journal-journal.ensures.value)

use Rattle.std.proofs.lemmas.Result.{IfOk-weaker}
use Rattle.page_replay.proofs.paging.made.Goals as goal

pub returns-clause-page : goal.returns-clause-page
returns-clause-page g c =
    let end = c.in_ok-ended.ended in
    IfOk-weaker c.page_of.result _ _ (λ page shown. record { closed = end.core; told = end.told.items; ended = c.in_ok-ended.ensures.ended; shown = shown }) c.page_of.ensures

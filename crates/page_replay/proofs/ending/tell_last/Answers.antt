use Rattle.page_replay.proofs.Ended.{told_last}
use Rattle.page_replay.proofs.ending.tell_last.Goals as goal

pub returns : goal.returns
returns c =
    told_last _ _ _ _ _ _ _ _ _ _ (c.if-not-is_current.ensures.value) c.in-Ok.ensures.ok c.in-Ok-flush_buffer.ensures.ok c.new-told.ensures.items c.in_ok-page.ensures c.in-Ok-flush_buffer.ensures.empty c.in-Ok.ensures.current

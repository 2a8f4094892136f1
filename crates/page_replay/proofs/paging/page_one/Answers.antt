use Rattle.std.proofs.lemmas.Result.{on_ok_weaker}
use Rattle.replay.proofs.Advance.{shows_none}
use Rattle.page_replay.proofs.Pages.{writes, writes_part, part_of}
use Rattle.page_replay.proofs.paging.page_one.Goals as goal

pub returns-in_err-recording-clause-progress : goal.returns-in_err-recording-clause-progress
returns-in_err-recording-clause-progress g c = shows_none _ _

pub returns-in_default-clause-progress : goal.returns-in_default-clause-progress
returns-in_default-clause-progress g c = shows_none _ _

pub returns-in-Ok-made-clause-ok : goal.returns-in-Ok-made-clause-ok
returns-in-Ok-made-clause-ok g c =
    let opened = c.in-Ok.ensures in
    on_ok_weaker _ (writes _ _ _ _ _ _ c.deref.ensures.value opened.version opened.base opened.lines opened.opened c.in-Ok-made.ensures.page _ _ _ _ c.in_ok-recording.ensures.recording) c.write_out.ensures.ok

pub returns-in-Ok-made-clause-write : goal.returns-in-Ok-made-clause-write
returns-in-Ok-made-clause-write g c is =
    let opened = c.in-Ok.ensures in
    writes_part _ _ _ _ _ _ c.deref.ensures.value opened.version opened.base opened.lines opened.opened c.in-Ok-made.ensures.page _ _ _ _ c.in_ok-recording.ensures.recording (part_of _ _ _ c.write_out.ensures.err is)

pub returns-in-Ok-made-clause-closed : goal.returns-in-Ok-made-clause-closed
returns-in-Ok-made-clause-closed g c is =
    let opened = c.in-Ok.ensures in
    writes_part _ _ _ _ _ _ c.deref.ensures.value opened.version opened.base opened.lines opened.opened c.in-Ok-made.ensures.page _ _ _ _ c.in_ok-recording.ensures.recording (part_of _ _ _ c.write_out.ensures.err is)

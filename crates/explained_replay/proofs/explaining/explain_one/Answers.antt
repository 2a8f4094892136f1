use Rattle.std.proofs.lemmas.Result.{on_ok_weaker}
use Rattle.replay.proofs.Advance.{shows_none}
use Rattle.explained_replay.proofs.Answering.{explains, explains_part, part_of}
use Rattle.explained_replay.proofs.explaining.explain_one.Goals as goal

pub returns-in_err-recording-clause-progress : goal.returns-in_err-recording-clause-progress
returns-in_err-recording-clause-progress g c = shows_none _ _

pub returns-in_default-clause-progress : goal.returns-in_default-clause-progress
returns-in_default-clause-progress g c = shows_none _ _

pub returns-in-Ok-answer-clause-ok : goal.returns-in-Ok-answer-clause-ok
returns-in-Ok-answer-clause-ok g c =
    let opened = c.in-Ok.ensures in
    on_ok_weaker _ (explains _ _ _ _ _ _ _ c.deref.ensures opened.base opened.lines opened.opened c.in-Ok-run_silently.ensures.run c.in-Ok-answer.ensures _ _ _ _ c.in_ok-recording.ensures.recording) c.write_answer.ensures.ok

pub returns-in-Ok-answer-clause-write : goal.returns-in-Ok-answer-clause-write
returns-in-Ok-answer-clause-write g c is =
    let opened = c.in-Ok.ensures in
    explains_part _ _ _ _ _ _ _ c.deref.ensures opened.base opened.lines opened.opened c.in-Ok-run_silently.ensures.run c.in-Ok-answer.ensures _ _ _ _ c.in_ok-recording.ensures.recording (part_of _ _ _ c.write_answer.ensures.err is)

pub returns-in-Ok-answer-clause-closed : goal.returns-in-Ok-answer-clause-closed
returns-in-Ok-answer-clause-closed g c is =
    let opened = c.in-Ok.ensures in
    explains_part _ _ _ _ _ _ _ c.deref.ensures opened.base opened.lines opened.opened c.in-Ok-run_silently.ensures.run c.in-Ok-answer.ensures _ _ _ _ c.in_ok-recording.ensures.recording (part_of _ _ _ c.write_answer.ensures.err is)

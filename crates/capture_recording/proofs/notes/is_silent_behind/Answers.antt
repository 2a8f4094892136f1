use Rattle.std.proofs.Common.{subst}
use Rattle.std.specs.Io.KnownBytes.{Appends}
use Rattle.replay.specs.Writing.{AppendsPart}
use Rattle.capture_recording.proofs.Said.{said_all, said_no_more, said_part}
use Rattle.capture_recording.proofs.notes.is_silent_behind.Goals as goal

pub returns-then-is_silent : goal.returns-then-is_silent
returns-then-is_silent g c first before said = said_no_more first _ before c.args.text.now c.args.is_silent c.if-is_silent.true said

pub returns-in-Ok : goal.returns-in-Ok
returns-in-Ok g c first before said =
    said_all first _ _ before c.args.text.now c.args.is_silent c.if-is_silent.false (subst (λ l. Appends (g.F.Write.contents c.args.faults.now) (g.F.Write.contents c.write_whole.new.out) l) c.as_bytes.ensures.value c.in-Ok.ensures.ok) said

pub returns-in-Err : goal.returns-in-Err
returns-in-Err g c first before said =
    said_part first _ _ before c.args.text.now c.args.is_silent c.if-is_silent.false (subst (λ l. AppendsPart (g.F.Write.contents c.args.faults.now) (g.F.Write.contents c.write_whole.new.out) l) c.as_bytes.ensures.value c.in-Err.ensures.err) said

use Rattle.std.proofs.Common.{subst}
use Rattle.std.specs.Io.KnownBytes.{Appends}
use Rattle.replay.specs.Writing.{AppendsPart}
use Rattle.capture_recording.proofs.Ends.{front_begun, front_unwritten}
use Rattle.capture_recording.proofs.going.Ended.finish_behind.Goals as goal

pub returns-in-Ok : goal.returns-in-Ok
returns-in-Ok g c rules beginning before after told is =
    c.finish.ensures rules beginning before after _ told
    (front_begun rules beginning before after told _ c.args.self c.args.front.now is _ _ (subst (λ l. Appends (g.W.Write.contents c.args.out.now) (g.W.Write.contents c.write_out.new.out) l) c.as_bytes.ensures.value c.in-Ok.ensures.ok))

pub returns-in-Err : goal.returns-in-Err
returns-in-Err g c rules beginning before after told is =
    front_unwritten rules beginning before after told _ c.args.self c.args.front.now is _ _ _ c.in-Err.ensures.fault (subst (λ l. AppendsPart (g.W.Write.contents c.args.out.now) (g.W.Write.contents c.write_out.new.out) l) c.as_bytes.ensures.value c.in-Err.ensures.err)

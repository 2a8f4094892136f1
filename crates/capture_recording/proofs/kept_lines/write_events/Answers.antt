use Rattle.std.proofs.Common.{◌+◌, List, ℕ, subst, rules, string_bytes, OnErr}
use Rattle.replay.specs.Writing.{AppendsPart}
use Rattle.capture_recording.specs.Kept.{text_of}
use Rattle.capture_recording.proofs.Putting.{one_more, some_written, part_written, up_to_now, writes_part, last_part}
use Rattle.capture_recording.proofs.kept_lines.write_events.Goals as goal

pub returns-in-Err-clause-err : goal.returns-in-Err-clause-err
returns-in-Err-clause-err g c =
    up_to_now c.args.bytes.now c.args.events.now (g.W.Write.contents c.args.out.now) (g.W.Write.contents c.loop-place.out) c.loop-place.place (string_bytes c.loop-place.text) c.loop-place.invariant

pub returns-in-Err-write_due-clause-err : goal.returns-in-Err-write_due-clause-err
returns-in-Err-write_due-clause-err g c =
    let start = g.W.Write.contents c.args.out.now in
    let now = g.W.Write.contents c.loop-place.out in
    let more = one_more c.args.bytes.now c.args.events.now start now c.loop-place.place _ (string_bytes c.loop-place.text) (string_bytes c.put_kept.new.text) c.loop-place.invariant (search rules) (search rules) c.in-Ok.ensures.text in
    writes_part start (g.W.Write.contents c.write_due.new.out) (text_of c.args.bytes.now c.args.events.now) c.in-Err-write_due.fault c.in-Err-write_due.ensures.fault
    (part_written c.args.bytes.now c.args.events.now start now (g.W.Write.contents c.write_due.new.out) (c.loop-place.place + 1) (string_bytes c.put_kept.new.text) more c.in-Err-write_due.ensures.err)

pub loop-place-preserved : goal.loop-place-preserved
loop-place-preserved g c =
    let start = g.W.Write.contents c.args.out.now in
    let now = g.W.Write.contents c.loop-place.out in
    let more = one_more c.args.bytes.now c.args.events.now start now c.loop-place.place _ (string_bytes c.loop-place.text) (string_bytes c.put_kept.new.text) c.loop-place.invariant (search rules) (search rules) c.in-Ok.ensures.text in
    some_written c.args.bytes.now c.args.events.now start now (g.W.Write.contents c.write_due.new.out) (c.loop-place.place + 1) (string_bytes c.put_kept.new.text) (string_bytes c.write_due.new.lines) more c.in-Ok-write_due.ensures.ok

pub returns-clause-err : goal.returns-clause-err
returns-clause-err g c =
    let start = g.W.Write.contents c.args.out.now in
    last_part c.args.bytes.now c.args.events.now start (g.W.Write.contents c.loop-place.out) (g.W.Write.contents c.write_out.new.out) c.loop-place.place (string_bytes c.loop-place.text) c.loop-place.invariant
    c.write_out.result c.write_out.ensures.fault
    (subst (λ (bytes : List ℕ). OnErr c.write_out.result (AppendsPart (g.W.Write.contents c.loop-place.out) (g.W.Write.contents c.write_out.new.out) bytes)) c.as_bytes.ensures.value c.write_out.ensures.err)

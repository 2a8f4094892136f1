use Rattle.std.proofs.Common.{ℕ, OnOk, string_bytes, subst, sym}
use Rattle.std.specs.List.{flat_map}
use Rattle.std.proofs.lemmas.Result.{on_ok_weaker}
use Rattle.captured_lsas.specs.declared.taken.Taken.{Taken}
use Rattle.capture_recording.specs.Events.{AreAppended, GainsEvents, recorded_events, second_events, taken_events}
use Rattle.capture_recording.specs.Seconds.{recorded_of}
use Rattle.capture_recording.proofs.Gained.{appended_more}
use Rattle.capture_recording.proofs.events.put_taken.Goals as goal

pub returns-in_ok-put_seconds-in-Packet : goal.returns-in_ok-put_seconds-in-Packet
returns-in_ok-put_seconds-in-Packet c =
    let p = c.in-Packet in
    let old = string_bytes c.args.text.now in
    let mid = string_bytes c.put_seconds.new.text in
    let new = string_bytes c.put_each.new.text in
    let seconds = subst (λ (n : ℕ). AreAppended old mid (second_events n)) c.recorded_seconds.ensures c.in_ok-put_seconds-in-Packet.ensures in
    subst (λ (t : Taken). OnOk c.put_each.result (GainsEvents c.args.text.now c.put_each.new.text (taken_events t))) (sym p.is)
    (on_ok_weaker c.put_each.result (λ each. appended_more old mid new (second_events (recorded_of p.seconds)) (flat_map recorded_events p.recorded.items) seconds each) c.put_each.ensures)

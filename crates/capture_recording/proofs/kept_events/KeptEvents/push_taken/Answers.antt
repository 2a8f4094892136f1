use Rattle.std.proofs.Common.{ℕ, List, OnOk, subst, sym}
use Rattle.std.specs.List.{flat_map}
use Rattle.std.proofs.lemmas.Result.{on_ok_weaker}
use Rattle.captured_lsas.specs.declared.recorded.Recorded.{Recorded}
use Rattle.captured_lsas.specs.declared.taken.Taken.{Taken}
use Rattle.capture_recording.specs.Events.{AreAppended, recorded_events, second_events, taken_events}
use Rattle.capture_recording.specs.Seconds.{recorded_of}
use Rattle.capture_recording.proofs.Gained.{appended_more}
use Rattle.capture_recording.proofs.kept_events.KeptEvents.push_taken.Goals as goal

pub returns-in_ok-push_seconds-in-Packet : goal.returns-in_ok-push_seconds-in-Packet
returns-in_ok-push_seconds-in-Packet c =
    let p = c.in-Packet in
    let old = c.args.self.now in
    let mid = c.push_seconds.new.self in
    let new = c.push_each.new.self in
    let seconds = subst (λ (n : ℕ). AreAppended old mid (second_events n)) c.recorded_seconds.ensures c.in_ok-push_seconds-in-Packet.ensures in
    let each = subst (λ (all : List Recorded). OnOk c.push_each.result (AreAppended mid new (flat_map recorded_events all))) c.as_slice.ensures.value c.push_each.ensures in
    subst (λ (t : Taken). OnOk c.push_each.result (AreAppended old new (taken_events t))) (sym p.is)
    (on_ok_weaker c.push_each.result (appended_more old mid new (second_events (recorded_of p.seconds)) (flat_map recorded_events p.recorded.items) seconds) each)

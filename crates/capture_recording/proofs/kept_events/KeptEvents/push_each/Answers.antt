use Rattle.std.proofs.Common.{◌≡◌, ◌∙◌, ◌++◌, ◌<◌, List, [], ◌∷◌, ap, get_or, length, rules, subst, sym, take}
use Rattle.std.specs.List.{flat_map}
use Rattle.std.proofs.lemmas.List.{take_more}
use Rattle.captured_lsas.specs.declared.recorded.Recorded.{Recorded}
use Rattle.capture_recording.specs.Events.{AreAppended, recorded_events}
use Rattle.capture_recording.proofs.Gained.{appended_item}
use Rattle.capture_recording.proofs.kept_events.KeptEvents.push_each.Goals as goal

pub loop-one-preserved : goal.loop-one-preserved
loop-one-preserved c =
    let all = c.args.recorded.now in
    let at = c.loop-one.one-index in
    let one = c.one-item.result in
    let below : at < length all = search rules in
    let is : one ≡ get_or all at one = search rules in
    let next = take_more all at one below ∙ ap (λ (r : Recorded). take at all ++ r ∷ []) (sym is) in
    subst (λ (done : List Recorded). AreAppended c.args.self.now c.push_one.new.self (flat_map recorded_events done)) (sym next)
    (appended_item recorded_events c.args.self.now c.loop-one.self c.push_one.new.self (take at all) one c.loop-one.invariant c.in_ok-push_one.ensures)

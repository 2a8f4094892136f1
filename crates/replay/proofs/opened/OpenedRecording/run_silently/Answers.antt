use Rattle.std.proofs.Common.{◌+◌, ◌≤◌, length, ap, sym, ◌∙◌, arith}
use Rattle.std.proofs.lemmas.List.{nil_from_length}
use Rattle.std.specs.Vec.Iter.{into_iter_items}
use Rattle.replay.specs.Lines.{first_number}
use Rattle.replay.proofs.Advance.{advanced_none, advanced_more, advanced_shows}
use Rattle.replay.proofs.RunSteps.{taking_none, taking_more, taking_fits, taking_all}
use Rattle.replay.proofs.opened.OpenedRecording.run_silently.Goals as goal

pub loop-line-init : goal.loop-line-init
loop-line-init g c =
    let first = c.first_event_line-number.ensures ∙ ap (first_number c.args.self.version) c.base.ensures.value in
    record { taking = taking_none _ _ _ _ _ first (sym c.into_iter-line-iterator.ensures.into_iter_gives.0); shown = advanced_none _ _ _ _ first }

pub overflow_add-number : goal.overflow_add-number
overflow_add-number g c =
    let room : c.loop-line.number + 1 ≤ first_number c.args.self.version c.args.self.core.base + length c.args.self.lines.items = taking_fits _ _ _ _ _ _ _ _ c.loop-line.invariant.taking c.in-Some.ensures.steps.0 in
    omega arith

pub loop-line-preserved : goal.loop-line-preserved
loop-line-preserved g c =
    record { taking = taking_more _ _ _ _ _ _ _ _ _ c.loop-line.invariant.taking c.in-Some.ensures.steps.0 c.in_ok-take_line.ensures; shown = advanced_more _ _ _ _ _ _ c.loop-line.invariant.shown c.show.ensures }

pub returns-clause-run : goal.returns-clause-run
returns-clause-run g c =
    taking_all _ _ _ _ _ _ c.loop-line.invariant.taking (nil_from_length (into_iter_items c.loop-line.line-iterator) (sym c.loop-line.line-iterator.rest.ok.0 ∙ c.in-None.ensures.steps.0))

pub returns-clause-progress : goal.returns-clause-progress
returns-clause-progress g c = advanced_shows _ _ _ _ _ _ c.progress-progress.ensures c.loop-line.invariant.shown

pub returns-in_err-take_line-clause-progress : goal.returns-in_err-take_line-clause-progress
returns-in_err-take_line-clause-progress g c = advanced_shows _ _ _ _ _ _ c.progress-progress.ensures c.loop-line.invariant.shown

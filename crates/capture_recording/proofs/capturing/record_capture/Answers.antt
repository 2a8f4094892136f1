use Rattle.std.proofs.Common.{None, inl, refl, subst, sym}
use Rattle.capture_recording.specs.declared.capturing.Preamble.{Preamble}
use Rattle.capture_recording.specs.Outputs.{CaptureOutcome}
use Rattle.capture_recording.proofs.capturing.record_capture.Goals as goal

pub returns-in-Given : goal.returns-in-Given
returns-in-Given g c =
    subst (λ (b : Preamble). CaptureOutcome c.args.capturing.options b (g.R.Read.remaining c.args.input.now) (g.R.Read.remaining c.record_given.new.input) (g.W.Write.contents c.args.out.now) (g.W.Write.contents c.record_given.new.out) (g.F.Write.contents c.args.faults.now) (g.F.Write.contents c.record_given.new.faults) c.record_given.result) (sym c.in-Given.is) c.record_given.ensures

pub returns-in-Router : goal.returns-in-Router
returns-in-Router g c =
    subst (λ (b : Preamble). CaptureOutcome c.args.capturing.options b (g.R.Read.remaining c.args.input.now) (g.R.Read.remaining c.record_router.new.input) (g.W.Write.contents c.args.out.now) (g.W.Write.contents c.record_router.new.out) (g.F.Write.contents c.args.faults.now) (g.F.Write.contents c.record_router.new.faults) c.record_router.result) (sym c.in-Router.is) (None, inl refl, c.record_router.ensures)

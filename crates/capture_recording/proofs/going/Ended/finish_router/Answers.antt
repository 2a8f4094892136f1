use Rattle.std.proofs.Common.{subst, sym, Some}
use Rattle.capture_recording.specs.declared.capturing.Preamble.TheVariants.{Router}
use Rattle.captured_config.specs.Fronts.{captured_recording}
use Rattle.recording.specs.Recordings.{IsText}
use Rattle.capture_recording.specs.Finishing.{IsNoFront}
use Rattle.capture_recording.specs.Folds.{captured_of}
use Rattle.capture_recording.proofs.Ends.{is_behind, is_known, is_lacking, nothing_written}
use Rattle.capture_recording.proofs.going.Ended.finish_router.Goals as goal

pub returns-in-Ok : goal.returns-in-Ok
returns-in-Ok g c rules router before after told through =
    let known = captured_of router through.recorded.steps in
    let recording = captured_recording known c.args.self.session.gathered.areas in
    let text = c.in-Ok.ensures.ok known (is_known rules router before after told _ c.args.self through) in
    c.finish_behind.ensures rules (Router router) before after told
    (is_behind rules router before after told _ c.args.self through _ (subst (λ b. IsText b recording) (sym c.deref.ensures) text))

pub returns-in-Err-Config : goal.returns-in-Err-Config
returns-in-Err-Config g c rules router before after told through =
    let known = captured_of router through.recorded.steps in
    let no_front = c.in-Err-Config.ensures.fault known (is_known rules router before after told _ c.args.self through) in
    c.finish_without.ensures rules router before after _ told
    (is_lacking rules router before after told _ c.args.self through c.in-Err-Config.fault (subst (IsNoFront known c.args.self.session.gathered.areas) c.in-Err-Config.field-0-is no_front))

pub returns-in-Err-Memory : goal.returns-in-Err-Memory
returns-in-Err-Memory g c rules router before after told through = nothing_written rules (Some router) (Router router) before after told _ _ c.args.self through

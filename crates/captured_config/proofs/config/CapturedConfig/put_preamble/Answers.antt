use Rattle.std.proofs.Common.{◌∙◌, OnOk, subst}
use Rattle.std.specs.Result.{IfErr}
use Rattle.ospf_types.specs.declared.config.Config.{Config}
use Rattle.recording.specs.Recordings.{GainsLines, RecordingValue, forms_of}
use Rattle.captured_config.specs.Faults.{IsPreambleRefused}
use Rattle.captured_config.proofs.Fronts.{both_ok, front_text, is_captured, same_by}
use Rattle.captured_config.proofs.config.CapturedConfig.put_preamble.Goals as goal

pub returns-clause-text : goal.returns-clause-text
returns-clause-text c = λ captured are.
    subst (λ (r : RecordingValue). OnOk c.put_front_of.result (GainsLines c.args.text.now c.put_front_of.new.text (forms_of r)))
    (is_captured captured c.args.areas.now c.deref.result.now c.args.self.now are (c.deref.ensures.value ∙ c.in_ok-ids.ensures))
    c.put_front_of.ensures.text

pub returns-clause-recording : goal.returns-clause-recording
returns-clause-recording c = λ captured are.
    both_ok c.put_front_of.result
    (front_text captured c.args.areas.now c.deref.result.now c.args.self.now are (c.deref.ensures.value ∙ c.in_ok-ids.ensures))
    c.put_front_of.ensures.sound c.put_front_of.ensures.forms

pub returns-clause-fault : goal.returns-clause-fault
returns-clause-fault c = λ captured are.
    subst (λ (k : Config). IfErr c.put_front_of.result (IsPreambleRefused k c.args.text.now c.put_front_of.new.text))
    (same_by captured c.args.areas.now c.deref.result.now c.args.self.now are (c.deref.ensures.value ∙ c.in_ok-ids.ensures))
    c.put_front_of.ensures.fault

use Rattle.std.proofs.Common.{◌≡◌, None, subst, sym}
use Rattle.event_state.specs.declared.base.Base.{Base}
use Rattle.event_state.specs.BaseFaults.{base_fault_of}
use Rattle.event_state.specs.Steps.{standard_limits}
use Rattle.replay.proofs.opened.OpenedRecording.open.Goals as goal

pub open_core-requires : goal.open_core-requires
open_core-requires c = subst (λ (base : Base). base_fault_of standard_limits base ≡ None) (sym c.into_parts-version.ensures.base) c.into_parts-version.ensures.kept.sound

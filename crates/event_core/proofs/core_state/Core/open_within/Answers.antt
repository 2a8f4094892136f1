use Rattle.std.proofs.Common.{◌≡◌, None, sym, subst, ◌∙◌}
use Rattle.event_state.specs.declared.base.Base.{Base}
use Rattle.event_state.specs.BaseFaults.{base_fault_of}
use Rattle.event_core.proofs.Bases.{bare_sound}
use Rattle.event_core.proofs.core_state.Core.open_within.Goals as goal

pub open_with_limits-requires-clause-sound : goal.open_with_limits-requires-clause-sound
open_with_limits-requires-clause-sound c =
    subst (λ (b : Base). base_fault_of c.args.limits b ≡ None) (sym c.bare.ensures) (bare_sound c.args.limits c.args.config (sym c.fault_in.ensures ∙ c.in_default.is))

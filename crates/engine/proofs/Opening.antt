-- The faults of opening an engine whose base is sound.
use Rattle.std.proofs.Common.{◌≡◌, ◌⊎◌, ℕ, Result, Ok, Err, Option, None, Some, inl, inr, refl, sym, subst}
use Rattle.std.specs.Prelude.{IfErr}
use Rattle.event_core.specs.ConfigFault.{ConfigFault}
use Rattle.event_core.specs.ConfigFault.TheVariants.{Memory}
use Rattle.event_core.specs.Configs.{config_fault_of}
use Rattle.event_state.specs.BaseFaults.{after_config, base_fault_of}
use Rattle.event_state.specs.Steps.{standard_limits}
use Rattle.event_state.specs.declared.base.Base.{Base}
use Rattle.event_state.specs.declared.base_fault.BaseFault.{BaseFault}
use Rattle.engine.specs.EngineStates.{AreReaders}
use Rattle.engine.specs.Opens.{IsOpenFaultFrom}
use Rattle.engine.specs.declared.open_fault.OpenFault.{OpenFault}
use Rattle.engine.specs.declared.open_fault.OpenFault.TheVariants as opens

no_config : (o : Option ConfigFault) (rest : Option BaseFault) → after_config o rest ≡ None → o ≡ None
no_config None rest sound = refl
no_config (Some f) rest sound = absurd cc

-- a place or memory was refused
pub fault_over : {T : Type 0} (r : Result T OpenFault) (base : Base) (readers : ℕ) → base_fault_of standard_limits base ≡ None → AreReaders readers
    → IfErr r (λ e. (e ≡ opens.Place) ⊎ (e ≡ opens.Config Memory)) → IfErr r (IsOpenFaultFrom base readers)
fault_over (Ok x) base readers sound are over = over
fault_over (Err e) base readers sound are (inl place) = subst (IsOpenFaultFrom base readers) (sym place) (sound, are)
fault_over (Err e) base readers sound are (inr memory) =
    subst (IsOpenFaultFrom base readers) (sym memory) (inr (refl, no_config (config_fault_of base.config) _ sound))

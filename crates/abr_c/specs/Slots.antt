-- The core that C holds.
use Rattle.std.specs.Prelude.{Option}
use Rattle.event_core.specs.Cores.{CoreValue}
use Rattle.abr_c.specs.declared.slot.Slot.{Slot}

abbrev pub core_in : Slot → Option CoreValue
core_in slot = slot.handle.inside

-- The range that an event may change, in addition to LSAs and interfaces.
use Rattle.std.specs.Prelude.{ℕ, Option, Some, None, is_some}
use Rattle.ospf_types.specs.declared.prefix.Prefix.{Prefix}
use Rattle.event_state.specs.declared.event.Event.{Event}
use Rattle.event_state.specs.declared.event.Event.TheVariants as event
use Rattle.event_state.specs.States.{State}
use Rattle.calculation.specs.Active.{RangesDifferAt}
use Rattle.calculation.specs.Trees.{StatesDifferAmong}
use Rattle.event_core.specs.declared.affected.AffectedInputs.{AffectedInputs}

-- the range that the event sets or drops: its Area ID and its prefix
abbrev pub range_of : Event → Option (ℕ × Prefix)
range_of (event.RangeSet area prefix advertise) = Some (area, prefix)
range_of (event.RangeDrop area prefix) = Some (area, prefix)
range_of (event.Install at lsa) = None
range_of (event.Flush at key) = None
range_of (event.Purge at key) = None
range_of (event.Interface id area address peer up) = None
range_of event.Second = None

-- from the state before to the one after no LSA and no interface differs but those that are named
abbrev pub IsNamedBetween : AffectedInputs → State → State → Type 0
IsNamedBetween named before after = StatesDifferAmong named.keys.items named.interfaces.items (is_some named.range) before after

-- and no range but the named one
abbrev pub IsRangeNamedBetween : AffectedInputs → State → State → Type 0
IsRangeNamedBetween named before after = RangesDifferAt named.range before.config.areas after.config.areas

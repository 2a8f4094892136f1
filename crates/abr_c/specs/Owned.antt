-- The resources of C's handle of a core: those of the core's box, or none.
use Rattle.std.specs.Prelude.{Option, Some, None}
use Rattle.std.specs.Coded.{Coded, coded_option}
use Rattle.std.specs.Box.Ownership.{box_owns}
use Rattle.std.specs.Global.{Global}
use base.Fml.{Fml, ftrue}
use denote.RawPtr.{Ptr}
use Rattle.std_heap.specs.contracts.GlobalAllocator.TheImpl.{ghosts}
use Rattle.event_core.specs.contracts.core_state.Core.{the_row}

abbrev pub handle_owns : Global → Ptr → Option the_row.Denot → Fml
handle_owns alloc at None = ftrue
handle_owns alloc at (Some core) = box_owns (ghosts.dealloc_token alloc) the_row at core

abbrev pub core_coded : Coded (Option the_row.Denot)
core_coded = coded_option the_row.coded

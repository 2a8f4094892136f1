-- A core in a box of the heap, and the two types that own what such a box owns.
use mir.Syntax.{impl, tnil, dnil}
use mathlib.Core.List.{[]}
use denote.RattleType.{RattleType}
use Rattle.std_alloc.proofs.BoxSteps.Form.{Bx, D}
use Rattle.std_heap.specs.contracts.Global as heap
use Rattle.std_heap.specs.contracts.GlobalAllocator.TheImpl.{ghosts, dict}
use Rattle.std_heap.proofs.Global.TheLaws as heap_laws
use Rattle.event_core.specs.contracts.core_state.Core as core
use Rattle.event_core.proofs.core_state.Core.TheLaws as core_laws
use Rattle.abr_c.specs.contracts.taken.RawBox as taken
use Rattle.abr_c.specs.contracts.handle.Handle as handle
use Rattle.std.specs.Prelude.{Some}

abbrev pub boxed_core : Bx
boxed_core = record { row = core.the_row; laws = core_laws.the_row_laws; al = record { row = heap.the_row; laws = heap_laws.the_row_laws; g = ghosts; d = dict; drops = impl [] tnil dnil } }

abbrev pub TakenCore : RattleType
TakenCore = taken.the_row core.the_row heap.the_row ghosts

abbrev pub CoreHandle : RattleType
CoreHandle = handle.the_row

-- the box of a core, as the one type and as the other
abbrev pub taken_of : D boxed_core → TakenCore.Denot
taken_of d = record { at = d.ptr; alloc = d.alloc; inside = d.value }

abbrev pub handle_of : D boxed_core → CoreHandle.Denot
handle_of d = record { at = d.ptr; alloc = d.alloc; inside = Some d.value }

-- The resources of the handle may go to another thread: those of a box, or none.
use Rattle.std.specs.Prelude.{Option, Some, None}
use Rattle.std.specs.Global.{Global}
use base.Shift.{Keyless}
use mir.Raw.{raw}
use denote.Memory.{lone}
use denote.RawPtr.{Ptr}
use denote.Struct.Struct.{exits_of}
use denote.Struct.Owning.{shape, fields, to}
use denote.Param.Send.{IsSend, AllSend, owning_send, struct_send, sendable}
use Rattle.std.proofs.Crossing as heap
use Rattle.std_alloc.proofs.SendSync.{quiet, lies}
use Rattle.std_heap.proofs.Global.TheSendSync as allocator
use Rattle.event_core.specs.contracts.core_state.Core as core
use Rattle.event_core.proofs.core_state.Core.TheSendSync.{the_send as core_send}
use Rattle.abr_c.specs.Owned.{handle_owns}
use Rattle.abr_c.specs.contracts.handle.Handle.{the_row, the_type}

-- neither what a box owns nor nothing has a name that a thread keeps to itself
owned : (alloc : Global) (at : Ptr) (inside : Option core.the_row.Denot) → Keyless (handle_owns alloc at inside)
owned alloc at None = tt
owned alloc at (Some x) = (lies core.the_row core_send at x, heap.frees.frees alloc (raw (lone core.the_row.mir)) at)

pub send : IsSend the_row
send =
    let all : AllSend (fields the_type) = (search sendable, (allocator.the_field_send, tt)) in
    owning_send the_type all (λ d. owned d.alloc d.at d.inside)
    (λ k. quiet (to the_type) (exits_of k (fields the_type)) ((struct_send (shape the_type) all).leaving k))

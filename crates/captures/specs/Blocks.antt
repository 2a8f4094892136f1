-- The blocks of a pcapng.
use Rattle.std.specs.Prelude.{ℕ, ◌-◌, ◌==◌, not, nat_lt, if◌then◌else◌, List, length, take, Result, Ok, Err}
use Rattle.captures.specs.declared.fault.FaultKind.{FaultKind}
use Rattle.captures.specs.declared.fault.FaultKind.TheVariants.{Version, BlockLength}
use Rattle.captures.specs.declared.frame.BlockKind.{BlockKind}
use Rattle.captures.specs.declared.frame.Frame.{Frame}
use Rattle.captures.specs.declared.front.CaptureFormat.TheVariants as Format
use Rattle.captures.specs.declared.front.Front.{Front}
use Rattle.captures.specs.declared.front.Front.TheVariants.{Short, Header, Other}
use Rattle.captures.specs.declared.interface.CaptureInterface.{CaptureInterface}
use Rattle.captures.specs.declared.order.Order.{Order}
use Rattle.captures.specs.Frames.{frame_of}
use Rattle.captures.specs.Interfaces.{interface_front}
use Rattle.captures.specs.Numbers.{number_at}
use Rattle.captures.specs.Packets.{timed_front, simple_front}
use Rattle.captures.specs.Steps.{and_then}

-- the header of a section: the byte-order magic, the version, and what is not looked at
abbrev pub section_front : Order → List ℕ → Result Front FaultKind
section_front order block =
    if not (number_at order 2 12 block == 1) then Err Version else Ok (Header (Format.Section order) (length block))

-- the content of a whole block, by its type
abbrev pub content_front : BlockKind → Order → List CaptureInterface → List ℕ → Result Front FaultKind
content_front BlockKind.Section order interfaces block = section_front order block
content_front BlockKind.Interface order interfaces block = interface_front order block
content_front BlockKind.Obsolete order interfaces block = timed_front order (number_at order 2 8 block) interfaces block
content_front BlockKind.Simple order interfaces block = simple_front order interfaces block
content_front BlockKind.Enhanced order interfaces block = timed_front order (number_at order 4 8 block) interfaces block
content_front BlockKind.Other order interfaces block = Ok (Other (length block))

-- for a type that is read: the block has to be whole, with its length repeated at its end
abbrev pub read_front : Frame → List CaptureInterface → List ℕ → Result Front FaultKind
read_front frame interfaces bytes =
    if nat_lt (length bytes) frame.length then Ok (Short frame.length)
    else (if not (number_at frame.order 4 (frame.length - 4) bytes == frame.length) then Err BlockLength
    else content_front frame.kind frame.order interfaces (take frame.length bytes))

abbrev pub front_by_kind : BlockKind → ℕ → Result Front FaultKind → Result Front FaultKind
front_by_kind BlockKind.Section size front = front
front_by_kind BlockKind.Interface size front = front
front_by_kind BlockKind.Obsolete size front = front
front_by_kind BlockKind.Simple size front = front
front_by_kind BlockKind.Enhanced size front = front
front_by_kind BlockKind.Other size front = Ok (Other size)

-- a block of another type is not looked at
abbrev pub framed_front : Frame → List CaptureInterface → List ℕ → Result Front FaultKind
framed_front frame interfaces bytes = front_by_kind frame.kind frame.length (read_front frame interfaces bytes)

abbrev pub block_front : Order → List CaptureInterface → List ℕ → Result Front FaultKind
block_front order interfaces bytes =
    if nat_lt (length bytes) 12 then Ok (Short 12)
    else and_then (frame_of order bytes) (λ frame. framed_front frame interfaces bytes)

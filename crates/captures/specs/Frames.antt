-- The frame of a block of a pcapng: its type and its total length at the start, and the total
-- length again at its end.
use Rattle.std.specs.Prelude.{ℕ, ◌%◌, ◌==◌, ◌≤◌, Bool, ◌||◌, not, nat_lt, if◌then◌else◌, List, Result, Ok, Err}
use Rattle.captures.specs.declared.fault.FaultKind.{FaultKind}
use Rattle.captures.specs.declared.fault.FaultKind.TheVariants.{NoCapture, BlockLength}
use Rattle.captures.specs.declared.frame.BlockKind.{BlockKind}
use Rattle.captures.specs.declared.frame.BlockKind.TheVariants.{Section, Interface, Obsolete, Simple, Enhanced, Other}
use Rattle.captures.specs.declared.frame.Frame.{Frame}
use Rattle.captures.specs.declared.order.Order.{Order}
use Rattle.captures.specs.declared.order.Order.TheVariants.{Big, Little}
use Rattle.captures.specs.Numbers.{number_at}
use Rattle.captures.specs.Steps.{and_then}

-- the types that are read
abbrev pub kind_of_number : ℕ → BlockKind
kind_of_number number =
    if number == 0x0A0D0D0A then Section
    else (if number == 1 then Interface
    else (if number == 2 then Obsolete
    else (if number == 3 then Simple
    else (if number == 6 then Enhanced else Other))))

-- without options, and without bytes of a packet
abbrev pub least_length : BlockKind → ℕ
least_length Section = 28
least_length Interface = 20
least_length Obsolete = 32
least_length Simple = 16
least_length Enhanced = 32
least_length Other = 12

-- 1 MiB, or as much as 4 bytes can tell
abbrev pub most_length : BlockKind → ℕ
most_length Section = 1048576
most_length Interface = 1048576
most_length Obsolete = 1048576
most_length Simple = 1048576
most_length Enhanced = 1048576
most_length Other = 4294967295

abbrev pub is_wrong_length : BlockKind → ℕ → Bool
is_wrong_length kind size = not (size % 4 == 0) || nat_lt size (least_length kind) || nat_lt (most_length kind) size

-- the byte order of a section, by the byte-order magic
abbrev pub section_order : List ℕ → Result Order FaultKind
section_order bytes =
    if number_at Big 4 8 bytes == 0x1A2B3C4D then Ok Big
    else (if number_at Little 4 8 bytes == 0x1A2B3C4D then Ok Little else Err NoCapture)

-- a section has a byte order of its own, and another block that of its section
abbrev pub order_of : BlockKind → Order → List ℕ → Result Order FaultKind
order_of Section order bytes = section_order bytes
order_of Interface order bytes = Ok order
order_of Obsolete order bytes = Ok order
order_of Simple order bytes = Ok order
order_of Enhanced order bytes = Ok order
order_of Other order bytes = Ok order

abbrev pub frame_by : BlockKind → Order → ℕ → Result Frame FaultKind
frame_by kind order size =
    if is_wrong_length kind size then Err BlockLength else Ok (record { kind = kind; order = order; length = size })

abbrev pub kind_in : Order → List ℕ → BlockKind
kind_in order bytes = kind_of_number (number_at order 4 0 bytes)

-- by the first 12 bytes of a block
abbrev pub frame_of : Order → List ℕ → Result Frame FaultKind
frame_of order bytes =
    and_then (order_of (kind_in order bytes) order bytes) (λ own. frame_by (kind_in order bytes) own (number_at own 4 4 bytes))

-- the length fits the kind
pub record IsFrame (frame : Frame) : Type 0 where
  pub least : least_length frame.kind ≤ frame.length
  pub most : frame.length ≤ most_length frame.kind

-- The properties of each item at the start of bytes.
use Rattle.std.specs.Prelude.{ℕ, ◌+◌, ◌<◌, ◌≤◌, List, length, Result, Ok, Err}
use Rattle.captures.specs.declared.fault.FaultKind.{FaultKind}
use Rattle.captures.specs.declared.front.Front.{Front}
use Rattle.captures.specs.declared.front.TheConstants.{MOST_CAPTURED}
use Rattle.captures.specs.declared.front.Front.TheVariants.{Short, Header, Declared, Other, Captured}

-- a part is at least a byte long, a packet is whole and not too long, and no more than 1 MiB is
-- ever needed
abbrev pub IsInReach : List ℕ → Front → Type 0
IsInReach bytes (Short needed) = (length bytes < needed) × (needed ≤ 1048576)
IsInReach bytes (Header format size) = (0 < size) × (size ≤ length bytes)
IsInReach bytes (Declared interface size) = (0 < size) × (size ≤ length bytes)
IsInReach bytes (Other size) = 0 < size
IsInReach bytes (Captured packet size) =
    (0 < size) × (size ≤ length bytes) × (packet.start + packet.captured ≤ size) × (packet.captured ≤ MOST_CAPTURED)

-- this number of bytes settles it: it is whole, or more than those are needed
abbrev pub IsSettledBy : ℕ → Result Front FaultKind → Type 0
IsSettledBy count (Err fault) = Unit {0}
IsSettledBy count (Ok (Short needed)) = count < needed
IsSettledBy count (Ok (Header format size)) = Unit {0}
IsSettledBy count (Ok (Declared interface size)) = Unit {0}
IsSettledBy count (Ok (Other size)) = Unit {0}
IsSettledBy count (Ok (Captured packet size)) = Unit {0}

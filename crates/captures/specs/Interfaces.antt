-- The block that declares an interface: a link type, 2 reserved bytes and a snap length, and then
-- options.
use Rattle.std.specs.Prelude.{ℕ, ◌-◌, List, length, slice_range, Result, Ok}
use Rattle.captures.specs.declared.fault.FaultKind.{FaultKind}
use Rattle.captures.specs.declared.front.Front.{Front}
use Rattle.captures.specs.declared.front.Front.TheVariants.{Declared}
use Rattle.captures.specs.declared.interface.CaptureInterface.{CaptureInterface}
use Rattle.captures.specs.declared.order.Order.{Order}
use Rattle.captures.specs.declared.time.Timing.{Timing}
use Rattle.captures.specs.Numbers.{number_at}
use Rattle.captures.specs.Options.{timing_of}
use Rattle.captures.specs.Steps.{and_then}

abbrev pub interface_of : Order → List ℕ → Timing → CaptureInterface
interface_of order block timing = record {
  link = number_at order 2 8 block;
  snap_length = number_at order 4 12 block;
  timing = timing;
}

-- for a whole block; its options lie between the snap length and the total length at the end
abbrev pub interface_front : Order → List ℕ → Result Front FaultKind
interface_front order block =
    and_then (timing_of order (slice_range block 16 (length block - 4))) (λ timing. Ok (Declared (interface_of order block timing) (length block)))

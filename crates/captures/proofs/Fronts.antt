-- The item at the start of bytes, and its packet.
use Rattle.std.proofs.Common.{ℕ, zero, suc, ◌≡◌, ◌+◌, ◌-◌, ◌≤◌, Bool, true, false, List, ◌++◌, length, take, drop, Option, Some, None, Result, Ok, Err, refl, ap, ◌∙◌, arith, length-take}
use Rattle.std.specs.Prelude.{nat_lt, if◌then◌else◌, MatchResult, ◌||◌, ◌==◌, not, slice_range}
use Rattle.captures.specs.Options.{timing_of}
use Rattle.std.proofs.lemmas.Bool.{ltb-false}
use Rattle.std.proofs.lemmas.List.{take-append-le, drop-append-le, length-drop}
use Rattle.captures.specs.declared.fault.FaultKind.{FaultKind}
use Rattle.captures.specs.Blocks.{section_front, content_front, read_front, front_by_kind, block_front}
use Rattle.captures.specs.Frames.{frame_of}
use Rattle.captures.specs.Interfaces.{interface_front}
use Rattle.captures.specs.Opening.{header_front, is_section, opening_front}
use Rattle.captures.specs.Packets.{is_too_long, timed_at, timed_in, timed_of, simple_in, simple_of, simple_captured, units_in}
use Rattle.captures.specs.Pcap.{magic_of, packet_front, file_front, captured_field}
use Rattle.captures.specs.Reading.{CaptureState, front_of, front_in}
use Rattle.captures.specs.Numbers.{number_at}
use Rattle.captures.specs.Times.{time_of}
use Rattle.captures.specs.Runs.{ShownPacket, shown_of}
use Rattle.captures.specs.Steps.{and_then}

-- the packet of an item does not depend on the bytes that follow
pub record IsShownBy {F : Type 0} (show : F → List ℕ → List ShownPacket) (bytes : List ℕ) (r : Result F FaultKind) : Type 0 where
  pub same : MatchResult r (λ front. (more : List ℕ) → show front (bytes ++ more) ≡ show front bytes) (λ _. Unit {0})

module _ {F : Type 0} (show : F → List ℕ → List ShownPacket) (bytes : List ℕ) where
  by_test : (test : Bool) (x y : Result F FaultKind) → IsShownBy show bytes x → (test ≡ false → IsShownBy show bytes y) → IsShownBy show bytes (if test then x else y)
  by_test true x y shown other = shown
  by_test false x y shown other = other refl

  by_step : {A : Type 0} (r : Result A FaultKind) (step : A → Result F FaultKind) → ((a : A) → IsShownBy show bytes (step a)) → IsShownBy show bytes (and_then r step)
  by_step (Ok a) step each = each a
  by_step (Err fault) step each = record { same = tt }

-- a part of bytes that lies within them
within : (count start : ℕ) (bytes more : List ℕ) → count ≤ length bytes - start → take count (drop start (bytes ++ more)) ≡ take count (drop start bytes)
within zero start bytes more fits = refl
within (suc n) start bytes more fits =
    ap (take (suc n)) (drop-append-le start bytes more (omega arith)) ∙ take-append-le (suc n) (drop start bytes) more (omega (arith, length-drop start bytes))

packet_shown : (file : _) (bytes : List ℕ) → IsShownBy shown_of bytes (packet_front file bytes)
packet_shown file bytes =
    by_test shown_of bytes (nat_lt (length bytes) 16) _ _ (record { same = λ more. refl }) (λ _.
    by_test shown_of bytes (nat_lt 262144 (captured_field file bytes)) _ _ (record { same = tt }) (λ _.
    by_test shown_of bytes (nat_lt (length bytes) (16 + captured_field file bytes)) _ _ (record { same = λ more. refl }) (λ e.
    let fits : captured_field file bytes ≤ length bytes - 16 = omega (arith, ltb-false _ _ e) in
    record { same = λ more. rw (within (captured_field file bytes) 16 bytes more fits) refl })))

file_shown : (magic : _) (bytes : List ℕ) → IsShownBy shown_of bytes (file_front magic bytes)
file_shown magic bytes =
    by_test shown_of bytes (nat_lt (length bytes) 24) _ _ (record { same = λ more. refl }) (λ _.
    by_test shown_of bytes (not (number_at magic.order 2 4 bytes == 2)) _ _ (record { same = tt }) (λ _. record { same = λ more. refl }))

header_shown : (found : _) (bytes : List ℕ) → IsShownBy shown_of bytes (header_front found bytes)
header_shown None bytes = record { same = tt }
header_shown (Some magic) bytes = file_shown magic bytes

enough : (test other : Bool) (captured room : ℕ) → nat_lt room captured ≡ test → (test || other) ≡ false → captured ≤ room
enough true other captured room is whole = cc
enough false other captured room is whole = ltb-false room captured is

short_enough : (captured room : ℕ) → is_too_long captured room ≡ false → captured ≤ room
short_enough captured room e = enough (nat_lt room captured) _ captured room refl e

-- for the first bytes, and so for all
timed_shown : (size : ℕ) (order interface : _) (bytes : List ℕ) → IsShownBy shown_of bytes (timed_in order interface (take size bytes))
timed_shown size order interface bytes =
    by_test shown_of bytes (is_too_long (number_at order 4 20 (take size bytes)) (length (take size bytes) - 32)) _ _ (record { same = tt }) (λ e.
    by_time (time_of interface.timing (units_in order (take size bytes))) (short_enough _ _ e)) where
      by_time : (time : Option ℕ) → number_at order 4 20 (take size bytes) ≤ length (take size bytes) - 32 → IsShownBy shown_of bytes (timed_at order interface (take size bytes) time)
      by_time None short = record { same = tt }
      by_time (Some time) short = record {
        same = λ more.
            rw (within (number_at order 4 20 (take size bytes)) 28 bytes more (omega (arith, short, length-take size bytes))) refl;
      }

timed_by : (size : ℕ) (order found : _) (bytes : List ℕ) → IsShownBy shown_of bytes (timed_of order found (take size bytes))
timed_by size order None bytes = record { same = tt }
timed_by size order (Some interface) bytes = timed_shown size order interface bytes

simple_shown : (size : ℕ) (order interface : _) (bytes : List ℕ) → IsShownBy shown_of bytes (simple_in order interface (take size bytes))
simple_shown size order interface bytes =
    by_test shown_of bytes (is_too_long (simple_captured order interface (take size bytes)) (length (take size bytes) - 16)) _ _ (record { same = tt }) (λ e.
    let short = short_enough (simple_captured order interface (take size bytes)) (length (take size bytes) - 16) e in
    record { same = λ more. rw (within (simple_captured order interface (take size bytes)) 12 bytes more (omega (arith, length-take size bytes, short))) refl })

simple_by : (size : ℕ) (order found : _) (bytes : List ℕ) → IsShownBy shown_of bytes (simple_of order found (take size bytes))
simple_by size order None bytes = record { same = tt }
simple_by size order (Some interface) bytes = simple_shown size order interface bytes

section_shown : (order : _) (bytes block : List ℕ) → IsShownBy shown_of bytes (section_front order block)
section_shown order bytes block = by_test shown_of bytes (not (number_at order 2 12 block == 1)) _ _ (record { same = tt }) (λ _. record { same = λ more. refl })

interface_shown : (order : _) (bytes block : List ℕ) → IsShownBy shown_of bytes (interface_front order block)
interface_shown order bytes block = by_step shown_of bytes (timing_of order (slice_range block 16 (length block - 4))) _ (λ timing. record { same = λ more. refl })

content_shown : (kind order interfaces : _) (size : ℕ) (bytes : List ℕ) → IsShownBy shown_of bytes (content_front kind order interfaces (take size bytes))
content_shown kind order interfaces size bytes =
    grind (arith, section_shown order bytes (take size bytes), interface_shown order bytes (take size bytes), timed_by size order, simple_by size order)

read_shown : (frame interfaces : _) (bytes : List ℕ) → IsShownBy shown_of bytes (read_front frame interfaces bytes)
read_shown frame interfaces bytes =
    by_test shown_of bytes (nat_lt (length bytes) frame.length) _ _ (record { same = λ more. refl }) (λ _.
    by_test shown_of bytes (not (number_at frame.order 4 (frame.length - 4) bytes == frame.length)) _ _ (record { same = tt }) (λ _.
    content_shown frame.kind frame.order interfaces frame.length bytes))

kind_shown : (kind : _) (size : ℕ) (front : Result _ FaultKind) (bytes : List ℕ) → IsShownBy shown_of bytes front → IsShownBy shown_of bytes (front_by_kind kind size front)
kind_shown kind size front bytes shown = grind arith

block_shown : (order interfaces : _) (bytes : List ℕ) → IsShownBy shown_of bytes (block_front order interfaces bytes)
block_shown order interfaces bytes =
    by_test shown_of bytes (nat_lt (length bytes) 12) _ _ (record { same = λ more. refl }) (λ _.
    by_step shown_of bytes (frame_of order bytes) _ (λ frame. kind_shown frame.kind frame.length _ bytes (read_shown frame interfaces bytes)))

opening_shown : (bytes : List ℕ) → IsShownBy shown_of bytes (opening_front bytes)
opening_shown bytes =
    by_test shown_of bytes (nat_lt (length bytes) 4) _ _ (record { same = λ more. refl }) (λ _.
    by_test shown_of bytes (is_section bytes) _ _ (search (block_shown)) (λ _. header_shown (magic_of bytes) bytes))

pub front_shown : (s : CaptureState) (bytes : List ℕ) → IsShownBy shown_of bytes (front_of s bytes)
front_shown s bytes = by_format s.format s.interfaces where
  by_format : (format interfaces : _) → IsShownBy shown_of bytes (front_in format interfaces bytes)
  by_format format interfaces = grind (arith, opening_shown bytes, (λ (file : _). packet_shown file bytes), (λ (order : _). block_shown order interfaces bytes))

-- The item at the start of bytes stays if more bytes follow them: blocks, and the whole.
use Rattle.std.proofs.Common.{◌≡◌, ℕ, ◌-◌, ◌≤◌, Bool, true, false, ◌||◌, not, List, [], ◌++◌, length, Option, None, Some, Result, Ok, Err, refl, ap, ◌∙◌, arith, length-append}
use Rattle.std.specs.Prelude.{nat_lt, ◌==◌, ◌%◌, if◌then◌else◌, IfOk}
use Rattle.std.proofs.lemmas.Bool.{ltb-false}
use Rattle.std.proofs.lemmas.List.{take-append-le}
use Rattle.captures.specs.declared.fault.FaultKind.{FaultKind}
use Rattle.captures.specs.declared.frame.BlockKind.{BlockKind}
use Rattle.captures.specs.declared.frame.BlockKind.TheVariants.{Section, Interface, Obsolete, Simple, Enhanced, Other}
use Rattle.captures.specs.declared.frame.Frame.{Frame}
use Rattle.captures.specs.declared.front.CaptureFormat.{CaptureFormat}
use Rattle.captures.specs.declared.front.Front.{Front}
use Rattle.captures.specs.declared.interface.CaptureInterface.{CaptureInterface as Port}
use Rattle.captures.specs.declared.order.Order.{Order}
use Rattle.captures.specs.declared.order.Order.TheVariants.{Big, Little}
use Rattle.captures.specs.declared.pcap.Magic.{Magic}
use Rattle.captures.specs.Blocks.{block_front, read_front, front_by_kind}
use Rattle.captures.specs.Frames.{frame_of, frame_by, order_of, section_order, kind_in, is_wrong_length, least_length, most_length}
use Rattle.captures.specs.Fronts.{IsSettledBy}
use Rattle.captures.specs.Numbers.{number_at}
use Rattle.captures.specs.Opening.{opening_front, header_front, is_section}
use Rattle.captures.specs.Pcap.{magic_of}
use Rattle.captures.specs.Reading.{CaptureState, front_of, front_in}
use Rattle.captures.specs.Steps.{and_then}
use Rattle.captures.proofs.Steady.{number_at-append, after_short, file_steady, packet_steady}

-- ---- frames

section_order-append : (bytes more : List ℕ) → 12 ≤ length bytes → section_order (bytes ++ more) ≡ section_order bytes
section_order-append bytes more long =
    rw (number_at-append Big 4 8 bytes more (omega (arith, long)), number_at-append Little 4 8 bytes more (omega (arith, long))) refl

order_of-append : (kind : BlockKind) (order : Order) (bytes more : List ℕ) → 12 ≤ length bytes → order_of kind order (bytes ++ more) ≡ order_of kind order bytes
order_of-append Section order bytes more long = section_order-append bytes more long
order_of-append Interface order bytes more long = refl
order_of-append Obsolete order bytes more long = refl
order_of-append Simple order bytes more long = refl
order_of-append Enhanced order bytes more long = refl
order_of-append Other order bytes more long = refl

and_then_same : {A B : Type 0} (r : Result A FaultKind) (f g : A → Result B FaultKind) → ((x : A) → f x ≡ g x) → and_then r f ≡ and_then r g
and_then_same (Ok x) f g same = same x
and_then_same (Err e) f g same = refl

frame_of-append : (order : Order) (bytes more : List ℕ) → 12 ≤ length bytes → frame_of order (bytes ++ more) ≡ frame_of order bytes
frame_of-append order bytes more long =
    rw (number_at-append order 4 0 bytes more (omega (arith, long)), order_of-append (kind_in order bytes) order bytes more long)
    (and_then_same (order_of (kind_in order bytes) order bytes) _ _ (λ own. ap (frame_by (kind_in order bytes) own) (number_at-append own 4 4 bytes more (omega (arith, long)))))

least_12 : (kind : BlockKind) → 12 ≤ least_length kind
least_12 Section = omega arith
least_12 Interface = omega arith
least_12 Obsolete = omega arith
least_12 Simple = omega arith
least_12 Enhanced = omega arith
least_12 Other = omega arith

is_least : (whole low high : Bool) → (not whole || low || high) ≡ false → low ≡ false
is_least true false high e = refl
is_least true true high e = absurd cc
is_least false low high e = absurd cc

frame_by_long : (kind : BlockKind) (own : Order) (size : ℕ) → IfOk (frame_by kind own size) (λ frame. 12 ≤ frame.length)
frame_by_long kind own size =
    let by_test : (b : Bool) → is_wrong_length kind size ≡ b → IfOk (let r : Result Frame FaultKind = if b then Err FaultKind.BlockLength else Ok (record { kind = kind; order = own; length = size }) in r) (λ frame. 12 ≤ frame.length) = λ b. elim b as (λ v. is_wrong_length kind size ≡ v → IfOk (let r : Result Frame FaultKind = if v then Err FaultKind.BlockLength else Ok (record { kind = kind; order = own; length = size }) in r) (λ frame. 12 ≤ frame.length)) [
      | true ↦ λ e. tt
      | false ↦ λ e. omega (arith, ltb-false size (least_length kind) (is_least (size % 4 == 0) (nat_lt size (least_length kind)) (nat_lt (most_length kind) size) e), least_12 kind)
    ] in
    by_test (is_wrong_length kind size) refl

then_long : (r : Result Order FaultKind) (f : Order → Result Frame FaultKind) → ((own : Order) → IfOk (f own) (λ frame. 12 ≤ frame.length)) → IfOk (and_then r f) (λ frame. 12 ≤ frame.length)
then_long (Ok own) f all = all own
then_long (Err fault) f all = tt

frame_of_long : (order : Order) (bytes : List ℕ) → IfOk (frame_of order bytes) (λ frame. 12 ≤ frame.length)
frame_of_long order bytes = then_long (order_of (kind_in order bytes) order bytes) _ (λ own. frame_by_long (kind_in order bytes) own (number_at own 4 4 bytes))

-- ---- blocks

read_steady : (frame : Frame) (interfaces : List Port) (bytes more : List ℕ) → 12 ≤ frame.length → IsSettledBy (length (bytes ++ more)) (read_front frame interfaces bytes) → read_front frame interfaces (bytes ++ more) ≡ read_front frame interfaces bytes
read_steady frame interfaces bytes more least settled =
    after_short (length bytes) (length (bytes ++ more)) frame.length _ _ (omega (arith, length-append bytes more)) (λ long _.
    rw (number_at-append frame.order 4 (frame.length - 4) bytes more (omega (arith, long, least)), take-append-le frame.length bytes more long) refl
    ) settled

kind_steady : (kind : BlockKind) (size count : ℕ) (x y : Result Front FaultKind) → (IsSettledBy count x → y ≡ x) → IsSettledBy count (front_by_kind kind size x) → front_by_kind kind size y ≡ front_by_kind kind size x
kind_steady Section size count x y same settled = same settled
kind_steady Interface size count x y same settled = same settled
kind_steady Obsolete size count x y same settled = same settled
kind_steady Simple size count x y same settled = same settled
kind_steady Enhanced size count x y same settled = same settled
kind_steady Other size count x y same settled = refl

then_steady : (count : ℕ) (r : Result Frame FaultKind) (f g : Frame → Result Front FaultKind) → IfOk r (λ frame. 12 ≤ frame.length)
    → ((frame : Frame) → 12 ≤ frame.length → IsSettledBy count (f frame) → g frame ≡ f frame)
    → IsSettledBy count (and_then r f) → and_then r g ≡ and_then r f
then_steady count (Ok frame) f g long same settled = same frame long settled
then_steady count (Err fault) f g long same settled = refl

pub block_steady : (order : Order) (interfaces : List Port) (bytes more : List ℕ) → IsSettledBy (length (bytes ++ more)) (block_front order interfaces bytes) → block_front order interfaces (bytes ++ more) ≡ block_front order interfaces bytes
block_steady order interfaces bytes more settled =
    after_short (length bytes) (length (bytes ++ more)) 12 _ _ (omega (arith, length-append bytes more)) (λ long whole.
    rw (frame_of-append order bytes more long)
    (then_steady (length (bytes ++ more)) (frame_of order bytes) _ _ (frame_of_long order bytes) (λ frame least inner.
    kind_steady frame.kind frame.length (length (bytes ++ more)) _ _ (read_steady frame interfaces bytes more least) inner
    ) whole)
    ) settled

-- ---- the first bytes

header_steady : (magic : Option Magic) (bytes more : List ℕ) → IsSettledBy (length (bytes ++ more)) (header_front magic bytes) → header_front magic (bytes ++ more) ≡ header_front magic bytes
header_steady (Some magic) bytes more settled = file_steady magic bytes more settled
header_steady None bytes more settled = refl

either_steady : (test : Bool) (count : ℕ) (x1 x2 y1 y2 : Result Front FaultKind) → (IsSettledBy count x1 → y1 ≡ x1) → (IsSettledBy count x2 → y2 ≡ x2)
    → IsSettledBy count (if test then x1 else x2) → (if test then y1 else y2) ≡ (if test then x1 else x2)
either_steady true count x1 x2 y1 y2 first second settled = first settled
either_steady false count x1 x2 y1 y2 first second settled = second settled

is_section-append : (bytes more : List ℕ) → 4 ≤ length bytes → is_section (bytes ++ more) ≡ is_section bytes
is_section-append bytes more long = ap (λ n. n == 0x0A0D0D0A) (number_at-append Big 4 0 bytes more (omega (arith, long)))

magic_of-append : (bytes more : List ℕ) → 4 ≤ length bytes → magic_of (bytes ++ more) ≡ magic_of bytes
magic_of-append bytes more long =
    rw (number_at-append Big 4 0 bytes more (omega (arith, long)), number_at-append Little 4 0 bytes more (omega (arith, long))) refl

opening_steady : (bytes more : List ℕ) → IsSettledBy (length (bytes ++ more)) (opening_front bytes) → opening_front (bytes ++ more) ≡ opening_front bytes
opening_steady bytes more settled =
    after_short (length bytes) (length (bytes ++ more)) 4 _ _ (omega (arith, length-append bytes more)) (λ long whole.
    ap (λ test. if test then block_front Big [] (bytes ++ more) else header_front (magic_of (bytes ++ more)) (bytes ++ more)) (is_section-append bytes more long)
    ∙ ap (λ magic. if is_section bytes then block_front Big [] (bytes ++ more) else header_front magic (bytes ++ more)) (magic_of-append bytes more long)
    ∙ either_steady (is_section bytes) (length (bytes ++ more)) _ _ _ _ (block_steady Big [] bytes more) (header_steady (magic_of bytes) bytes more) whole
    ) settled

format_steady : (format : CaptureFormat) (interfaces : List Port) (bytes more : List ℕ) → IsSettledBy (length (bytes ++ more)) (front_in format interfaces bytes) → front_in format interfaces (bytes ++ more) ≡ front_in format interfaces bytes
format_steady CaptureFormat.Unread interfaces bytes more settled = opening_steady bytes more settled
format_steady (CaptureFormat.Pcap file) interfaces bytes more settled = packet_steady file bytes more settled
format_steady (CaptureFormat.Section order) interfaces bytes more settled = block_steady order interfaces bytes more settled

pub front_steady : (s : CaptureState) (bytes more : List ℕ) → IsSettledBy (length (bytes ++ more)) (front_of s bytes) → front_of s (bytes ++ more) ≡ front_of s bytes
front_steady s bytes more settled = format_steady s.format s.interfaces bytes more settled

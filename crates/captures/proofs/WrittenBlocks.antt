-- A pcapng that is written is read as it.
use Rattle.std.proofs.Common.{◌≡◌, ℕ, ◌+◌, ◌-◌, ◌*◌, ◌/◌, ◌%◌, ◌^◌, ◌<◌, ◌≤◌, Bool, false, List, ◌++◌, length, drop, None, Some, Result, Ok, Err, refl, sym, ap, subst, ◌∙◌, arith, lit<, length-append}
use Rattle.std.specs.Prelude.{if◌then◌else◌}
use Rattle.std.specs.List.{slice_get}
use Rattle.std.proofs.lemmas.Bool.{le-ltb}
use Rattle.captures.specs.declared.fault.FaultKind.{FaultKind}
use Rattle.captures.specs.declared.frame.BlockKind.{BlockKind}
use Rattle.captures.specs.declared.front.CaptureFormat.{CaptureFormat}
use Rattle.captures.specs.declared.front.Front.{Front}
use Rattle.captures.specs.declared.front.Front.TheVariants.{Captured}
use Rattle.captures.specs.declared.front.TheConstants.{MOST_CAPTURED}
use Rattle.captures.specs.declared.interface.CaptureInterface.{CaptureInterface}
use Rattle.captures.specs.declared.order.Order.{Order}
use Rattle.captures.specs.declared.order.Order.TheVariants.{Big, Little}
use Rattle.captures.specs.Numbers.{number_at}
use Rattle.captures.specs.Packets.{is_too_long, snapped, timed_at, timed_in, timed_of, units_in, simple_in, simple_of}
use Rattle.captures.specs.Reading.{CaptureState, front_in}
use Rattle.captures.specs.Times.{time_of}
use Rattle.captures.specs.Writing.{number_bytes}
use Rattle.captures.specs.WritingBlocks.{block_bytes, TimedPacket, IsLegalTimed, timed_as, enhanced_body, obsolete_body, simple_body, ReadsEnhanced, ReadsObsolete, ReadsSimple}
use Rattle.captures.proofs.Written.{again}
use Rattle.captures.proofs.WrittenFrames.{length-number_bytes, length-block_bytes, in_body, IsBlockAt, block_written, IsReadAs, block_read}

-- the type of a block is read again
type_written : (order : Order) (type : ℕ) (body rest : List ℕ) → type < 2 ^ 32 → number_at order 4 0 (block_bytes order type body ++ rest) ≡ type
type_written Big type body rest fits = again Big 4 type (drop 4 (block_bytes Big type body ++ rest)) fits
type_written Little type body rest fits = again Little 4 type (drop 4 (block_bytes Little type body ++ rest)) fits

-- ---- packets with a time

-- the body from the time on, after the first 4 bytes
pub record HasTimed (order : Order) (p : TimedPacket) (body : List ℕ) : Type 0 where
  pub high : number_at order 4 4 body ≡ p.units / 4294967296
  pub low : number_at order 4 8 body ≡ p.units % 4294967296
  pub captured : number_at order 4 12 body ≡ length p.bytes
  pub wire_length : number_at order 4 16 body ≡ p.wire_length
  pub long : 20 + length p.bytes ≤ length body

enhanced_fields : (order : Order) (p : TimedPacket) → IsLegalTimed p → HasTimed order p (enhanced_body order p)
enhanced_fields Big p legal = record {
  high = again Big 4 (p.units / 4294967296) (drop 8 (enhanced_body Big p)) (omega (arith, legal.units));
  low = again Big 4 (p.units % 4294967296) (drop 12 (enhanced_body Big p)) (omega arith);
  captured = again Big 4 (length p.bytes) (drop 16 (enhanced_body Big p)) (omega (arith, legal.bytes));
  wire_length = again Big 4 p.wire_length (drop 20 (enhanced_body Big p)) legal.wire_length;
  long = omega (arith, length-append p.bytes p.behind);
}
enhanced_fields Little p legal = record {
  high = again Little 4 (p.units / 4294967296) (drop 8 (enhanced_body Little p)) (omega (arith, legal.units));
  low = again Little 4 (p.units % 4294967296) (drop 12 (enhanced_body Little p)) (omega arith);
  captured = again Little 4 (length p.bytes) (drop 16 (enhanced_body Little p)) (omega (arith, legal.bytes));
  wire_length = again Little 4 p.wire_length (drop 20 (enhanced_body Little p)) legal.wire_length;
  long = omega (arith, length-append p.bytes p.behind);
}

obsolete_fields : (order : Order) (drops : ℕ) (p : TimedPacket) → IsLegalTimed p → HasTimed order p (obsolete_body order drops p)
obsolete_fields Big drops p legal = record {
  high = again Big 4 (p.units / 4294967296) (drop 8 (obsolete_body Big drops p)) (omega (arith, legal.units));
  low = again Big 4 (p.units % 4294967296) (drop 12 (obsolete_body Big drops p)) (omega arith);
  captured = again Big 4 (length p.bytes) (drop 16 (obsolete_body Big drops p)) (omega (arith, legal.bytes));
  wire_length = again Big 4 p.wire_length (drop 20 (obsolete_body Big drops p)) legal.wire_length;
  long = omega (arith, length-append p.bytes p.behind);
}
obsolete_fields Little drops p legal = record {
  high = again Little 4 (p.units / 4294967296) (drop 8 (obsolete_body Little drops p)) (omega (arith, legal.units));
  low = again Little 4 (p.units % 4294967296) (drop 12 (obsolete_body Little drops p)) (omega arith);
  captured = again Little 4 (length p.bytes) (drop 16 (obsolete_body Little drops p)) (omega (arith, legal.bytes));
  wire_length = again Little 4 p.wire_length (drop 20 (obsolete_body Little drops p)) legal.wire_length;
  long = omega (arith, length-append p.bytes p.behind);
}

fits_room : (captured room : ℕ) → captured ≤ room → captured ≤ MOST_CAPTURED → is_too_long captured room ≡ false
fits_room captured room fits short = rw (le-ltb room captured fits, le-ltb MOST_CAPTURED captured short) refl

timed_with : (order : Order) (interface : CaptureInterface) (block : List ℕ) (high low : ℕ) (p : TimedPacket) (size time : ℕ)
    → number_at order 4 12 block ≡ high → number_at order 4 16 block ≡ low → number_at order 4 20 block ≡ length p.bytes → number_at order 4 24 block ≡ p.wire_length
    → high * 4294967296 + low ≡ p.units → length block ≡ size → is_too_long (length p.bytes) (size - 32) ≡ false → time_of interface.timing p.units ≡ Some time
    → timed_in order interface block ≡ timed_as interface time p size
timed_with order interface block high low p size time e12 e16 e20 e24 units long short is_time =
    let room : is_too_long (number_at order 4 20 block) (length block - 32) ≡ false = rw (e20, long) short in
    let counted : units_in order block ≡ p.units = rw (e12, e16) units in
    let by_test : Bool → Result Front FaultKind = λ b. if b then Err FaultKind.PacketLength else timed_at order interface block (time_of interface.timing (units_in order block)) in
    let there : timed_at order interface block (Some time) ≡ timed_as interface time p size = rw (e24, e20, long) refl in
    ap by_test room
    ∙ ap (λ u. timed_at order interface block (time_of interface.timing u)) counted
    ∙ ap (timed_at order interface block) is_time
    ∙ there

timed_read : (order : Order) (type : ℕ) (body : List ℕ) (p : TimedPacket) (interface : CaptureInterface) (time : ℕ) → IsLegalTimed p → HasTimed order p body → time_of interface.timing p.units ≡ Some time
    → timed_in order interface (block_bytes order type body) ≡ timed_as interface time p (12 + length body)
timed_read order type body p interface time legal has is_time =
    let block = block_bytes order type body in
    let size : length block ≡ 12 + length body = length-block_bytes order type body in
    let high : number_at order 4 12 block ≡ p.units / 4294967296 = in_body order type body 4 4 (omega (arith, has.long)) ∙ has.high in
    let low : number_at order 4 16 block ≡ p.units % 4294967296 = in_body order type body 4 8 (omega (arith, has.long)) ∙ has.low in
    let captured : number_at order 4 20 block ≡ length p.bytes = in_body order type body 4 12 (omega (arith, has.long)) ∙ has.captured in
    let wire : number_at order 4 24 block ≡ p.wire_length = in_body order type body 4 16 (omega (arith, has.long)) ∙ has.wire_length in
    let units : p.units / 4294967296 * 4294967296 + p.units % 4294967296 ≡ p.units = omega arith in
    let short = fits_room (length p.bytes) (12 + length body - 32) (omega (arith, has.long)) legal.bytes in
    timed_with order interface block (p.units / 4294967296) (p.units % 4294967296) p (12 + length body) time high low captured wire units size short is_time

read_enhanced : (size : ℕ) → 32 ≤ size → IsReadAs BlockKind.Enhanced size
read_enhanced size long = record { passes = λ x. refl; least = long; most = refl }

read_obsolete : (size : ℕ) → 32 ≤ size → IsReadAs BlockKind.Obsolete size
read_obsolete size long = record { passes = λ x. refl; least = long; most = refl }

enhanced_number : (order : Order) (p : TimedPacket) → p.number < 2 ^ 32 → number_at order 4 0 (enhanced_body order p) ≡ p.number
enhanced_number Big p fits = again Big 4 p.number (drop 4 (enhanced_body Big p)) fits
enhanced_number Little p fits = again Little 4 p.number (drop 4 (enhanced_body Little p)) fits

obsolete_number : (order : Order) (drops : ℕ) (p : TimedPacket) → p.number < 2 ^ 16 → number_at order 2 0 (obsolete_body order drops p) ≡ p.number
obsolete_number Big drops p fits = again Big 2 p.number (drop 2 (obsolete_body Big drops p)) fits
obsolete_number Little drops p fits = again Little 2 p.number (drop 2 (obsolete_body Little drops p)) fits

pub enhanced_written : (s : CaptureState) (bytes : List ℕ) → ReadsEnhanced s bytes
enhanced_written s bytes order p interface time rest format legal number found is_time body text =
    let own = enhanced_body order p in
    let has = enhanced_fields order p legal in
    let kind : number_at order 4 0 bytes ≡ 6 = ap (number_at order 4 0) text ∙ type_written order 6 own rest (lit< tt) in
    let at : IsBlockAt order 6 own bytes = subst (IsBlockAt order 6 own) (sym text) (block_written order 6 own rest (omega (arith, body.fits))) in
    let named : number_at order 4 8 (block_bytes order 6 own) ≡ p.number = in_body order 6 own 4 0 (omega (arith, has.long)) ∙ enhanced_number order p number in
    ap (λ (f : CaptureFormat). front_in f s.interfaces bytes) format
    ∙ block_read order order s.interfaces 6 BlockKind.Enhanced own bytes kind refl refl at (read_enhanced (12 + length own) (omega (arith, has.long))) body
    ∙ ap (λ n. timed_of order (slice_get s.interfaces n) (block_bytes order 6 own)) named
    ∙ ap (λ i. timed_of order i (block_bytes order 6 own)) found
    ∙ timed_read order 6 own p interface time legal has is_time

pub obsolete_written : (s : CaptureState) (bytes : List ℕ) → ReadsObsolete s bytes
obsolete_written s bytes order drops p interface time rest format legal number found is_time body text =
    let own = obsolete_body order drops p in
    let has = obsolete_fields order drops p legal in
    let kind : number_at order 4 0 bytes ≡ 2 = ap (number_at order 4 0) text ∙ type_written order 2 own rest (lit< tt) in
    let at : IsBlockAt order 2 own bytes = subst (IsBlockAt order 2 own) (sym text) (block_written order 2 own rest (omega (arith, body.fits))) in
    let named : number_at order 2 8 (block_bytes order 2 own) ≡ p.number = in_body order 2 own 2 0 (omega (arith, has.long)) ∙ obsolete_number order drops p number in
    ap (λ (f : CaptureFormat). front_in f s.interfaces bytes) format
    ∙ block_read order order s.interfaces 2 BlockKind.Obsolete own bytes kind refl refl at (read_obsolete (12 + length own) (omega (arith, has.long))) body
    ∙ ap (λ n. timed_of order (slice_get s.interfaces n) (block_bytes order 2 own)) named
    ∙ ap (λ i. timed_of order i (block_bytes order 2 own)) found
    ∙ timed_read order 2 own p interface time legal has is_time

-- ---- simple packets

simple_number : (order : Order) (wire_length : ℕ) (packet behind : List ℕ) → wire_length < 2 ^ 32 → number_at order 4 0 (simple_body order wire_length packet behind) ≡ wire_length
simple_number Big wire_length packet behind fits = again Big 4 wire_length (packet ++ behind) fits
simple_number Little wire_length packet behind fits = again Little 4 wire_length (packet ++ behind) fits

length-simple_body : (order : Order) (wire_length : ℕ) (packet behind : List ℕ) → length (simple_body order wire_length packet behind) ≡ 4 + length packet + length behind
length-simple_body order wire_length packet behind =
    omega (arith, length-append (number_bytes order 4 wire_length ++ packet) behind, length-append (number_bytes order 4 wire_length) packet, length-number_bytes order 4 wire_length)

read_simple : (size : ℕ) → 16 ≤ size → IsReadAs BlockKind.Simple size
read_simple size long = record { passes = λ x. refl; least = long; most = refl }

simple_with : (order : Order) (interface : CaptureInterface) (block packet : List ℕ) (wire_length size : ℕ)
    → number_at order 4 8 block ≡ wire_length → length block ≡ size → length packet ≡ snapped interface.snap_length wire_length → is_too_long (length packet) (size - 16) ≡ false
    → simple_in order interface block ≡ Ok (Captured (record { time = None; link = interface.link; wire_length = wire_length; start = 12; captured = length packet }) size)
simple_with order interface block packet wire_length size e8 long cut short =
    rw (e8, long, sym cut, short) refl

pub simple_written : (s : CaptureState) (bytes : List ℕ) → ReadsSimple s bytes
simple_written s bytes order wire_length packet behind interface rest format fits short cut found body text =
    let own = simple_body order wire_length packet behind in
    let long = length-simple_body order wire_length packet behind in
    let kind : number_at order 4 0 bytes ≡ 3 = ap (number_at order 4 0) text ∙ type_written order 3 own rest (lit< tt) in
    let at : IsBlockAt order 3 own bytes = subst (IsBlockAt order 3 own) (sym text) (block_written order 3 own rest (omega (arith, body.fits))) in
    let wire : number_at order 4 8 (block_bytes order 3 own) ≡ wire_length = in_body order 3 own 4 0 (omega (arith, long)) ∙ simple_number order wire_length packet behind fits in
    ap (λ (f : CaptureFormat). front_in f s.interfaces bytes) format
    ∙ block_read order order s.interfaces 3 BlockKind.Simple own bytes kind refl refl at (read_simple (12 + length own) (omega (arith, long))) body
    ∙ ap (λ i. simple_of order i (block_bytes order 3 own)) found
    ∙ simple_with order interface (block_bytes order 3 own) packet wire_length (12 + length own) wire (length-block_bytes order 3 own) cut (fits_room (length packet) (12 + length own - 16) (omega (arith, long)) short)

-- A pcap that is written is read as it.
use Rattle.std.proofs.Common.{◌≡◌, ℕ, ◌+◌, ◌*◌, ◌%◌, ◌^◌, ◌<◌, ◌≤◌, false, List, ◌++◌, length, drop, Some, Ok, refl, sym, ap, subst, ◌∙◌, arith, length-append}
use Rattle.std.proofs.lemmas.Bool.{le-ltb}
use Rattle.byteorder.specs.Numbers.{big_number-reads_back, little_number-reads_back}
use Rattle.captures.specs.declared.front.Front.TheVariants.{Captured, Header}
use Rattle.captures.specs.declared.front.CaptureFormat.{CaptureFormat}
use Rattle.captures.specs.declared.front.TheConstants.{MOST_CAPTURED}
use Rattle.captures.specs.declared.order.Order.{Order}
use Rattle.captures.specs.declared.order.Order.TheVariants.{Big, Little}
use Rattle.captures.specs.declared.pcap.Fraction.{Fraction}
use Rattle.captures.specs.declared.pcap.Fraction.TheVariants.{Micro, Nano}
use Rattle.captures.specs.declared.pcap.PcapFile.{PcapFile}
use Rattle.captures.specs.Numbers.{number_of, number_at}
use Rattle.captures.specs.Opening.{opening_front, is_section}
use Rattle.captures.specs.Pcap.{packet_front, nanoseconds_of, magic_of}
use Rattle.captures.specs.Reading.{CaptureState, front_in}
use Rattle.captures.specs.Writing.{number_bytes, FilePacket, IsLegalFilePacket, file_packet_bytes, ReadsFilePacket, FileHeader, file_bytes, ReadsFileHeader}

-- a number that was written is read again
pub again : (order : Order) (size number : ℕ) (rest : List ℕ) → number < 256 ^ size → number_of order size (number_bytes order size number ++ rest) ≡ number
again Big size number rest fits = big_number-reads_back size number rest fits
again Little size number rest fits = little_number-reads_back size number rest fits

-- ---- packets of a pcap

pub record HasFilePacket (order : Order) (p : FilePacket) (bytes : List ℕ) : Type 0 where
  pub seconds : number_at order 4 0 bytes ≡ p.seconds
  pub fraction : number_at order 4 4 bytes ≡ p.fraction
  pub captured : number_at order 4 8 bytes ≡ length p.bytes
  pub wire_length : number_at order 4 12 bytes ≡ p.wire_length
  pub long : 16 + length p.bytes ≤ length bytes

packet_fields : (order : Order) (p : FilePacket) (rest : List ℕ) → IsLegalFilePacket p → HasFilePacket order p (file_packet_bytes order p ++ rest)
packet_fields Big p rest legal = record {
  seconds = again Big 4 p.seconds (drop 4 (file_packet_bytes Big p ++ rest)) legal.seconds;
  fraction = again Big 4 p.fraction (drop 8 (file_packet_bytes Big p ++ rest)) legal.fraction;
  captured = again Big 4 (length p.bytes) (drop 12 (file_packet_bytes Big p ++ rest)) (omega (arith, legal.bytes));
  wire_length = again Big 4 p.wire_length (drop 16 (file_packet_bytes Big p ++ rest)) legal.wire_length;
  long = omega (arith, length-append p.bytes rest);
}
packet_fields Little p rest legal = record {
  seconds = again Little 4 p.seconds (drop 4 (file_packet_bytes Little p ++ rest)) legal.seconds;
  fraction = again Little 4 p.fraction (drop 8 (file_packet_bytes Little p ++ rest)) legal.fraction;
  captured = again Little 4 (length p.bytes) (drop 12 (file_packet_bytes Little p ++ rest)) (omega (arith, legal.bytes));
  wire_length = again Little 4 p.wire_length (drop 16 (file_packet_bytes Little p ++ rest)) legal.wire_length;
  long = omega (arith, length-append p.bytes rest);
}

packet_read : (file : PcapFile) (p : FilePacket) (bytes : List ℕ) → length p.bytes ≤ MOST_CAPTURED → HasFilePacket file.magic.order p bytes
    → packet_front file bytes ≡ Ok (Captured (record {
      time = Some (nanoseconds_of file.magic.fraction p.seconds p.fraction);
      link = file.link;
      wire_length = p.wire_length;
      start = 16;
      captured = length p.bytes;
    }) (16 + length p.bytes))
packet_read file p bytes short has =
    rw (le-ltb (length bytes) 16 (omega (arith, has.long)), has.captured, has.seconds, has.fraction, has.wire_length, le-ltb MOST_CAPTURED (length p.bytes) short, le-ltb (length bytes) (16 + length p.bytes) has.long) refl

pub packet_written : (s : CaptureState) (bytes : List ℕ) → ReadsFilePacket s bytes
packet_written s bytes file p rest format legal text =
    ap (λ (f : CaptureFormat). front_in f s.interfaces bytes) format ∙ packet_read file p bytes legal.bytes (subst (HasFilePacket file.magic.order p) (sym text) (packet_fields file.magic.order p rest legal))

-- ---- the header of a pcap

pub record HasFileHeader (h : FileHeader) (bytes : List ℕ) : Type 0 where
  pub section : is_section bytes ≡ false
  pub magic : magic_of bytes ≡ Some h.magic
  pub version : number_at h.magic.order 2 4 bytes ≡ 2
  pub link : number_at h.magic.order 4 20 bytes ≡ h.high * 65536 + h.link
  pub long : 24 ≤ length bytes

abbrev header_of : Order → Fraction → (minor reserved snap_length link high : ℕ) → FileHeader
header_of order fraction minor reserved snap_length link high =
    record { magic = record { order = order; fraction = fraction }; minor = minor; reserved = reserved; snap_length = snap_length; link = link; high = high }

header_fields : (order : Order) (fraction : Fraction) (minor reserved snap_length link high : ℕ) (rest : List ℕ) → link < 2 ^ 16 → high < 2 ^ 16
    → HasFileHeader (header_of order fraction minor reserved snap_length link high) (file_bytes (header_of order fraction minor reserved snap_length link high) ++ rest)
header_fields Big Micro minor reserved snap_length link high rest low top = record {
  section = refl;
  magic = refl;
  version = refl;
  link = again Big 4 (high * 65536 + link) rest (omega arith);
  long = omega arith;
}
header_fields Big Nano minor reserved snap_length link high rest low top = record {
  section = refl;
  magic = refl;
  version = refl;
  link = again Big 4 (high * 65536 + link) rest (omega arith);
  long = omega arith;
}
header_fields Little Micro minor reserved snap_length link high rest low top = record {
  section = refl;
  magic = refl;
  version = refl;
  link = again Little 4 (high * 65536 + link) rest (omega arith);
  long = omega arith;
}
header_fields Little Nano minor reserved snap_length link high rest low top = record {
  section = refl;
  magic = refl;
  version = refl;
  link = again Little 4 (high * 65536 + link) rest (omega arith);
  long = omega arith;
}

low_half : (high link : ℕ) → link < 2 ^ 16 → (high * 65536 + link) % 65536 ≡ link
low_half high link fits = omega arith

header_read : (h : FileHeader) (bytes : List ℕ) → h.link < 2 ^ 16 → HasFileHeader h bytes
    → opening_front bytes ≡ Ok (Header (CaptureFormat.Pcap (record { magic = h.magic; link = h.link })) 24)
header_read h bytes fits has =
    rw (le-ltb (length bytes) 4 (omega (arith, has.long)), has.section, has.magic, le-ltb (length bytes) 24 has.long, has.version, has.link, low_half h.high h.link fits) refl

pub header_written : (s : CaptureState) (bytes : List ℕ) → ReadsFileHeader s bytes
header_written s bytes h rest format low top text =
    ap (λ (f : CaptureFormat). front_in f s.interfaces bytes) format
    ∙ header_read h bytes low (subst (HasFileHeader h) (sym text) (header_fields h.magic.order h.magic.fraction h.minor h.reserved h.snap_length h.link h.high rest low top))

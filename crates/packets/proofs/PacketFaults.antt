-- The first fault of a packet.
use Rattle.std.proofs.Common.{◌≡◌, ◌≢◌, ℕ, ◌-◌, ◌<◌, ◌≤◌, Bool, true, false, not, List, [], ◌∷◌, length, take, drop, Option, Some, None, refl, sym, ap, ◌∙◌, arith}
use Rattle.std.proofs.lemmas.Bool.{lt-ltb, le-ltb, eq-eqb, ne_eqb}
use Rattle.std.proofs.lemmas.List.{drop-take}
use Rattle.std.specs.Prelude.{◌==◌, nat_lt, is_none}
use Rattle.ospf_types.specs.FirstOf.{first_of}
use Rattle.packets.specs.declared.fault.PacketFault.{PacketFault}
use Rattle.packets.specs.declared.fault.PacketFault.TheVariants.{Short, Version, Kind, Length, Checksum}
use Rattle.packets.specs.Packets.{packet_fault_of, version_field, kind_field, length_field, kind_of_number, is_wrong_length, has_wrong_sum, packet_in, body_field}

-- the five tests
abbrev tested : (short version kind size sum : Bool) → Option PacketFault
tested short version kind size sum = first_of ((short, Short) ∷ (version, Version) ∷ (kind, Kind) ∷ (size, Length) ∷ (sum, Checksum) ∷ [])

abbrev tested_in : List ℕ → Option PacketFault
tested_in bytes = tested (nat_lt (length bytes) 24) (not (version_field bytes == 2)) (is_none (kind_of_number (kind_field bytes))) (is_wrong_length (length_field bytes) (length bytes)) (has_wrong_sum (packet_in bytes))

tests_are : (bytes : List ℕ) → packet_fault_of bytes ≡ tested_in bytes
unfolding packet_fault_of
tests_are bytes = refl

pub is_short : (bytes : List ℕ) → length bytes < 24 → packet_fault_of bytes ≡ Some Short
is_short bytes short = tests_are bytes ∙ (rw (lt-ltb _ _ short) refl)

-- what is known of bytes past each test
pub record HasVersion (bytes : List ℕ) : Type 0 where
  pub long : 24 ≤ length bytes
  pub version : version_field bytes ≡ 2

pub record HasKind (bytes : List ℕ) : Type 0 where
  pub version : HasVersion bytes
  pub kind : is_none (kind_of_number (kind_field bytes)) ≡ false

pub record HasLength (bytes : List ℕ) : Type 0 where
  pub kind : HasKind bytes
  pub size : is_wrong_length (length_field bytes) (length bytes) ≡ false

pub has_other_version : (bytes : List ℕ) → 24 ≤ length bytes → version_field bytes ≢ 2 → packet_fault_of bytes ≡ Some Version
has_other_version bytes long other = tests_are bytes ∙ (rw (le-ltb _ _ long, ne_eqb _ _ other) refl)

pub has_no_kind : (bytes : List ℕ) → HasVersion bytes → kind_of_number (kind_field bytes) ≡ None → packet_fault_of bytes ≡ Some Kind
has_no_kind bytes known none = tests_are bytes ∙ (rw (le-ltb _ _ known.long, eq-eqb _ _ known.version, none) refl)

pub has_wrong_length : (bytes : List ℕ) → HasKind bytes → is_wrong_length (length_field bytes) (length bytes) ≡ true → packet_fault_of bytes ≡ Some Length
has_wrong_length bytes known wrong =
    tests_are bytes ∙ (rw (le-ltb _ _ known.version.long, eq-eqb _ _ known.version.version, known.kind, wrong) refl)

pub has_fault_in_sum : (bytes : List ℕ) → HasLength bytes → has_wrong_sum (packet_in bytes) ≡ true → packet_fault_of bytes ≡ Some Checksum
has_fault_in_sum bytes known wrong =
    tests_are bytes ∙ (rw (le-ltb _ _ known.kind.version.long, eq-eqb _ _ known.kind.version.version, known.kind.kind, known.size, wrong) refl)

pub has_no_fault : (bytes : List ℕ) → HasLength bytes → has_wrong_sum (packet_in bytes) ≡ false → packet_fault_of bytes ≡ None
has_no_fault bytes known right =
    tests_are bytes ∙ (rw (le-ltb _ _ known.kind.version.long, eq-eqb _ _ known.kind.version.version, known.kind.kind, known.size, right) refl)

-- the bytes between the header and the packet's length
pub body_is : (bytes : List ℕ) (size : ℕ) → 24 ≤ size → size ≡ length_field bytes → take (size - 24) (drop 24 bytes) ≡ body_field bytes
body_is bytes size long is =
    sym (drop-take 24 (size - 24) bytes) ∙ ap (λ (n : ℕ). drop 24 (take n bytes)) (omega (arith, long, is))

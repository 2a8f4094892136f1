-- The first fault of bytes, test by test.
use Rattle.std.proofs.Common.{◌≡◌, ◌≤◌, ℕ, ◌+◌, Bool, true, false, ltb, List, [], ◌∷◌, length, Some, None, refl, ◌∙◌, arith}
use Rattle.std.proofs.lemmas.Grind.{common_steps}
use Rattle.ospf_types.specs.FirstOf.{first_of}
use Rattle.packets.proofs.Choices.{or_false}
use Rattle.packets.specs.declared.datagram_fault.DatagramFault.{DatagramFault}
use Rattle.packets.specs.declared.datagram_fault.DatagramFault.TheVariants.{Header, Length, Fragment}
use Rattle.packets.specs.Layout.{FitsDatagram, fault_of, has_wrong_header, has_wrong_length, is_wrong_fragment, header_length, total_length, payload_length, offset_field}

here : (test : Bool) (fault : DatagramFault) (tests : List (Bool × DatagramFault)) → test ≡ true → Some fault ≡ first_of ((test, fault) ∷ tests)
here true fault tests e = refl
here false fault tests e = absurd cc

later : (test : Bool) (fault : DatagramFault) (tests : List (Bool × DatagramFault)) → test ≡ false → first_of tests ≡ first_of ((test, fault) ∷ tests)
later true fault tests e = absurd cc
later false fault tests e = refl

-- what there is where none of them holds
none_here : (test : Bool) (fault : DatagramFault) (tests : List (Bool × DatagramFault)) → first_of ((test, fault) ∷ tests) ≡ None → (test ≡ false) × (first_of tests ≡ None)
none_here true fault tests e = absurd cc
none_here false fault tests e = (refl, e)

abbrev third : List ℕ → List (Bool × DatagramFault)
third bytes = (is_wrong_fragment bytes, Fragment) ∷ []

abbrev second : List ℕ → List (Bool × DatagramFault)
second bytes = (has_wrong_length bytes, Length) ∷ third bytes

pub is_header : (bytes : List ℕ) → has_wrong_header bytes ≡ true → Some Header ≡ fault_of bytes
unfolding fault_of
is_header bytes e = here (has_wrong_header bytes) Header (second bytes) e

pub is_length : (bytes : List ℕ) → has_wrong_header bytes ≡ false → has_wrong_length bytes ≡ true → Some Length ≡ fault_of bytes
unfolding fault_of
is_length bytes e f = here (has_wrong_length bytes) Length (third bytes) f ∙ later (has_wrong_header bytes) Header (second bytes) e

pub is_fragment : (bytes : List ℕ) → has_wrong_header bytes ≡ false → has_wrong_length bytes ≡ false → is_wrong_fragment bytes ≡ true → Some Fragment ≡ fault_of bytes
unfolding fault_of
is_fragment bytes e f g =
    here (is_wrong_fragment bytes) Fragment [] g ∙ later (has_wrong_length bytes) Length (third bytes) f ∙ later (has_wrong_header bytes) Header (second bytes) e

pub is_none : (bytes : List ℕ) → has_wrong_header bytes ≡ false → has_wrong_length bytes ≡ false → is_wrong_fragment bytes ≡ false → None ≡ fault_of bytes
unfolding fault_of
is_none bytes e f g =
    later (is_wrong_fragment bytes) Fragment [] g ∙ later (has_wrong_length bytes) Length (third bytes) f ∙ later (has_wrong_header bytes) Header (second bytes) e

-- ---- what bytes without a fault have room for

no_more : (a b : ℕ) → ltb a b ≡ false → b ≤ a
no_more a b e = grind (arith, common_steps)

pub has_room : (bytes : List ℕ) → fault_of bytes ≡ None → FitsDatagram bytes
unfolding fault_of
has_room bytes none =
    let first = none_here (has_wrong_header bytes) Header (second bytes) none in
    let next = none_here (has_wrong_length bytes) Length (third bytes) first.1 in
    let last = none_here (is_wrong_fragment bytes) Fragment [] next.1 in
    let cut = or_false _ (ltb (length bytes) (header_length bytes)) first.0 in
    let short = or_false _ (ltb (header_length bytes) 20) cut.0 in
    let lengths = or_false (ltb (total_length bytes) (header_length bytes)) (ltb (length bytes) (total_length bytes)) next.0 in
    let ends = or_false _ (ltb 65535 (offset_field bytes + payload_length bytes)) last.0 in
    record {
      header = no_more _ _ short.1;
      total = no_more _ _ lengths.0;
      whole = no_more _ _ lengths.1;
      ends = no_more _ _ ends.1;
    }

-- The first test that holds, of a list of tests.
use Rattle.std.proofs.Common.{◌≡◌, ℕ, Bool, true, false, not, eqb, ltb, List, [], ◌∷◌, Some, None, refl, sym, ◌∙◌}
use Rattle.lsa_codec.specs.declared.findings.Findings.{Findings}
use Rattle.lsa_codec.specs.declared.fault.WireFault.{WireFault}
use Rattle.lsa_codec.specs.declared.fault.WireFault.TheVariants.{Length, Checksum, Age, Sequence, Kind, Reserved, Mask, RouterId, LinkType, Shape}
use Rattle.lsa_codec.specs.Checksum.{is_sound}
use Rattle.ospf_types.specs.FirstOf.{first_of}
use Rattle.lsa_codec.specs.Faults.{is_wrong_length, age_field, sequence_field, kind_field, id_field, router_field, is_unknown_kind, is_other_router, found_in, body_fault_of, fault_of}

here : (test : Bool) (fault : WireFault) (tests : List (Bool × WireFault)) → test ≡ true → first_of ((test, fault) ∷ tests) ≡ Some fault
here true fault tests e = refl
here false fault tests e = absurd cc

later : (test : Bool) (fault : WireFault) (tests : List (Bool × WireFault)) → test ≡ false → first_of ((test, fault) ∷ tests) ≡ first_of tests
later true fault tests e = absurd cc
later false fault tests e = refl

-- what there is where none of them holds
none_here : (test : Bool) (fault : WireFault) (tests : List (Bool × WireFault)) → first_of ((test, fault) ∷ tests) ≡ None → (test ≡ false) × (first_of tests ≡ None)
none_here true fault tests e = absurd cc
none_here false fault tests e = (refl, e)

abbrev from_11 : List ℕ → List (Bool × WireFault)
from_11 bytes = []

abbrev from_10 : List ℕ → List (Bool × WireFault)
from_10 bytes = ((found_in bytes).shape, Shape) ∷ from_11 bytes

abbrev from_9 : List ℕ → List (Bool × WireFault)
from_9 bytes = ((found_in bytes).link_type, LinkType) ∷ from_10 bytes

abbrev from_8 : List ℕ → List (Bool × WireFault)
from_8 bytes = (is_other_router (kind_field bytes) (id_field bytes) (router_field bytes), RouterId) ∷ from_9 bytes

abbrev from_7 : List ℕ → List (Bool × WireFault)
from_7 bytes = ((found_in bytes).mask, Mask) ∷ from_8 bytes

abbrev from_6 : List ℕ → List (Bool × WireFault)
from_6 bytes = ((found_in bytes).reserved, Reserved) ∷ from_7 bytes

abbrev from_5 : List ℕ → List (Bool × WireFault)
from_5 bytes = (is_unknown_kind (kind_field bytes), Kind) ∷ from_6 bytes

abbrev from_4 : List ℕ → List (Bool × WireFault)
from_4 bytes = (eqb (sequence_field bytes) 0x8000_0000, Sequence) ∷ from_5 bytes

abbrev from_3 : List ℕ → List (Bool × WireFault)
from_3 bytes = (ltb 3600 (age_field bytes), Age) ∷ from_4 bytes

abbrev from_2 : List ℕ → List (Bool × WireFault)
from_2 bytes = (not (is_sound bytes), Checksum) ∷ from_3 bytes

abbrev from_1 : List ℕ → List (Bool × WireFault)
from_1 bytes = (is_wrong_length bytes, Length) ∷ from_2 bytes

pub is_length : (bytes : List ℕ) → is_wrong_length bytes ≡ true → Some Length ≡ fault_of bytes
unfolding fault_of
is_length bytes e1 =
    sym (here (is_wrong_length bytes) Length (from_2 bytes) e1)

pub is_checksum : (bytes : List ℕ) → is_wrong_length bytes ≡ false → not (is_sound bytes) ≡ true → Some Checksum ≡ fault_of bytes
unfolding fault_of
is_checksum bytes e1 e2 =
    sym (later (is_wrong_length bytes) Length (from_2 bytes) e1
    ∙ here (not (is_sound bytes)) Checksum (from_3 bytes) e2)

pub is_age : (bytes : List ℕ) → is_wrong_length bytes ≡ false → not (is_sound bytes) ≡ false → ltb 3600 (age_field bytes) ≡ true → Some Age ≡ fault_of bytes
unfolding fault_of
is_age bytes e1 e2 e3 =
    sym (later (is_wrong_length bytes) Length (from_2 bytes) e1
    ∙ later (not (is_sound bytes)) Checksum (from_3 bytes) e2
    ∙ here (ltb 3600 (age_field bytes)) Age (from_4 bytes) e3)

pub is_sequence : (bytes : List ℕ) → is_wrong_length bytes ≡ false → not (is_sound bytes) ≡ false → ltb 3600 (age_field bytes) ≡ false → eqb (sequence_field bytes) 0x8000_0000 ≡ true → Some Sequence ≡ fault_of bytes
unfolding fault_of
is_sequence bytes e1 e2 e3 e4 =
    sym (later (is_wrong_length bytes) Length (from_2 bytes) e1
    ∙ later (not (is_sound bytes)) Checksum (from_3 bytes) e2
    ∙ later (ltb 3600 (age_field bytes)) Age (from_4 bytes) e3
    ∙ here (eqb (sequence_field bytes) 0x8000_0000) Sequence (from_5 bytes) e4)

pub is_kind : (bytes : List ℕ) → is_wrong_length bytes ≡ false → not (is_sound bytes) ≡ false → ltb 3600 (age_field bytes) ≡ false → eqb (sequence_field bytes) 0x8000_0000 ≡ false → is_unknown_kind (kind_field bytes) ≡ true → Some Kind ≡ fault_of bytes
unfolding fault_of
is_kind bytes e1 e2 e3 e4 e5 =
    sym (later (is_wrong_length bytes) Length (from_2 bytes) e1
    ∙ later (not (is_sound bytes)) Checksum (from_3 bytes) e2
    ∙ later (ltb 3600 (age_field bytes)) Age (from_4 bytes) e3
    ∙ later (eqb (sequence_field bytes) 0x8000_0000) Sequence (from_5 bytes) e4
    ∙ here (is_unknown_kind (kind_field bytes)) Kind (from_6 bytes) e5)

pub is_reserved : (bytes : List ℕ) → (found_in bytes).reserved ≡ true → Some Reserved ≡ body_fault_of bytes
unfolding body_fault_of
is_reserved bytes e6 =
    sym (here (found_in bytes).reserved Reserved (from_7 bytes) e6)

pub is_mask : (bytes : List ℕ) → (found_in bytes).reserved ≡ false → (found_in bytes).mask ≡ true → Some Mask ≡ body_fault_of bytes
unfolding body_fault_of
is_mask bytes e6 e7 =
    sym (later (found_in bytes).reserved Reserved (from_7 bytes) e6
    ∙ here (found_in bytes).mask Mask (from_8 bytes) e7)

pub is_routerid : (bytes : List ℕ) → (found_in bytes).reserved ≡ false → (found_in bytes).mask ≡ false → is_other_router (kind_field bytes) (id_field bytes) (router_field bytes) ≡ true → Some RouterId ≡ body_fault_of bytes
unfolding body_fault_of
is_routerid bytes e6 e7 e8 =
    sym (later (found_in bytes).reserved Reserved (from_7 bytes) e6
    ∙ later (found_in bytes).mask Mask (from_8 bytes) e7
    ∙ here (is_other_router (kind_field bytes) (id_field bytes) (router_field bytes)) RouterId (from_9 bytes) e8)

pub is_linktype : (bytes : List ℕ) → (found_in bytes).reserved ≡ false → (found_in bytes).mask ≡ false → is_other_router (kind_field bytes) (id_field bytes) (router_field bytes) ≡ false → (found_in bytes).link_type ≡ true → Some LinkType ≡ body_fault_of bytes
unfolding body_fault_of
is_linktype bytes e6 e7 e8 e9 =
    sym (later (found_in bytes).reserved Reserved (from_7 bytes) e6
    ∙ later (found_in bytes).mask Mask (from_8 bytes) e7
    ∙ later (is_other_router (kind_field bytes) (id_field bytes) (router_field bytes)) RouterId (from_9 bytes) e8
    ∙ here (found_in bytes).link_type LinkType (from_10 bytes) e9)

pub is_shape : (bytes : List ℕ) → (found_in bytes).reserved ≡ false → (found_in bytes).mask ≡ false → is_other_router (kind_field bytes) (id_field bytes) (router_field bytes) ≡ false → (found_in bytes).link_type ≡ false → (found_in bytes).shape ≡ true → Some Shape ≡ body_fault_of bytes
unfolding body_fault_of
is_shape bytes e6 e7 e8 e9 e10 =
    sym (later (found_in bytes).reserved Reserved (from_7 bytes) e6
    ∙ later (found_in bytes).mask Mask (from_8 bytes) e7
    ∙ later (is_other_router (kind_field bytes) (id_field bytes) (router_field bytes)) RouterId (from_9 bytes) e8
    ∙ later (found_in bytes).link_type LinkType (from_10 bytes) e9
    ∙ here (found_in bytes).shape Shape (from_11 bytes) e10)

pub is_none_of_body : (bytes : List ℕ) → (found_in bytes).reserved ≡ false → (found_in bytes).mask ≡ false → is_other_router (kind_field bytes) (id_field bytes) (router_field bytes) ≡ false → (found_in bytes).link_type ≡ false → (found_in bytes).shape ≡ false → None ≡ body_fault_of bytes
unfolding body_fault_of
is_none_of_body bytes e6 e7 e8 e9 e10 =
    sym (later (found_in bytes).reserved Reserved (from_7 bytes) e6
    ∙ later (found_in bytes).mask Mask (from_8 bytes) e7
    ∙ later (is_other_router (kind_field bytes) (id_field bytes) (router_field bytes)) RouterId (from_9 bytes) e8
    ∙ later (found_in bytes).link_type LinkType (from_10 bytes) e9
    ∙ later (found_in bytes).shape Shape (from_11 bytes) e10)

pub is_of_body : (bytes : List ℕ) → is_wrong_length bytes ≡ false → not (is_sound bytes) ≡ false → ltb 3600 (age_field bytes) ≡ false → eqb (sequence_field bytes) 0x8000_0000 ≡ false → is_unknown_kind (kind_field bytes) ≡ false → body_fault_of bytes ≡ fault_of bytes
unfolding fault_of body_fault_of
is_of_body bytes e1 e2 e3 e4 e5 =
    sym (later (is_wrong_length bytes) Length (from_2 bytes) e1
    ∙ later (not (is_sound bytes)) Checksum (from_3 bytes) e2
    ∙ later (ltb 3600 (age_field bytes)) Age (from_4 bytes) e3
    ∙ later (eqb (sequence_field bytes) 0x8000_0000) Sequence (from_5 bytes) e4
    ∙ later (is_unknown_kind (kind_field bytes)) Kind (from_6 bytes) e5)

-- nothing is found
pub record IsClear (f : Findings) : Type 0 where
  pub reserved : f.reserved ≡ false
  pub mask : f.mask ≡ false
  pub link_type : f.link_type ≡ false
  pub shape : f.shape ≡ false

-- no fault: no test holds
pub record HasNone (bytes : List ℕ) : Type 0 where
  pub long : is_wrong_length bytes ≡ false
  pub sound : not (is_sound bytes) ≡ false
  pub age : ltb 3600 (age_field bytes) ≡ false
  pub sequence : eqb (sequence_field bytes) 0x8000_0000 ≡ false
  pub kind : is_unknown_kind (kind_field bytes) ≡ false
  pub own : is_other_router (kind_field bytes) (id_field bytes) (router_field bytes) ≡ false
  pub found : IsClear (found_in bytes)

pub none_holds : (bytes : List ℕ) → fault_of bytes ≡ None → HasNone bytes
unfolding fault_of
none_holds bytes e =
    let t1 = none_here (is_wrong_length bytes) Length (from_2 bytes) e in
    let t2 = none_here (not (is_sound bytes)) Checksum (from_3 bytes) t1.1 in
    let t3 = none_here (ltb 3600 (age_field bytes)) Age (from_4 bytes) t2.1 in
    let t4 = none_here (eqb (sequence_field bytes) 0x8000_0000) Sequence (from_5 bytes) t3.1 in
    let t5 = none_here (is_unknown_kind (kind_field bytes)) Kind (from_6 bytes) t4.1 in
    let t6 = none_here (found_in bytes).reserved Reserved (from_7 bytes) t5.1 in
    let t7 = none_here (found_in bytes).mask Mask (from_8 bytes) t6.1 in
    let t8 = none_here (is_other_router (kind_field bytes) (id_field bytes) (router_field bytes)) RouterId (from_9 bytes) t7.1 in
    let t9 = none_here (found_in bytes).link_type LinkType (from_10 bytes) t8.1 in
    let t10 = none_here (found_in bytes).shape Shape (from_11 bytes) t9.1 in
    record { long = t1.0; sound = t2.0; age = t3.0; sequence = t4.0; kind = t5.0; own = t8.0; found = record { reserved = t6.0; mask = t7.0; link_type = t9.0; shape = t10.0 } }

pub no_fault : (bytes : List ℕ) → HasNone bytes → fault_of bytes ≡ None
unfolding fault_of
no_fault bytes h =
    later (is_wrong_length bytes) Length (from_2 bytes) h.long
    ∙ later (not (is_sound bytes)) Checksum (from_3 bytes) h.sound
    ∙ later (ltb 3600 (age_field bytes)) Age (from_4 bytes) h.age
    ∙ later (eqb (sequence_field bytes) 0x8000_0000) Sequence (from_5 bytes) h.sequence
    ∙ later (is_unknown_kind (kind_field bytes)) Kind (from_6 bytes) h.kind
    ∙ later (found_in bytes).reserved Reserved (from_7 bytes) h.found.reserved
    ∙ later (found_in bytes).mask Mask (from_8 bytes) h.found.mask
    ∙ later (is_other_router (kind_field bytes) (id_field bytes) (router_field bytes)) RouterId (from_9 bytes) h.own
    ∙ later (found_in bytes).link_type LinkType (from_10 bytes) h.found.link_type
    ∙ later (found_in bytes).shape Shape (from_11 bytes) h.found.shape

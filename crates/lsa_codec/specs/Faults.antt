-- Why bytes are refused: the first that holds of a list of tests.
use Rattle.std.specs.Prelude.{ℕ, zero, suc, ◌+◌, ◌*◌, ◌-◌, ◌^◌, ◌/◌, ◌%◌, ◌==◌, Bool, true, false, ◌&&◌, ◌||◌, not, nat_lt, nat_le, if◌then◌else◌, List, [], ◌∷◌, length, drop, slice_index, Option}
use Rattle.std.specs.List.{list_any}
use Rattle.byteorder.specs.Endian.{big_number}
use Rattle.ospf_types.specs.FirstOf.{first_of}
use Rattle.ospf_types.specs.Lsa.{MaxAge}
use Rattle.ospf_types.specs.Masks.{mask_length}
use Rattle.lsa_codec.specs.Checksum.{is_sound}
use Rattle.lsa_codec.specs.declared.findings.Findings.{Findings}
use Rattle.lsa_codec.specs.declared.fault.WireFault.{WireFault}
use Rattle.lsa_codec.specs.declared.fault.WireFault.TheVariants.{Length, Checksum, Age, Sequence, Kind, Reserved, Mask, RouterId, LinkType, Shape}

-- ---- the header (A.4.1)

abbrev pub age_field : List ℕ → ℕ
age_field bytes = big_number 2 bytes

abbrev pub options_field : List ℕ → ℕ
options_field bytes = slice_index bytes 2

abbrev pub kind_field : List ℕ → ℕ
kind_field bytes = slice_index bytes 3

abbrev pub id_field : List ℕ → ℕ
id_field bytes = big_number 4 (drop 4 bytes)

abbrev pub router_field : List ℕ → ℕ
router_field bytes = big_number 4 (drop 8 bytes)

abbrev pub sequence_field : List ℕ → ℕ
sequence_field bytes = big_number 4 (drop 12 bytes)

abbrev pub length_field : List ℕ → ℕ
length_field bytes = big_number 2 (drop 18 bytes)

abbrev pub body_field : List ℕ → List ℕ
body_field bytes = drop 20 bytes

abbrev pub is_wrong_length : List ℕ → Bool
is_wrong_length bytes = nat_lt (length bytes) 20 || not (length_field bytes == length bytes)

-- ones and then zeros: as many ones in front as there are at all
abbrev pub is_mask : ℕ → Bool
is_mask mask = mask == 2 ^ 32 - 2 ^ (32 - mask_length mask)

-- ---- the links of a router-LSA (A.4.2), in their order

pub record RawTos : Type 0 where
  pub tos : ℕ
  pub reserved : ℕ
  pub metric : ℕ

pub record RawLink : Type 0 where
  pub id : ℕ
  pub detail : ℕ
  pub kind : ℕ
  pub metric : ℕ
  pub tos : List RawTos

unfoldable pub raw_entries : ℕ → List ℕ → List RawTos
raw_entries zero bytes = []
raw_entries (suc n) bytes =
    record { tos = slice_index bytes 0; reserved = slice_index bytes 1; metric = big_number 2 (drop 2 bytes) } ∷ raw_entries n (drop 4 bytes)

-- 12 bytes, and 4 for each TOS entry
abbrev pub link_size : List ℕ → ℕ
link_size bytes = 12 + 4 * slice_index bytes 9

abbrev pub is_whole : List ℕ → Bool
is_whole bytes = nat_le (link_size bytes) (length bytes)

abbrev pub raw_link : List ℕ → RawLink
raw_link bytes = record {
  id = big_number 4 bytes;
  detail = big_number 4 (drop 4 bytes);
  kind = slice_index bytes 8;
  metric = big_number 2 (drop 10 bytes);
  tos = raw_entries (slice_index bytes 9) (drop 12 bytes);
}

-- the links met, each of which lies whole in the bytes, and the bytes left after them
pub record Walk : Type 0 where
  pub met : List RawLink
  pub left : List ℕ

abbrev pub after_link : RawLink → Walk → Walk
after_link link w = record { met = link ∷ w.met; left = w.left }

-- the walk stops when as many links were met as are counted
unfoldable pub walk : ℕ → List ℕ → Walk
walk zero bytes = record { met = []; left = bytes }
walk (suc n) bytes =
    if is_whole bytes then after_link (raw_link bytes) (walk n (drop (link_size bytes) bytes)) else record { met = []; left = bytes }

abbrev pub has_reserved_entry : RawLink → Bool
has_reserved_entry link = list_any (λ t. not (t.reserved == 0)) link.tos

abbrev pub has_wrong_mask : RawLink → Bool
has_wrong_mask link = (link.kind == 3) && not (is_mask link.detail)

abbrev pub is_unknown : RawLink → Bool
is_unknown link = nat_lt link.kind 1 || nat_lt 4 link.kind

abbrev pub is_incomplete : ℕ → Walk → Bool
is_incomplete count w = not (length w.met == count) || not (length w.left == 0)

-- ---- bodies
--
-- Records are met by a walk over a body. A record is a link with its TOS entries, a Router ID, a
-- TOS entry or an external record. It is met if it lies whole in what is left of the body. The walk
-- over links stops when as many were met as are counted. A body begins with a fixed part, and if
-- that is not whole nothing of the body is met. The findings of a body are: a byte that has to be
-- zero and is not, a mask that is not valid, a link of unknown type, and a wrong shape. The right
-- shape is a fixed part and whole records.

-- the fixed part of this many bytes is not whole
abbrev pub is_cut : ℕ → List ℕ → Bool
is_cut size body = nat_lt (length body) size

abbrev pub cut_findings : Findings
cut_findings = record { reserved = false; mask = false; link_type = false; shape = true }

-- of records that all have the size: how many are met
abbrev pub count_met : ℕ → List ℕ → ℕ
count_met size bytes = length bytes / size

-- bytes are left over after them
abbrev pub has_left : ℕ → List ℕ → Bool
has_left size bytes = not (length bytes % size == 0)

abbrev pub mask_field : List ℕ → ℕ
mask_field body = big_number 4 body

-- a router-LSA (A.4.2): flags, a reserved byte and the number of links, then the links

abbrev pub count_field : List ℕ → ℕ
count_field body = big_number 2 (drop 2 body)

abbrev pub links_walk : List ℕ → Walk
links_walk body = walk (count_field body) (drop 4 body)

abbrev pub router_findings : List ℕ → Findings
router_findings body =
    if is_cut 4 body then cut_findings else record {
      reserved = not (slice_index body 1 == 0) || list_any has_reserved_entry (links_walk body).met;
      mask = list_any has_wrong_mask (links_walk body).met;
      link_type = list_any is_unknown (links_walk body).met;
      shape = is_incomplete (count_field body) (links_walk body);
    }

-- a network-LSA (A.4.3): a mask, then Router IDs of 4 bytes
abbrev pub network_findings : List ℕ → Findings
network_findings body =
    if is_cut 4 body then cut_findings else record {
      reserved = false;
      mask = not (is_mask (mask_field body));
      link_type = false;
      shape = has_left 4 (drop 4 body);
    }

-- a summary-LSA for a network (A.4.4): a mask, a reserved byte and a metric, then TOS entries of 4
-- bytes
abbrev pub summary_findings : List ℕ → Findings
summary_findings body =
    if is_cut 8 body then cut_findings else record {
      reserved = not (slice_index body 4 == 0);
      mask = not (is_mask (mask_field body));
      link_type = false;
      shape = has_left 4 (drop 8 body);
    }

-- a summary-LSA for an AS boundary router: the same, and the mask is zero
abbrev pub boundary_findings : List ℕ → Findings
boundary_findings body =
    if is_cut 8 body then cut_findings else record {
      reserved = not (slice_index body 4 == 0);
      mask = not (mask_field body == 0);
      link_type = false;
      shape = has_left 4 (drop 8 body);
    }

-- an AS-external-LSA (A.4.5): a mask, then one record or more of 12 bytes. The first is for TOS 0,
-- so that below bit E it has seven zeros.
abbrev pub external_findings : List ℕ → Findings
external_findings body =
    if is_cut 4 body then cut_findings else record {
      reserved = nat_le 16 (length body) && not (slice_index body 4 % 128 == 0);
      mask = not (is_mask (mask_field body));
      link_type = false;
      shape = nat_lt (length body) 16 || has_left 12 (drop 4 body);
    }

-- by LS type, 1 to 5 (A.4.1)
abbrev pub findings_of : ℕ → List ℕ → Findings
findings_of kind body =
    if kind == 1 then router_findings body else (if kind == 2 then network_findings body else (if kind == 3 then summary_findings body else (if kind == 4 then boundary_findings body else external_findings body)))

-- ---- the faults in their order

abbrev pub is_unknown_kind : ℕ → Bool
is_unknown_kind kind = nat_lt kind 1 || nat_lt 5 kind

-- the Link State ID of a router-LSA is its Advertising Router (12.1.4)
abbrev pub is_other_router : ℕ → ℕ → ℕ → Bool
is_other_router kind id router = (kind == 1) && not (id == router)

unfoldable pub found_in : List ℕ → Findings
found_in bytes = findings_of (kind_field bytes) (body_field bytes)

-- those past the LS type
abbrev pub body_tests : List ℕ → List (Bool × WireFault)
body_tests bytes =
    ((found_in bytes).reserved, Reserved)
    ∷ ((found_in bytes).mask, Mask)
    ∷ (is_other_router (kind_field bytes) (id_field bytes) (router_field bytes), RouterId)
    ∷ ((found_in bytes).link_type, LinkType)
    ∷ ((found_in bytes).shape, Shape)
    ∷ []

unfoldable pub body_fault_of : List ℕ → Option WireFault
body_fault_of bytes = first_of (body_tests bytes)

unfoldable pub fault_of : List ℕ → Option WireFault
fault_of bytes = first_of (
    (is_wrong_length bytes, Length)
    ∷ (not (is_sound bytes), Checksum)
    ∷ (nat_lt MaxAge (age_field bytes), Age)
    ∷ (sequence_field bytes == 0x8000_0000, Sequence)
    ∷ (is_unknown_kind (kind_field bytes), Kind)
    ∷ body_tests bytes)

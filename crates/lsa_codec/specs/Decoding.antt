-- The advertisement that bytes stand for.
use Rattle.std.specs.Prelude.{ℕ, zero, suc, ◌%◌, ◌==◌, nat_le, if◌then◌else◌, List, [], ◌∷◌, map, drop, slice_index}
use Rattle.byteorder.specs.Endian.{big_number}
use Rattle.ospf_types.specs.declared.lsa.Header.{Header}
use Rattle.ospf_types.specs.declared.lsa.LinkKind.{LinkKind}
use Rattle.ospf_types.specs.declared.lsa.LinkKind.TheVariants.{PointToPoint, Transit, Stub, Virtual}
use Rattle.ospf_types.specs.Lsa.{Lsa, Body, RouterLinks, NetworkLinks, NetworkSummary, BoundarySummary, AsExternal, RouterLink, Tos, ExternalRecord}
use Rattle.lsa_codec.specs.Checksum.{sum_field}
use Rattle.lsa_codec.specs.Faults.{age_field, options_field, kind_field, id_field, router_field, sequence_field, length_field, body_field, RawTos, RawLink, links_walk, count_met, mask_field}

abbrev pub header_of : List ℕ → Header
header_of bytes = record {
  age = age_field bytes;
  options = options_field bytes;
  kind = kind_field bytes;
  id = id_field bytes;
  router = router_field bytes;
  seq = sequence_field bytes;
  sum = sum_field bytes;
  length = length_field bytes;
}

abbrev pub kind_of_number : ℕ → LinkKind
kind_of_number n =
    if n == 1 then PointToPoint else (if n == 2 then Transit else (if n == 3 then Stub else Virtual))

abbrev pub tos_of : RawTos → Tos
tos_of t = record { tos = t.tos; metric = t.metric }

abbrev pub link_of : RawLink → RouterLink
link_of link = record {
  id = link.id;
  detail = link.detail;
  kind = kind_of_number link.kind;
  metric = link.metric;
  tos = map tos_of link.tos;
}

-- ---- records of one size, each decoded where it stands

abbrev pub records : {A : Type 0} → (List ℕ → A) → ℕ → ℕ → List ℕ → List A
records decode size zero bytes = []
records decode size (suc n) bytes = decode bytes ∷ records decode size n (drop size bytes)

abbrev pub records_met : {A : Type 0} → (List ℕ → A) → ℕ → List ℕ → List A
records_met decode size bytes = records decode size (count_met size bytes) bytes

abbrev pub router_id_at : List ℕ → ℕ
router_id_at bytes = big_number 4 bytes

abbrev pub summary_tos_at : List ℕ → Tos
summary_tos_at bytes = record { tos = slice_index bytes 0; metric = big_number 3 (drop 1 bytes) }

abbrev pub external_at : List ℕ → ExternalRecord
external_at bytes = record {
  is_type_2 = nat_le 128 (slice_index bytes 0);
  tos = slice_index bytes 0 % 128;
  metric = big_number 3 (drop 1 bytes);
  forwarding = big_number 4 (drop 4 bytes);
  tag = big_number 4 (drop 8 bytes);
}

-- ---- bodies

abbrev pub router_body_of : List ℕ → Body
router_body_of body = RouterLinks (slice_index body 0) (map link_of (links_walk body).met)

abbrev pub network_body_of : List ℕ → Body
network_body_of body = NetworkLinks (mask_field body) (records_met router_id_at 4 (drop 4 body))

abbrev pub metric_field : List ℕ → ℕ
metric_field body = big_number 3 (drop 5 body)

abbrev pub summary_body_of : List ℕ → Body
summary_body_of body = NetworkSummary (mask_field body) (metric_field body) (records_met summary_tos_at 4 (drop 8 body))

abbrev pub boundary_body_of : List ℕ → Body
boundary_body_of body = BoundarySummary (metric_field body) (records_met summary_tos_at 4 (drop 8 body))

abbrev pub external_body_of : List ℕ → Body
external_body_of body =
    AsExternal (mask_field body) (external_at (drop 4 body)) (records_met external_at 12 (drop 16 body))

abbrev pub body_of : ℕ → List ℕ → Body
body_of kind body =
    if kind == 1 then router_body_of body else (if kind == 2 then network_body_of body else (if kind == 3 then summary_body_of body else (if kind == 4 then boundary_body_of body else external_body_of body)))

unfoldable pub lsa_of : List ℕ → Lsa
lsa_of bytes = record { header = header_of bytes; body = body_of (kind_field bytes) (body_field bytes) }

-- The facts that the readers of a checked advertisement use.
use Rattle.std.proofs.Common.{zero, suc, get_or, ◌≡◌, ℕ, ◌*◌, ◌/◌, ◌^◌, ◌<◌, ◌≤◌, Bool, true, ◌||◌, eqb, leb, List, [], ◌∷◌, ◌++◌, length, take, drop, Some, None, refl, sym, ap, subst, ◌∙◌, arith}
use Rattle.std.specs.Prelude.{slice_index}
use Rattle.std.specs.List.{flat_map, AllByRecursion}
use Rattle.std.proofs.lemmas.List.{length-drop, drop-drop, nil_from_length, append-nil, take_all}
use Rattle.std.proofs.lemmas.Option.{slice_get_past}
use Rattle.byteorder.specs.Endian.{big_bytes, big_number}
use Rattle.ospf_types.specs.declared.lsa.Header.{Header}
use Rattle.ospf_types.specs.declared.lsa.ExternalFields.{ExternalFields}
use Rattle.ospf_types.specs.Lsa.{Lsa, Body, RouterLinks, NetworkLinks, NetworkSummary, BoundarySummary, AsExternal, RouterLink, kind_of, network_of}
use Rattle.lsa_codec.specs.Spelling.{header_bytes, body_bytes, link_bytes, summary_tos_bytes, record_bytes, spelling, IsMask, IsLegal, IsLegalBody, IsLegalLink, Spells}
use Rattle.lsa_codec.specs.Checksum.{IsSound}
use Rattle.lsa_codec.specs.Faults.{kind_field, fault_of}
use Rattle.lsa_codec.specs.Decoding.{header_of, router_id_at, body_of, lsa_of}
use Rattle.lsa_codec.specs.Readers.{flags_of, links_of, routers_of, listed_at, prefix_in, prefix_of, metric_of, external_of, with_age}
use Rattle.lsa_codec.specs.Kept.{IsKept}
use Rattle.lsa_codec.proofs.Words.{number_again}
use Rattle.lsa_codec.proofs.Masks.{IsMask-fits}
use Rattle.lsa_codec.proofs.Records.{length-records, record_at}
use Rattle.lsa_codec.proofs.RecordBytes.{IsRouterId, router_id_again, flag_again}
use Rattle.lsa_codec.proofs.Again.{spelled_same, spelling_none}

pub kept_header : (bytes : List ℕ) (l : Lsa) → lsa_of bytes ≡ l → header_of bytes ≡ l.header
unfolding lsa_of
kept_header bytes l e = ap (λ (x : Lsa). x.header) e

pub kept_legal : (bytes : List ℕ) (l : Lsa) → lsa_of bytes ≡ l → IsKept bytes → IsLegal l
kept_legal bytes l e kept = subst IsLegal e kept.spells.legal

pub kept_spelled : (bytes : List ℕ) (l : Lsa) → lsa_of bytes ≡ l → IsKept bytes → bytes ≡ spelling l
kept_spelled bytes l e kept = kept.spells.text ∙ ap spelling e

pub kept_body : (bytes : List ℕ) (l : Lsa) → lsa_of bytes ≡ l → IsKept bytes → drop 20 bytes ≡ body_bytes l.body
unfolding spelling
kept_body bytes l e kept = ap (λ (b : List ℕ). drop 20 b) (kept_spelled bytes l e kept)

pub kept_kind : (bytes : List ℕ) (l : Lsa) → lsa_of bytes ≡ l → IsKept bytes → slice_index bytes 3 ≡ kind_of l.body
unfolding spelling
kept_kind bytes l e kept =
    ap (λ (b : List ℕ). slice_index b 3) (kept_spelled bytes l e kept) ∙ (kept_legal bytes l e kept).kind

-- ---- the fields at their places, by the body

-- a router-LSA
flags_in : (h : Header) (b : Body) (bytes : List ℕ) → bytes ≡ header_bytes h ++ body_bytes b → kind_of b ≡ 1 → Some (slice_index bytes 20) ≡ flags_of b
flags_in h (RouterLinks flags links) bytes e one = ap (λ (b : List ℕ). Some (slice_index b 20)) e
flags_in h (NetworkLinks mask routers) bytes e one = absurd (omega (arith, one))
flags_in h (NetworkSummary mask metric tos) bytes e one = absurd (omega (arith, one))
flags_in h (BoundarySummary metric tos) bytes e one = absurd (omega (arith, one))
flags_in h (AsExternal mask first more) bytes e one = absurd (omega (arith, one))

pub kept_flags : (bytes : List ℕ) (l : Lsa) → lsa_of bytes ≡ l → IsKept bytes → kind_of l.body ≡ 1 → Some (slice_index bytes 20) ≡ flags_of l.body
unfolding spelling
kept_flags bytes l e kept one = flags_in l.header l.body bytes (kept_spelled bytes l e kept) one

pub router_of_links : (b : Body) (n : ℕ) → n < length (links_of b) → kind_of b ≡ 1
router_of_links (RouterLinks flags links) n lt = refl
router_of_links (NetworkLinks mask routers) n lt = absurd (omega (arith, lt))
router_of_links (NetworkSummary mask metric tos) n lt = absurd (omega (arith, lt))
router_of_links (BoundarySummary metric tos) n lt = absurd (omega (arith, lt))
router_of_links (AsExternal mask first more) n lt = absurd (omega (arith, lt))

pub record Links (bytes : List ℕ) (links : List RouterLink) : Type 0 where
  pub text : drop 24 bytes ≡ flat_map link_bytes links
  pub count : big_number 2 (drop 22 bytes) ≡ length links
  pub legal : AllByRecursion IsLegalLink links

links_in : (h : Header) (b : Body) (bytes : List ℕ) → bytes ≡ header_bytes h ++ body_bytes b → IsLegalBody h b → kind_of b ≡ 1 → Links bytes (links_of b)
links_in h (RouterLinks flags links) bytes e legal one = record {
  text = ap (λ (b : List ℕ). drop 24 b) e;
  count = ap (λ (b : List ℕ). big_number 2 (drop 22 b)) e ∙ number_again 2 (length links) (flat_map link_bytes links) legal.count;
  legal = legal.links;
}
links_in h (NetworkLinks mask routers) bytes e legal one = absurd (omega (arith, one))
links_in h (NetworkSummary mask metric tos) bytes e legal one = absurd (omega (arith, one))
links_in h (BoundarySummary metric tos) bytes e legal one = absurd (omega (arith, one))
links_in h (AsExternal mask first more) bytes e legal one = absurd (omega (arith, one))

pub kept_router : (bytes : List ℕ) (l : Lsa) → lsa_of bytes ≡ l → IsKept bytes → kind_of l.body ≡ 1 → Links bytes (links_of l.body)
unfolding spelling
kept_router bytes l e kept one =
    links_in l.header l.body bytes (kept_spelled bytes l e kept) (kept_legal bytes l e kept).body one

-- a network-LSA
pub record Routers (bytes : List ℕ) (routers : List ℕ) : Type 0 where
  pub text : drop 24 bytes ≡ flat_map (big_bytes 4) routers
  pub legal : AllByRecursion IsRouterId routers

routers_in : (h : Header) (b : Body) (bytes : List ℕ) → bytes ≡ header_bytes h ++ body_bytes b → IsLegalBody h b → kind_of b ≡ 2 → Routers bytes (routers_of b)
routers_in h (RouterLinks flags links) bytes e legal two = absurd (omega (arith, two))
routers_in h (NetworkLinks mask routers) bytes e legal two = record { text = ap (λ (b : List ℕ). drop 24 b) e; legal = legal.routers }
routers_in h (NetworkSummary mask metric tos) bytes e legal two = absurd (omega (arith, two))
routers_in h (BoundarySummary metric tos) bytes e legal two = absurd (omega (arith, two))
routers_in h (AsExternal mask first more) bytes e legal two = absurd (omega (arith, two))

pub kept_network : (bytes : List ℕ) (l : Lsa) → lsa_of bytes ≡ l → IsKept bytes → kind_of l.body ≡ 2 → Routers bytes (routers_of l.body)
unfolding spelling
kept_network bytes l e kept two =
    routers_in l.header l.body bytes (kept_spelled bytes l e kept) (kept_legal bytes l e kept).body two

-- as many routers as there are fours of bytes
routers_count : (bytes all : List ℕ) (l : Lsa) → lsa_of bytes ≡ l → IsKept bytes → kind_of l.body ≡ 2 → all ≡ drop 24 bytes → length all ≡ length (routers_of l.body) * 4
routers_count bytes all l e kept two is =
    ap length (is ∙ (kept_network bytes l e kept two).text) ∙ length-records (big_bytes 4) 4 router_id_again.long (routers_of l.body)

pub listed_past : (bytes all : List ℕ) (l : Lsa) (n : ℕ) → lsa_of bytes ≡ l → IsKept bytes → kind_of l.body ≡ 2 → all ≡ drop 24 bytes → length all / 4 ≤ n → None ≡ listed_at l.body n
listed_past bytes all l n e kept two is le =
    sym (slice_get_past (routers_of l.body) n (omega (arith, le, routers_count bytes all l e kept two is)))

pub listed_there : (bytes all : List ℕ) (l : Lsa) (n : ℕ) → lsa_of bytes ≡ l → IsKept bytes → kind_of l.body ≡ 2 → all ≡ drop 24 bytes → n < length all / 4 → Some (big_number 4 (drop (4 * n) all)) ≡ listed_at l.body n
listed_there bytes all l n e kept two is lt =
    let routers = kept_network bytes l e kept two in
    let within : n < length (routers_of l.body) = omega (arith, lt, routers_count bytes all l e kept two is) in
    ap (λ (r : List ℕ). Some (big_number 4 (drop (4 * n) r))) (is ∙ routers.text) ∙ sym (record_at (big_bytes 4) router_id_at IsRouterId 4 router_id_again n (routers_of l.body) routers.legal within)

-- a network
abbrev pub is_about_network : ℕ → Bool
is_about_network kind = eqb kind 2 || eqb kind 3 || eqb kind 5

pub network_with : (i m id mask : ℕ) → i ≡ id → m ≡ mask → Some (network_of i m) ≡ Some (network_of id mask)
network_with i m id mask ei em = rw (ei, em) refl

-- the Link State ID is in the header, and the mask in front of the body
network_in : (h : Header) (mask : ℕ) (behind bytes : List ℕ) → bytes ≡ header_bytes h ++ (big_bytes 4 mask ++ behind) → IsMask mask → h.id < 2 ^ 32 → Some (network_of (big_number 4 (drop 4 bytes)) (big_number 4 (drop 20 bytes))) ≡ Some (network_of h.id mask)
network_in h mask behind bytes e legal lt =
    network_with (big_number 4 (drop 4 bytes)) (big_number 4 (drop 20 bytes)) h.id mask
    (ap (λ (b : List ℕ). big_number 4 (drop 4 b)) e ∙ number_again 4 h.id (drop 8 (header_bytes h ++ (big_bytes 4 mask ++ behind))) lt)
    (ap (λ (b : List ℕ). big_number 4 (drop 20 b)) e ∙ number_again 4 mask behind (IsMask-fits mask legal))

prefix_body : (h : Header) (b : Body) (bytes : List ℕ) → bytes ≡ header_bytes h ++ body_bytes b → IsLegalBody h b → h.id < 2 ^ 32 → is_about_network (kind_of b) ≡ true → Some (network_of (big_number 4 (drop 4 bytes)) (big_number 4 (drop 20 bytes))) ≡ prefix_in h.id b
prefix_body h (RouterLinks flags links) bytes e legal lt is = absurd cc
prefix_body h (NetworkLinks mask routers) bytes e legal lt is =
    network_in h mask (flat_map (big_bytes 4) routers) bytes e legal.mask lt
prefix_body h (NetworkSummary mask metric tos) bytes e legal lt is =
    network_in h mask (0 ∷ big_bytes 3 metric ++ flat_map summary_tos_bytes tos) bytes e legal.mask lt
prefix_body h (BoundarySummary metric tos) bytes e legal lt is = absurd cc
prefix_body h (AsExternal mask first more) bytes e legal lt is =
    network_in h mask (record_bytes first ++ flat_map record_bytes more) bytes e legal.mask lt

pub kept_prefix : (bytes : List ℕ) (l : Lsa) → lsa_of bytes ≡ l → IsKept bytes → is_about_network (kind_of l.body) ≡ true → Some (network_of (big_number 4 (drop 4 bytes)) (big_number 4 (drop 20 bytes))) ≡ prefix_of l
unfolding spelling
kept_prefix bytes l e kept is =
    let legal = kept_legal bytes l e kept in
    prefix_body l.header l.body bytes (kept_spelled bytes l e kept) legal.body legal.id is

-- a metric
pub record Metric (bytes : List ℕ) (b : Body) : Type 0 where
  pub long : 28 ≤ length bytes
  pub metric : Some (big_number 3 (drop 25 bytes)) ≡ metric_of b

metric_in : (h : Header) (b : Body) (bytes : List ℕ) → bytes ≡ header_bytes h ++ body_bytes b → IsLegalBody h b → 3 ≤ kind_of b → Metric bytes b
metric_in h (RouterLinks flags links) bytes e legal le = absurd (omega (arith, le))
metric_in h (NetworkLinks mask routers) bytes e legal le = absurd (omega (arith, le))
metric_in h (NetworkSummary mask metric tos) bytes e legal le = record {
  long = omega (arith, ap length e);
  metric = ap (λ (b : List ℕ). Some (big_number 3 (drop 25 b))) e ∙ ap (λ (m : ℕ). Some m) (number_again 3 metric (flat_map summary_tos_bytes tos) legal.metric);
}
metric_in h (BoundarySummary metric tos) bytes e legal le = record {
  long = omega (arith, ap length e);
  metric = ap (λ (b : List ℕ). Some (big_number 3 (drop 25 b))) e ∙ ap (λ (m : ℕ). Some m) (number_again 3 metric (flat_map summary_tos_bytes tos) legal.metric);
}
metric_in h (AsExternal mask first more) bytes e legal le = record {
  long = omega (arith, ap length e);
  metric = ap (λ (b : List ℕ). Some (big_number 3 (drop 25 b))) e ∙ ap (λ (m : ℕ). Some m) (number_again 3 first.metric (drop 4 (record_bytes first) ++ flat_map record_bytes more) legal.first.metric);
}

pub kept_metric : (bytes : List ℕ) (l : Lsa) → lsa_of bytes ≡ l → IsKept bytes → 3 ≤ kind_of l.body → Metric bytes l.body
unfolding spelling
kept_metric bytes l e kept le =
    metric_in l.header l.body bytes (kept_spelled bytes l e kept) (kept_legal bytes l e kept).body le

-- an AS-external-LSA
abbrev pub first_of_bytes : List ℕ → ExternalFields
first_of_bytes bytes = record { is_type_2 = leb 128 (slice_index bytes 24); forwarding = big_number 4 (drop 28 bytes) }

external_named : (f g : Bool) (w x : ℕ) → f ≡ g → w ≡ x → Some (let y : ExternalFields = record { is_type_2 = f; forwarding = w } in y) ≡ Some (record { is_type_2 = g; forwarding = x })
external_named f g w x ef ew = rw (ef, ew) refl

pub record FirstRecord (bytes : List ℕ) (b : Body) : Type 0 where
  pub long : 36 ≤ length bytes
  pub external : Some (first_of_bytes bytes) ≡ external_of b

first_in : (h : Header) (b : Body) (bytes : List ℕ) → bytes ≡ header_bytes h ++ body_bytes b → IsLegalBody h b → kind_of b ≡ 5 → FirstRecord bytes b
first_in h (RouterLinks flags links) bytes e legal five = absurd (omega (arith, five))
first_in h (NetworkLinks mask routers) bytes e legal five = absurd (omega (arith, five))
first_in h (NetworkSummary mask metric tos) bytes e legal five = absurd (omega (arith, five))
first_in h (BoundarySummary metric tos) bytes e legal five = absurd (omega (arith, five))
first_in h (AsExternal mask first more) bytes e legal five = record {
  long = omega (arith, ap length e);
  external = external_named _ first.is_type_2 _ first.forwarding
      (ap (λ (b : List ℕ). leb 128 (slice_index b 24)) e ∙ flag_again first.is_type_2 first.tos legal.first.tos)
      (ap (λ (b : List ℕ). big_number 4 (drop 28 b)) e ∙ number_again 4 first.forwarding (drop 8 (record_bytes first) ++ flat_map record_bytes more) legal.first.forwarding);
}

pub kept_external : (bytes : List ℕ) (l : Lsa) → lsa_of bytes ≡ l → IsKept bytes → kind_of l.body ≡ 5 → FirstRecord bytes l.body
unfolding spelling
kept_external bytes l e kept five =
    first_in l.header l.body bytes (kept_spelled bytes l e kept) (kept_legal bytes l e kept).body five

-- ---- another age

aged_body : (h : Header) (age : ℕ) (b : Body) → IsLegalBody h b → IsLegalBody (record h { age = age }) b
aged_body h age (RouterLinks flags links) x = record { own = x.own; flags = x.flags; count = x.count; links = x.links }
aged_body h age (NetworkLinks mask routers) x = x
aged_body h age (NetworkSummary mask metric tos) x = x
aged_body h age (BoundarySummary metric tos) x = x
aged_body h age (AsExternal mask first more) x = x

aged_legal : (l : Lsa) (age : ℕ) → age ≤ 3600 → IsLegal l → IsLegal (with_age l age)
aged_legal l age le x = record {
  age = le;
  options = x.options;
  kind = x.kind;
  id = x.id;
  router = x.router;
  seq = x.seq;
  sequence = x.sequence;
  sum = x.sum;
  length = x.length;
  fits = x.fits;
  body = aged_body l.header age l.body x.body;
}

aged_text : (l : Lsa) (age : ℕ) (bytes : List ℕ) → bytes ≡ spelling l → big_bytes 2 age ++ drop 2 bytes ≡ spelling (with_age l age)
unfolding spelling
aged_text l age bytes e = ap (λ (b : List ℕ). big_bytes 2 age ++ drop 2 b) e

aged_sound : (bytes : List ℕ) (age : ℕ) → IsSound bytes → IsSound (big_bytes 2 age ++ drop 2 bytes)
aged_sound bytes age x = record {
  plain = x.plain;
  weighted = x.weighted;
  present = λ e. x.present (ap (λ (b : List ℕ). big_number 2 b) (sym (drop-drop 14 2 bytes)) ∙ e);
}

aged_spells : (bytes : List ℕ) (age : ℕ) → age ≤ 3600 → IsKept bytes → Spells (big_bytes 2 age ++ drop 2 bytes) (with_age (lsa_of bytes) age)
aged_spells bytes age le kept = record {
  text = aged_text (lsa_of bytes) age bytes kept.spells.text;
  legal = aged_legal (lsa_of bytes) age le kept.spells.legal;
}

pub aged_same : (bytes : List ℕ) (age : ℕ) → age ≤ 3600 → IsKept bytes → lsa_of (big_bytes 2 age ++ drop 2 bytes) ≡ with_age (lsa_of bytes) age
aged_same bytes age le kept =
    spelled_same (big_bytes 2 age ++ drop 2 bytes) (with_age (lsa_of bytes) age) (aged_spells bytes age le kept)

pub aged_kept : (bytes : List ℕ) (age : ℕ) → age ≤ 3600 → IsKept bytes → IsKept (big_bytes 2 age ++ drop 2 bytes)
aged_kept bytes age le kept = record {
  long = omega (arith, kept.long, length-drop 2 bytes);
  sound = aged_sound bytes age kept.sound;
  spells = subst (λ (l : Lsa). Spells (big_bytes 2 age ++ drop 2 bytes) l) (sym (aged_same bytes age le kept)) (aged_spells bytes age le kept);
}

-- ---- what the code reads and writes

pub any_default : (xs : List ℕ) (i a b : ℕ) → i < length xs → get_or xs i a ≡ get_or xs i b
any_default [] i a b lt = absurd (omega arith)
any_default (x ∷ xs) zero a b lt = refl
any_default (x ∷ xs) (suc i) a b lt = any_default xs i a b (omega arith)

pub slice_written : (len : ℕ) (buf items : List ℕ) → len ≡ length items → length buf ≡ length items → take len (buf ++ drop (length buf) items) ≡ buf
slice_written len buf items el eb =
    let none : drop (length buf) items ≡ [] = nil_from_length _ (omega (arith, length-drop (length buf) items)) in
    ap (λ (r : List ℕ). take len (buf ++ r)) none ∙ ap (take len) (append-nil buf) ∙ take_all len buf (omega arith)

-- ---- equal contents

head_is : (bytes : List ℕ) (l : Lsa) → bytes ≡ spelling l → take 2 (drop 2 bytes) ≡ l.header.options ∷ l.header.kind ∷ []
unfolding spelling
head_is bytes l e = ap (λ (b : List ℕ). take 2 (drop 2 b)) e

front_same : (a b c d : ℕ) → a ∷ b ∷ [] ≡ c ∷ d ∷ [] → (a ≡ c) × (b ≡ d)
front_same a b c d e = (cc, cc)

pub same_options : (a b : List ℕ) (l m : Lsa) → a ≡ spelling l → b ≡ spelling m → take 2 (drop 2 a) ≡ take 2 (drop 2 b) → l.header.options ≡ m.header.options
same_options a b l m ea eb e =
    (front_same l.header.options l.header.kind m.header.options m.header.kind (sym (head_is a l ea) ∙ e ∙ head_is b m eb)).0

pub same_kind : (a b : List ℕ) (l m : Lsa) → a ≡ spelling l → b ≡ spelling m → take 2 (drop 2 a) ≡ take 2 (drop 2 b) → l.header.kind ≡ m.header.kind
same_kind a b l m ea eb e =
    (front_same l.header.options l.header.kind m.header.options m.header.kind (sym (head_is a l ea) ∙ e ∙ head_is b m eb)).1

pub same_body : (a b : List ℕ) (l m : Lsa) → lsa_of a ≡ l → lsa_of b ≡ m → l.header.kind ≡ m.header.kind → drop 20 a ≡ drop 20 b → l.body ≡ m.body
unfolding lsa_of
same_body a b l m ea eb kind e =
    let kinds : kind_field a ≡ kind_field b = ap (λ (x : Lsa). x.header.kind) ea ∙ kind ∙ sym (ap (λ (x : Lsa). x.header.kind) eb) in
    sym (ap (λ (x : Lsa). x.body) ea) ∙ ap (λ (k : ℕ). body_of k (drop 20 a)) kinds ∙ ap (body_of (kind_field b)) e ∙ ap (λ (x : Lsa). x.body) eb

pub same_front : (a b : List ℕ) (l m : Lsa) → a ≡ spelling l → b ≡ spelling m → l.header.kind ≡ m.header.kind → l.header.options ≡ m.header.options → take 2 (drop 2 a) ≡ take 2 (drop 2 b)
same_front a b l m ea eb kind options =
    head_is a l ea ∙ ap (λ (k : ℕ). l.header.options ∷ k ∷ []) kind ∙ ap (λ (o : ℕ). o ∷ m.header.kind ∷ []) options ∙ sym (head_is b m eb)

-- ---- what is written

pub written_sound : (bytes : List ℕ) (l : Lsa) → lsa_of bytes ≡ l → IsKept bytes → IsSound (spelling l)
written_sound bytes l e kept = subst IsSound (kept_spelled bytes l e kept) kept.sound

pub written_spells : (bytes : List ℕ) (l : Lsa) → lsa_of bytes ≡ l → IsKept bytes → Spells (spelling l) l
written_spells bytes l e kept = record { text = refl; legal = kept_legal bytes l e kept }

pub written_none : (bytes : List ℕ) (l : Lsa) → lsa_of bytes ≡ l → IsKept bytes → fault_of (spelling l) ≡ None
written_none bytes l e kept = spelling_none l (kept_legal bytes l e kept) (written_sound bytes l e kept)

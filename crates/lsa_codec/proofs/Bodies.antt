-- Whole advertisements: what is read without a fault is sound and spelled so.
use Rattle.std.proofs.Common.{◌≡◌, ℕ, zero, suc, ◌+◌, ◌*◌, ◌%◌, ◌≤◌, Bool, true, false, cond, ◌||◌, ◌&&◌, not, eqb, ltb, leb, List, [], ◌∷◌, ◌++◌, length, map, drop, sum, None, refl, sym, ap, ◌∙◌, arith}
use Rattle.std.specs.Prelude.{slice_index}
use Rattle.std.specs.List.{list_any, flat_map, AllByRecursion}
use Rattle.std.proofs.lemmas.Bool.{eq-eqb, ne_eqb, eqb-true, eqb-false, ltb-false, le-leb}
use Rattle.std.proofs.lemmas.List.{length-drop, drop-drop, get_or-drop, append-nil, nil_from_length, length-map}
use Rattle.byteorder.specs.Endian.{big_bytes}
use Rattle.ospf_types.specs.declared.lsa.Header.{Header}
use Rattle.ospf_types.specs.Lsa.{Body, RouterLink, Tos, kind_of}
use Rattle.lsa_codec.specs.declared.findings.Findings.{Findings}
use Rattle.lsa_codec.specs.Spelling.{header_bytes, body_bytes, link_bytes, summary_tos_bytes, record_bytes, spelling, IsLegalBody, IsLegalSummaryTos, IsLegalRecord}
use Rattle.lsa_codec.specs.Checksum.{IsSound, is_sound, sum_field, covered, weighted_sum}
use Rattle.lsa_codec.specs.Faults.{length_field, kind_field, is_cut, cut_findings, count_met, mask_field, is_mask, count_field, Walk, links_walk, is_incomplete, has_reserved_entry, has_wrong_mask, is_unknown, router_findings, network_findings, summary_findings, boundary_findings, external_findings, findings_of, found_in, is_unknown_kind, is_other_router, fault_of}
use Rattle.lsa_codec.specs.Decoding.{header_of, link_of, records_met, router_id_at, summary_tos_at, external_at, metric_field, router_body_of, network_body_of, summary_body_of, boundary_body_of, external_body_of, body_of, lsa_of}
use Rattle.lsa_codec.specs.Kept.{IsKept}
use Rattle.lsa_codec.proofs.Bools.{or_left, or_right, and_left, and_right, and_of, and_not, not_false, not_true}
use Rattle.lsa_codec.proofs.Words.{IsBytes, IsBytes-drop, then, number_below, back_4, word_2, word_3, byte_1}
use Rattle.lsa_codec.proofs.Headers.{header_takes}
use Rattle.lsa_codec.proofs.Masks.{IsMask-from_test}
use Rattle.lsa_codec.proofs.Records.{records_take}
use Rattle.lsa_codec.proofs.RecordBytes.{IsRouterId, router_id_takes, summary_tos_takes, external_takes}
use Rattle.lsa_codec.proofs.LinkBytes.{walk_takes}
use Rattle.lsa_codec.proofs.Tables.{IsClear, none_holds}

-- ---- the checksum

pub IsSound-from_test : (bytes : List ℕ) → is_sound bytes ≡ true → IsSound bytes
IsSound-from_test bytes e =
    let p : Bool = eqb (sum (covered bytes) % 255) 0 in
    let w : Bool = eqb (weighted_sum (covered bytes) % 255) 0 in
    let f : Bool = not (eqb (sum_field bytes) 0) in
    record {
      plain = eqb-true _ _ (and_left p w (and_left (p && w) f e));
      weighted = eqb-true _ _ (and_right p w (and_left (p && w) f e));
      present = eqb-false _ _ (not_true _ (and_right (p && w) f e));
    }

pub test-from_IsSound : (bytes : List ℕ) → IsSound bytes → is_sound bytes ≡ true
test-from_IsSound bytes h =
    and_of _ _ (and_of _ _ (eq-eqb _ _ h.plain) (eq-eqb _ _ h.weighted)) (ap not (ne_eqb _ _ h.present))

-- ---- bodies

-- the fixed part is whole, and nothing is found past it
record PastCut (cut : Bool) (f : Findings) : Type 0 where
  pub uncut : cut ≡ false
  pub found : IsClear f

past_cut : (cut : Bool) (f : Findings) → IsClear (cond cut cut_findings f) → PastCut cut f
past_cut true f clear = let e : true ≡ false = clear.shape in absurd cc
past_cut false f clear = record { uncut = refl; found = clear }

-- the bytes of a body spell the fields that it stands for
pub record BodyTaken (h : Header) (body : List ℕ) (b : Body) : Type 0 where
  pub long : 4 ≤ length body
  pub text : body_bytes b ≡ body
  pub legal : IsLegalBody h b

length-links : (w : Walk) → length (map link_of w.met) ≡ length w.met
length-links w = length-map w.met link_of

router_takes : (h : Header) (body : List ℕ) → IsBytes body → h.id ≡ h.router → IsClear (router_findings body) → BodyTaken h body (router_body_of body)
router_takes h body fits own clear =
    let n : ℕ = count_field body in
    let w : Walk = links_walk body in
    let past = past_cut (is_cut 4 body) (record {
      reserved = not (eqb (slice_index body 1) 0) || list_any has_reserved_entry w.met;
      mask = list_any has_wrong_mask w.met;
      link_type = list_any is_unknown w.met;
      shape = is_incomplete n w;
    }) clear in
    let long : 4 ≤ length body = ltb-false _ _ past.uncut in
    let complete : is_incomplete n w ≡ false = past.found.shape in
    let met : length w.met ≡ n = eqb-true _ _ (not_false _ (or_left (not (eqb (length w.met) n)) (not (eqb (length w.left) 0)) complete)) in
    let left : w.left ≡ [] = nil_from_length w.left (eqb-true _ _ (not_false _ (or_right (not (eqb (length w.met) n)) (not (eqb (length w.left) 0)) complete))) in
    let set : (not (eqb (slice_index body 1) 0) || list_any has_reserved_entry w.met) ≡ false = past.found.reserved in
    let reserved : slice_index body 1 ≡ 0 = eqb-true _ _ (not_false _ (or_left (not (eqb (slice_index body 1) 0)) (list_any has_reserved_entry w.met) set)) in
    let taken = walk_takes n (drop 4 body) (IsBytes-drop 4 body fits) met (or_right (not (eqb (slice_index body 1) 0)) (list_any has_reserved_entry w.met) set) past.found.mask past.found.link_type in
    let links : List RouterLink = map link_of w.met in
    let t4 : flat_map link_bytes links ≡ drop 4 body = sym (append-nil (flat_map link_bytes links)) ∙ ap (λ (r : List ℕ). flat_map link_bytes links ++ r) (sym left) ∙ taken.text in
    let count : length links ≡ n = length-links w ∙ met in
    let t2 : big_bytes 2 (length links) ++ flat_map link_bytes links ≡ drop 2 body = ap (λ (k : ℕ). big_bytes 2 k ++ flat_map link_bytes links) count ∙ ap (λ (r : List ℕ). big_bytes 2 n ++ r) t4 ∙ word_2 2 body (omega arith) fits in
    let t1 : 0 ∷ (big_bytes 2 (length links) ++ flat_map link_bytes links) ≡ drop 1 body = ap (λ (r : List ℕ). 0 ∷ r) t2 ∙ ap (λ (b : ℕ). b ∷ drop 2 body) (sym reserved) ∙ byte_1 1 body (omega arith) in
    record {
      long = long;
      text = ap (λ (r : List ℕ). slice_index body 0 ∷ r) t1 ∙ byte_1 0 body (omega arith);
      legal = record {
        own = own;
        flags = fits 0;
        count = omega (arith, count, number_below 2 (drop 2 body) (IsBytes-drop 2 body fits));
        links = taken.legal;
      };
    }

network_takes : (h : Header) (body : List ℕ) → IsBytes body → IsClear (network_findings body) → BodyTaken h body (network_body_of body)
network_takes h body fits clear =
    let past = past_cut (is_cut 4 body) (record {
      reserved = false;
      mask = not (is_mask (mask_field body));
      link_type = false;
      shape = not (eqb (length (drop 4 body) % 4) 0);
    }) clear in
    let long : 4 ≤ length body = ltb-false _ _ past.uncut in
    let whole : length (drop 4 body) % 4 ≡ 0 = eqb-true _ _ (not_false _ past.found.shape) in
    let room : length (drop 4 body) ≡ count_met 4 (drop 4 body) * 4 = omega (arith, whole) in
    let taken = records_take (big_bytes 4) router_id_at IsRouterId 4 router_id_takes (count_met 4 (drop 4 body)) (drop 4 body) (IsBytes-drop 4 body fits) room in
    record {
      long = long;
      text = then (big_bytes 4 (mask_field body)) _ _ _ taken.text (back_4 body long fits);
      legal = record { mask = IsMask-from_test _ (number_below 4 body fits) (not_false _ past.found.mask); routers = taken.legal };
    }

-- the metric and the TOS entries, and the mask in front
record SummaryTaken (body : List ℕ) : Type 0 where
  pub text : big_bytes 4 (mask_field body) ++ 0 ∷ big_bytes 3 (metric_field body) ++ flat_map summary_tos_bytes (records_met summary_tos_at 4 (drop 8 body)) ≡ body
  pub tos : AllByRecursion IsLegalSummaryTos (records_met summary_tos_at 4 (drop 8 body))

summary_text : (body : List ℕ) → IsBytes body → 8 ≤ length body → slice_index body 4 ≡ 0 → length (drop 8 body) % 4 ≡ 0 → SummaryTaken body
summary_text body fits long reserved whole =
    let tos : List Tos = records_met summary_tos_at 4 (drop 8 body) in
    let room : length (drop 8 body) ≡ count_met 4 (drop 8 body) * 4 = omega (arith, whole) in
    let taken = records_take summary_tos_bytes summary_tos_at IsLegalSummaryTos 4 summary_tos_takes (count_met 4 (drop 8 body)) (drop 8 body) (IsBytes-drop 8 body fits) room in
    let t5 : big_bytes 3 (metric_field body) ++ flat_map summary_tos_bytes tos ≡ drop 5 body = then (big_bytes 3 (metric_field body)) _ _ _ taken.text (word_3 5 body (omega arith) fits) in
    let t4 : 0 ∷ (big_bytes 3 (metric_field body) ++ flat_map summary_tos_bytes tos) ≡ drop 4 body = ap (λ (r : List ℕ). 0 ∷ r) t5 ∙ ap (λ (b : ℕ). b ∷ drop 5 body) (sym reserved) ∙ byte_1 4 body (omega arith) in
    record {
      text = then (big_bytes 4 (mask_field body)) _ _ _ t4 (back_4 body (omega arith) fits);
      tos = taken.legal;
    }

summary_takes : (h : Header) (body : List ℕ) → IsBytes body → IsClear (summary_findings body) → BodyTaken h body (summary_body_of body)
summary_takes h body fits clear =
    let past = past_cut (is_cut 8 body) (record {
      reserved = not (eqb (slice_index body 4) 0);
      mask = not (is_mask (mask_field body));
      link_type = false;
      shape = not (eqb (length (drop 8 body) % 4) 0);
    }) clear in
    let long : 8 ≤ length body = ltb-false _ _ past.uncut in
    let taken = summary_text body fits long (eqb-true _ _ (not_false _ past.found.reserved)) (eqb-true _ _ (not_false _ past.found.shape)) in
    record {
      long = omega arith;
      text = taken.text;
      legal = record {
        mask = IsMask-from_test _ (number_below 4 body fits) (not_false _ past.found.mask);
        metric = number_below 3 (drop 5 body) (IsBytes-drop 5 body fits);
        tos = taken.tos;
      };
    }

boundary_takes : (h : Header) (body : List ℕ) → IsBytes body → IsClear (boundary_findings body) → BodyTaken h body (boundary_body_of body)
boundary_takes h body fits clear =
    let past = past_cut (is_cut 8 body) (record {
      reserved = not (eqb (slice_index body 4) 0);
      mask = not (eqb (mask_field body) 0);
      link_type = false;
      shape = not (eqb (length (drop 8 body) % 4) 0);
    }) clear in
    let long : 8 ≤ length body = ltb-false _ _ past.uncut in
    let taken = summary_text body fits long (eqb-true _ _ (not_false _ past.found.reserved)) (eqb-true _ _ (not_false _ past.found.shape)) in
    let zero_mask : 0 ≡ mask_field body = sym (eqb-true _ _ (not_false _ past.found.mask)) in
    let rest : List ℕ = 0 ∷ big_bytes 3 (metric_field body) ++ flat_map summary_tos_bytes (records_met summary_tos_at 4 (drop 8 body)) in
    record {
      long = omega arith;
      text = ap (λ (m : ℕ). big_bytes 4 m ++ rest) zero_mask ∙ taken.text;
      legal = record { metric = number_below 3 (drop 5 body) (IsBytes-drop 5 body fits); tos = taken.tos };
    }

external_body_takes : (h : Header) (body : List ℕ) → IsBytes body → IsClear (external_findings body) → BodyTaken h body (external_body_of body)
external_body_takes h body fits clear =
    let past = past_cut (is_cut 4 body) (record {
      reserved = leb 16 (length body) && not (eqb (slice_index body 4 % 128) 0);
      mask = not (is_mask (mask_field body));
      link_type = false;
      shape = ltb (length body) 16 || not (eqb (length (drop 4 body) % 12) 0);
    }) clear in
    let some : ltb (length body) 16 ≡ false = or_left (ltb (length body) 16) (not (eqb (length (drop 4 body) % 12) 0)) past.found.shape in
    let long : 16 ≤ length body = ltb-false _ _ some in
    let whole : length (drop 4 body) % 12 ≡ 0 = eqb-true _ _ (not_false _ (or_right (ltb (length body) 16) (not (eqb (length (drop 4 body) % 12) 0)) past.found.shape)) in
    let room : length (drop 16 body) ≡ count_met 12 (drop 16 body) * 12 = omega (arith, whole, length-drop 4 body, length-drop 16 body) in
    let plain : slice_index body 4 % 128 ≡ 0 = eqb-true _ _ (not_false _ (and_not (leb 16 (length body)) (not (eqb (slice_index body 4 % 128) 0)) (le-leb _ _ long) past.found.reserved)) in
    let first = external_takes (drop 4 body) (IsBytes-drop 4 body fits) (omega (arith, length-drop 4 body)) in
    let more = records_take record_bytes external_at IsLegalRecord 12 external_takes (count_met 12 (drop 16 body)) (drop 16 body) (IsBytes-drop 16 body fits) room in
    let t4 = then (record_bytes (external_at (drop 4 body))) _ _ _ (more.text ∙ sym (drop-drop 12 4 body)) first.text in
    record {
      long = omega arith;
      text = then (big_bytes 4 (mask_field body)) _ _ _ t4 (back_4 body (omega arith) fits);
      legal = record {
        mask = IsMask-from_test _ (number_below 4 body fits) (not_false _ past.found.mask);
        first = first.legal;
        plain = ap (λ (b : ℕ). b % 128) (get_or-drop 4 body 0 0) ∙ plain;
        more = more.legal;
      };
    }

-- by LS type
record KindTaken (number : ℕ) (h : Header) (body : List ℕ) : Type 0 where
  pub taken : BodyTaken h body (body_of number body)
  pub kind : number ≡ kind_of (body_of number body)

kind_takes : (kind : ℕ) (h : Header) (body : List ℕ) → IsBytes body → is_unknown_kind kind ≡ false → is_other_router kind h.id h.router ≡ false → IsClear (findings_of kind body) → KindTaken kind h body
kind_takes zero h body fits known own clear = absurd cc
kind_takes (suc zero) h body fits known own clear = record { taken = router_takes h body fits (eqb-true _ _ (not_false _ own)) clear; kind = refl }
kind_takes (suc (suc zero)) h body fits known own clear = record { taken = network_takes h body fits clear; kind = refl }
kind_takes (suc (suc (suc zero))) h body fits known own clear = record { taken = summary_takes h body fits clear; kind = refl }
kind_takes (suc (suc (suc (suc zero)))) h body fits known own clear = record { taken = boundary_takes h body fits clear; kind = refl }
kind_takes (suc (suc (suc (suc (suc zero))))) h body fits known own clear = record { taken = external_body_takes h body fits clear; kind = refl }
kind_takes (suc (suc (suc (suc (suc (suc k)))))) h body fits known own clear =
    let le : suc (suc (suc (suc (suc (suc k))))) ≤ 5 = ltb-false _ _ (or_right (ltb (suc (suc (suc (suc (suc (suc k)))))) 1) (ltb 5 (suc (suc (suc (suc (suc (suc k))))))) known) in
    absurd (omega arith)

pub spelled_long : (h : Header) (bytes body : List ℕ) → bytes ≡ header_bytes h ++ body → length bytes ≡ 20 + length body
spelled_long h bytes body e = omega (arith, ap length e)

-- no fault: sound, and spelled so
pub takes_all : (bytes : List ℕ) → IsBytes bytes → fault_of bytes ≡ None → IsKept bytes
unfolding lsa_of spelling found_in
takes_all bytes fits none =
    let h = none_holds bytes none in
    let long : 20 ≤ length bytes = ltb-false _ _ (or_left (ltb (length bytes) 20) (not (eqb (length_field bytes) (length bytes))) h.long) in
    let sized : length_field bytes ≡ length bytes = eqb-true _ _ (not_false _ (or_right (ltb (length bytes) 20) (not (eqb (length_field bytes) (length bytes))) h.long)) in
    let body : List ℕ = drop 20 bytes in
    let kind = kind_takes (kind_field bytes) (header_of bytes) body (IsBytes-drop 20 bytes fits) h.kind h.own h.found in
    let b : Body = body_of (kind_field bytes) body in
    let text : header_bytes (header_of bytes) ++ body_bytes b ≡ bytes = ap (λ (r : List ℕ). header_bytes (header_of bytes) ++ r) kind.taken.text ∙ header_takes bytes long fits in
    record {
      long = omega (arith, kind.taken.long, length-drop 20 bytes);
      sound = IsSound-from_test bytes (not_false _ h.sound);
      spells = record {
        text = sym text;
        legal = record {
          age = ltb-false _ _ h.age;
          options = fits 2;
          kind = kind.kind;
          id = number_below 4 (drop 4 bytes) (IsBytes-drop 4 bytes fits);
          router = number_below 4 (drop 8 bytes) (IsBytes-drop 8 bytes fits);
          seq = number_below 4 (drop 12 bytes) (IsBytes-drop 12 bytes fits);
          sequence = eqb-false _ _ h.sequence;
          sum = number_below 2 (drop 16 bytes) (IsBytes-drop 16 bytes fits);
          length = sized ∙ spelled_long (header_of bytes) bytes (body_bytes b) (sym text);
          fits = number_below 2 (drop 18 bytes) (IsBytes-drop 18 bytes fits);
          body = kind.taken.legal;
        };
      };
    }

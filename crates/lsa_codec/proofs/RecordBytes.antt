-- Router IDs, TOS entries of summary-LSAs and records of AS-external-LSAs, each read and written.
use Rattle.std.proofs.Common.{◌≡◌, ℕ, ◌+◌, ◌%◌, ◌^◌, ◌<◌, ◌≤◌, Bool, true, false, cond, leb, List, ◌∷◌, ◌++◌, length, drop, refl, ap, ◌∙◌, arith}
use Rattle.std.specs.Prelude.{slice_index}
use Rattle.std.proofs.lemmas.Bool.{leb-true, leb-false, le-leb, lt-leb}
use Rattle.byteorder.specs.Endian.{big_bytes, big_number}
use Rattle.ospf_types.specs.Lsa.{Tos, ExternalRecord}
use Rattle.lsa_codec.specs.Spelling.{summary_tos_bytes, record_bytes, IsLegalSummaryTos, IsLegalRecord}
use Rattle.lsa_codec.specs.Decoding.{router_id_at, summary_tos_at, external_at}
use Rattle.lsa_codec.proofs.Words.{IsBytes, IsBytes-drop, then, number_again, number_below, back_4, word_3, word_4, byte_1}
use Rattle.lsa_codec.proofs.Records.{RecordTaken, RecordAgain}

-- ---- Router IDs

abbrev pub IsRouterId : ℕ → Type 0
IsRouterId router = router < 2 ^ 32

pub router_id_takes : (bytes : List ℕ) → IsBytes bytes → 4 ≤ length bytes → RecordTaken (big_bytes 4) router_id_at IsRouterId 4 bytes
router_id_takes bytes fits long = record { text = back_4 bytes long fits; legal = number_below 4 bytes fits }

pub router_id_again : RecordAgain (big_bytes 4) router_id_at IsRouterId 4
router_id_again = record { long = λ x. omega arith; same = λ x rest lt. number_again 4 x rest lt }

-- ---- TOS entries

pub summary_tos_takes : (bytes : List ℕ) → IsBytes bytes → 4 ≤ length bytes → RecordTaken summary_tos_bytes summary_tos_at IsLegalSummaryTos 4 bytes
summary_tos_takes bytes fits long = record {
  text = ap (λ (r : List ℕ). slice_index bytes 0 ∷ r) (word_3 1 bytes (omega arith) fits) ∙ byte_1 0 bytes (omega arith);
  legal = record { tos = fits 0; metric = number_below 3 (drop 1 bytes) (IsBytes-drop 1 bytes fits) };
}

tos_with : (t : Tos) (m : ℕ) → m ≡ t.metric → (let x : Tos = record { tos = t.tos; metric = m } in x) ≡ t
tos_with t m e = rw e refl

pub summary_tos_again : RecordAgain summary_tos_bytes summary_tos_at IsLegalSummaryTos 4
summary_tos_again = record {
  long = λ x. omega arith;
  same = λ x rest legal. tos_with x (big_number 3 (big_bytes 3 x.metric ++ rest)) (number_again 3 x.metric rest legal.metric);
}

-- ---- records of AS-external-LSAs

-- bit E and the TOS are one byte
flag_back : (b : ℕ) (f : Bool) → b < 256 → leb 128 b ≡ f → cond f 128 0 + b % 128 ≡ b
flag_back b true lt e = let le : 128 ≤ b = leb-true _ _ e in omega arith
flag_back b false lt e = let less : b < 128 = leb-false _ _ e in omega arith

pub flag_again : (f : Bool) (tos : ℕ) → tos < 2 ^ 7 → leb 128 (cond f 128 0 + tos) ≡ f
flag_again true tos lt = le-leb _ _ (omega arith)
flag_again false tos lt = lt-leb _ _ (omega arith)

pub tos_again : (f : Bool) (tos : ℕ) → tos < 2 ^ 7 → (cond f 128 0 + tos) % 128 ≡ tos
tos_again true tos lt = omega arith
tos_again false tos lt = omega arith

pub external_takes : (bytes : List ℕ) → IsBytes bytes → 12 ≤ length bytes → RecordTaken record_bytes external_at IsLegalRecord 12 bytes
external_takes bytes fits long =
    let t8 = word_4 8 bytes (omega arith) fits in
    let t4 = then (big_bytes 4 (big_number 4 (drop 4 bytes))) _ _ _ t8 (word_4 4 bytes (omega arith) fits) in
    let t1 = then (big_bytes 3 (big_number 3 (drop 1 bytes))) _ _ _ t4 (word_3 1 bytes (omega arith) fits) in
    let b : ℕ = slice_index bytes 0 in
    record {
      text = ap (λ (r : List ℕ). (cond (leb 128 b) 128 0 + b % 128) ∷ r) t1 ∙ ap (λ (x : ℕ). x ∷ drop 1 bytes) (flag_back b (leb 128 b) (fits 0) refl) ∙ byte_1 0 bytes (omega arith);
      legal = record {
        tos = omega arith;
        metric = number_below 3 (drop 1 bytes) (IsBytes-drop 1 bytes fits);
        forwarding = number_below 4 (drop 4 bytes) (IsBytes-drop 4 bytes fits);
        tag = number_below 4 (drop 8 bytes) (IsBytes-drop 8 bytes fits);
      };
    }

external_with : (r : ExternalRecord) (f : Bool) (t m w g : ℕ) → f ≡ r.is_type_2 → t ≡ r.tos → m ≡ r.metric → w ≡ r.forwarding → g ≡ r.tag
    → (let x : ExternalRecord = record { is_type_2 = f; tos = t; metric = m; forwarding = w; tag = g } in x) ≡ r
external_with r f t m w g ef et em ew eg = rw (ef, et, em, ew, eg) refl

pub external_again : RecordAgain record_bytes external_at IsLegalRecord 12
external_again = record {
  long = λ x. omega arith;
  same = λ x rest legal. external_with x _ _ _ _ _ (flag_again x.is_type_2 x.tos legal.tos) (tos_again x.is_type_2 x.tos legal.tos)
      (number_again 3 x.metric (drop 4 (record_bytes x ++ rest)) legal.metric)
      (number_again 4 x.forwarding (drop 8 (record_bytes x ++ rest)) legal.forwarding)
      (number_again 4 x.tag rest legal.tag);
}

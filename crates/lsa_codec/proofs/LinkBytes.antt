-- Links and their TOS entries: what is read is spelled so, and what is spelled so is read.
use Rattle.std.proofs.Common.{◌≡◌, ℕ, zero, suc, ◌+◌, ◌*◌, ◌^◌, ◌<◌, ◌≤◌, Bool, true, false, ◌||◌, ◌&&◌, not, eqb, ltb, List, [], ◌∷◌, ◌++◌, length, map, drop, refl, sym, ap, subst, ◌∙◌, append_assoc, inl, inr, arith}
use Rattle.std.specs.Prelude.{slice_index}
use Rattle.std.specs.List.{list_any, flat_map, AllByRecursion}
use Rattle.std.proofs.lemmas.Bool.{eqb-true, le-leb, leb-true, ltb-false}
use Rattle.std.proofs.lemmas.List.{length-append, length-drop, drop-drop, drop_at}
use Rattle.byteorder.specs.Endian.{big_bytes, big_number}
use Rattle.ospf_types.specs.declared.lsa.LinkKind.{LinkKind}
use Rattle.ospf_types.specs.declared.lsa.LinkKind.TheVariants.{PointToPoint, Transit, Stub, Virtual}
use Rattle.ospf_types.specs.Lsa.{RouterLink, Tos}
use Rattle.lsa_codec.specs.Spelling.{number_of_kind, link_tos_bytes, link_bytes, IsLegalDetail, IsLegalLinkTos, IsLegalLink}
use Rattle.lsa_codec.specs.Faults.{is_mask, RawTos, RawLink, raw_entries, raw_link, link_size, is_whole, Walk, after_link, walk, has_reserved_entry, has_wrong_mask, is_unknown}
use Rattle.lsa_codec.specs.Decoding.{kind_of_number, tos_of, link_of}
use Rattle.lsa_codec.proofs.Bools.{or_left, or_right, not_false, bool_cases}
use Rattle.lsa_codec.proofs.Walks.{is_set}
use Rattle.lsa_codec.proofs.Words.{IsBytes, IsBytes-drop, number_again, number_below, back_4, word_2, word_4, byte_1}
use Rattle.lsa_codec.proofs.Masks.{IsMask-from_test, test-from_IsMask}

-- ---- written, then read

abbrev pub raw_tos_of : Tos → RawTos
raw_tos_of t = record { tos = t.tos; reserved = 0; metric = t.metric }

abbrev pub raw_link_of : RouterLink → RawLink
raw_link_of l = record {
  id = l.id;
  detail = l.detail;
  kind = number_of_kind l.kind;
  metric = l.metric;
  tos = map raw_tos_of l.tos;
}

cons_with : (t m : ℕ) (x : Tos) (rest : List RawTos) → t ≡ x.tos → m ≡ x.metric → record { tos = t; reserved = 0; metric = m } ∷ rest ≡ raw_tos_of x ∷ rest
cons_with t m x rest et em = rw (et, em) refl

pub entries_again : (tos : List Tos) (rest : List ℕ) → AllByRecursion IsLegalLinkTos tos → raw_entries (length tos) (flat_map link_tos_bytes tos ++ rest) ≡ map raw_tos_of tos
unfolding raw_entries
entries_again [] rest legal = refl
entries_again (t ∷ tos) rest legal =
    cons_with t.tos (big_number 2 (big_bytes 2 t.metric ++ (flat_map link_tos_bytes tos ++ rest))) t (raw_entries (length tos) (flat_map link_tos_bytes tos ++ rest)) refl (number_again 2 t.metric (flat_map link_tos_bytes tos ++ rest) legal.0.metric)
    ∙ ap (λ (r : List RawTos). raw_tos_of t ∷ r) (entries_again tos rest legal.1)

pub length-entries : (tos : List Tos) → length (flat_map link_tos_bytes tos) ≡ 4 * length tos
length-entries [] = refl
length-entries (t ∷ tos) = omega (arith, length-entries tos)

pub length-link : (l : RouterLink) → length (link_bytes l) ≡ 12 + 4 * length l.tos
length-link l = omega (arith, length-entries l.tos)

raw_with : (i d k m i2 d2 m2 : ℕ) (t t2 : List RawTos) → i ≡ i2 → d ≡ d2 → m ≡ m2 → t ≡ t2
    → (let x : RawLink = record { id = i; detail = d; kind = k; metric = m; tos = t } in x) ≡ record { id = i2; detail = d2; kind = k; metric = m2; tos = t2 }
raw_with i d k m i2 d2 m2 t t2 ei ed em et = rw (ei, ed, em, et) refl

pub link_again : (l : RouterLink) (rest : List ℕ) → IsLegalLink l → raw_link (link_bytes l ++ rest) ≡ raw_link_of l
link_again l rest legal =
    raw_with _ _ (number_of_kind l.kind) _ l.id l.detail l.metric _ (map raw_tos_of l.tos)
    (number_again 4 l.id (drop 4 (link_bytes l ++ rest)) legal.id)
    (number_again 4 l.detail (drop 8 (link_bytes l ++ rest)) legal.detail)
    (number_again 2 l.metric (drop 12 (link_bytes l ++ rest)) legal.metric)
    (entries_again l.tos rest legal.tos)

pub whole_again : (l : RouterLink) (rest : List ℕ) → is_whole (link_bytes l ++ rest) ≡ true
whole_again l rest =
    le-leb _ _ (omega (arith, length-append (link_bytes l) rest, length-link l))

pub after_again : (l : RouterLink) (rest : List ℕ) → drop (link_size (link_bytes l ++ rest)) (link_bytes l ++ rest) ≡ rest
after_again l rest = drop_at (link_bytes l) rest (12 + 4 * length l.tos) (length-link l)

pub whole_step : (n : ℕ) (bytes : List ℕ) → is_whole bytes ≡ true → walk (suc n) bytes ≡ after_link (raw_link bytes) (walk n (drop (link_size bytes) bytes))
unfolding walk
whole_step n bytes e = rw e refl

pub walk_again : (links : List RouterLink) (rest : List ℕ) → AllByRecursion IsLegalLink links → walk (length links) (flat_map link_bytes links ++ rest) ≡ record { met = map raw_link_of links; left = rest }
unfolding walk
walk_again [] rest legal = refl
walk_again (l ∷ links) rest legal =
    let others : List ℕ = flat_map link_bytes links ++ rest in
    let regrouped : flat_map link_bytes (l ∷ links) ++ rest ≡ link_bytes l ++ others = append_assoc (link_bytes l) (flat_map link_bytes links) rest in
    ap (walk (suc (length links))) regrouped
    ∙ whole_step (length links) (link_bytes l ++ others) (whole_again l others)
    ∙ ap (λ (r : List ℕ). after_link (raw_link (link_bytes l ++ others)) (walk (length links) r)) (after_again l others)
    ∙ ap (λ (k : RawLink). after_link k (walk (length links) others)) (link_again l others legal.0)
    ∙ ap (λ (w : Walk). after_link (raw_link_of l) w) (walk_again links rest legal.1)

pub kind_again : (k : LinkKind) → kind_of_number (number_of_kind k) ≡ k
kind_again PointToPoint = refl
kind_again Transit = refl
kind_again Stub = refl
kind_again Virtual = refl

tos_map_again : (tos : List Tos) → map tos_of (map raw_tos_of tos) ≡ tos
tos_map_again [] = refl
tos_map_again (t ∷ tos) = ap (λ (r : List Tos). t ∷ r) (tos_map_again tos)

link_with : (l : RouterLink) (k : LinkKind) (t : List Tos) → k ≡ l.kind → t ≡ l.tos
    → (let x : RouterLink = record { id = l.id; detail = l.detail; kind = k; metric = l.metric; tos = t } in x) ≡ l
link_with l k t ek et = rw (ek, et) refl

pub link_of_again : (l : RouterLink) → link_of (raw_link_of l) ≡ l
link_of_again l = link_with l _ _ (kind_again l.kind) (tos_map_again l.tos)

pub links_of_again : (links : List RouterLink) → map link_of (map raw_link_of links) ≡ links
links_of_again [] = refl
links_of_again (l ∷ links) =
    ap (λ (x : RouterLink). x ∷ map link_of (map raw_link_of links)) (link_of_again l) ∙ ap (λ (r : List RouterLink). l ∷ r) (links_of_again links)

-- none of the tests holds of what was written

no_entry_set : (tos : List Tos) → list_any is_set (map raw_tos_of tos) ≡ false
no_entry_set [] = refl
no_entry_set (t ∷ tos) = no_entry_set tos

mask_by_kind : (k : LinkKind) (detail : ℕ) → IsLegalDetail k detail → (eqb (number_of_kind k) 3 && not (is_mask detail)) ≡ false
mask_by_kind PointToPoint detail h = refl
mask_by_kind Transit detail h = refl
mask_by_kind Stub detail h = ap not (test-from_IsMask detail h)
mask_by_kind Virtual detail h = refl

wrong_mask_none : (l : RouterLink) → IsLegalLink l → has_wrong_mask (raw_link_of l) ≡ false
wrong_mask_none l legal = mask_by_kind l.kind l.detail legal.mask

known : (k : LinkKind) → (ltb (number_of_kind k) 1 || ltb 4 (number_of_kind k)) ≡ false
known PointToPoint = refl
known Transit = refl
known Stub = refl
known Virtual = refl

pub none_reserved : (links : List RouterLink) → list_any has_reserved_entry (map raw_link_of links) ≡ false
none_reserved [] = refl
none_reserved (l ∷ links) =
    ap (λ (b : Bool). b || list_any has_reserved_entry (map raw_link_of links)) (no_entry_set l.tos) ∙ none_reserved links

pub none_wrong_mask : (links : List RouterLink) → AllByRecursion IsLegalLink links → list_any has_wrong_mask (map raw_link_of links) ≡ false
none_wrong_mask [] legal = refl
none_wrong_mask (l ∷ links) legal =
    ap (λ (b : Bool). b || list_any has_wrong_mask (map raw_link_of links)) (wrong_mask_none l legal.0) ∙ none_wrong_mask links legal.1

pub none_unknown : (links : List RouterLink) → list_any is_unknown (map raw_link_of links) ≡ false
none_unknown [] = refl
none_unknown (l ∷ links) =
    ap (λ (b : Bool). b || list_any is_unknown (map raw_link_of links)) (known l.kind) ∙ none_unknown links

-- ---- read, then written

-- the entries that are read are this many, and their bytes are those in front
pub record EntriesTaken (n : ℕ) (bytes : List ℕ) : Type 0 where
  pub text : flat_map link_tos_bytes (map tos_of (raw_entries n bytes)) ++ drop (4 * n) bytes ≡ bytes
  pub legal : AllByRecursion IsLegalLinkTos (map tos_of (raw_entries n bytes))
  pub count : length (map tos_of (raw_entries n bytes)) ≡ n

entry_text : (bytes : List ℕ) → 4 ≤ length bytes → IsBytes bytes → slice_index bytes 1 ≡ 0 → slice_index bytes 0 ∷ 0 ∷ (big_bytes 2 (big_number 2 (drop 2 bytes)) ++ drop 4 bytes) ≡ bytes
entry_text bytes long fits reserved =
    let t2 = word_2 2 bytes (omega arith) fits in
    let t1 : slice_index bytes 1 ∷ drop 2 bytes ≡ drop 1 bytes = byte_1 1 bytes (omega arith) in
    let t0 : slice_index bytes 0 ∷ drop 1 bytes ≡ bytes = byte_1 0 bytes (omega arith) in
    ap (λ (r : List ℕ). slice_index bytes 0 ∷ 0 ∷ r) t2 ∙ ap (λ (b : ℕ). slice_index bytes 0 ∷ b ∷ drop 2 bytes) (sym reserved) ∙ ap (λ (r : List ℕ). slice_index bytes 0 ∷ r) t1 ∙ t0

pub entries_take : (n : ℕ) (bytes : List ℕ) → IsBytes bytes → 4 * n ≤ length bytes → list_any is_set (raw_entries n bytes) ≡ false → EntriesTaken n bytes
unfolding raw_entries
entries_take zero bytes fits room none = record { text = refl; legal = tt; count = refl }
entries_take (suc n) bytes fits room none =
    let reserved : slice_index bytes 1 ≡ 0 = eqb-true _ _ (not_false _ (or_left (not (eqb (slice_index bytes 1) 0)) (list_any is_set (raw_entries n (drop 4 bytes))) none)) in
    let rest : list_any is_set (raw_entries n (drop 4 bytes)) ≡ false = or_right (not (eqb (slice_index bytes 1) 0)) (list_any is_set (raw_entries n (drop 4 bytes))) none in
    let more = entries_take n (drop 4 bytes) (IsBytes-drop 4 bytes fits) (omega (arith, length-drop 4 bytes)) rest in
    let metric : big_number 2 (drop 2 bytes) < 256 ^ 2 = number_below 2 (drop 2 bytes) (IsBytes-drop 2 bytes fits) in
    let place : drop (4 * n) (drop 4 bytes) ≡ drop (4 * suc n) bytes = drop-drop (4 * n) 4 bytes ∙ ap (λ (k : ℕ). drop k bytes) (omega arith) in
    record {
      text = ap (λ (r : List ℕ). slice_index bytes 0 ∷ 0 ∷ (big_bytes 2 (big_number 2 (drop 2 bytes)) ++ (flat_map link_tos_bytes (map tos_of (raw_entries n (drop 4 bytes))) ++ r))) (sym place)
          ∙ ap (λ (r : List ℕ). slice_index bytes 0 ∷ 0 ∷ (big_bytes 2 (big_number 2 (drop 2 bytes)) ++ r)) more.text
          ∙ entry_text bytes (omega arith) fits reserved;
      legal = (record { tos = fits 0; metric = metric }, more.legal);
      count = omega (arith, more.count);
    }

-- what represents a link is a link
pub record LinkTaken (bytes : List ℕ) : Type 0 where
  pub text : link_bytes (link_of (raw_link bytes)) ++ drop (link_size bytes) bytes ≡ bytes
  pub legal : IsLegalLink (link_of (raw_link bytes))

number_back : (k : ℕ) → (ltb k 1 || ltb 4 k) ≡ false → number_of_kind (kind_of_number k) ≡ k
number_back zero e = absurd cc
number_back (suc zero) e = refl
number_back (suc (suc zero)) e = refl
number_back (suc (suc (suc zero))) e = refl
number_back (suc (suc (suc (suc zero)))) e = refl
number_back (suc (suc (suc (suc (suc k))))) e =
    let le : suc (suc (suc (suc (suc k)))) ≤ 4 = ltb-false _ _ (or_right (ltb (suc (suc (suc (suc (suc k))))) 1) (ltb 4 (suc (suc (suc (suc (suc k)))))) e) in
    absurd (omega arith)

-- a stub link's Link Data is a mask, since it would have been found
detail_legal : (k detail : ℕ) → detail < 2 ^ 32 → (ltb k 1 || ltb 4 k) ≡ false → (eqb k 3 && not (is_mask detail)) ≡ false → IsLegalDetail (kind_of_number k) detail
detail_legal zero detail lt u e = tt
detail_legal (suc zero) detail lt u e = tt
detail_legal (suc (suc zero)) detail lt u e = tt
detail_legal (suc (suc (suc zero))) detail lt u e = IsMask-from_test detail lt (not_false _ e)
detail_legal (suc (suc (suc (suc zero)))) detail lt u e = tt
detail_legal (suc (suc (suc (suc (suc k))))) detail lt u e =
    let le : suc (suc (suc (suc (suc k)))) ≤ 4 = ltb-false _ _ (or_right (ltb (suc (suc (suc (suc (suc k))))) 1) (ltb 4 (suc (suc (suc (suc (suc k)))))) u) in
    absurd (omega arith)

pub link_takes : (bytes : List ℕ) → IsBytes bytes → is_whole bytes ≡ true → has_reserved_entry (raw_link bytes) ≡ false → has_wrong_mask (raw_link bytes) ≡ false → is_unknown (raw_link bytes) ≡ false → LinkTaken bytes
link_takes bytes fits whole no_reserved no_mask no_unknown =
    let room : 12 + 4 * slice_index bytes 9 ≤ length bytes = leb-true _ _ whole in
    let n : ℕ = slice_index bytes 9 in
    let entries = entries_take n (drop 12 bytes) (IsBytes-drop 12 bytes fits) (omega (arith, length-drop 12 bytes)) no_reserved in
    let tos : List Tos = map tos_of (raw_entries n (drop 12 bytes)) in
    let place : drop (4 * n) (drop 12 bytes) ≡ drop (link_size bytes) bytes = drop-drop (4 * n) 12 bytes in
    let t12 : flat_map link_tos_bytes tos ++ drop (link_size bytes) bytes ≡ drop 12 bytes = ap (λ (r : List ℕ). flat_map link_tos_bytes tos ++ r) (sym place) ∙ entries.text in
    let t10 : big_bytes 2 (big_number 2 (drop 10 bytes)) ++ (flat_map link_tos_bytes tos ++ drop (link_size bytes) bytes) ≡ drop 10 bytes = ap (λ (r : List ℕ). big_bytes 2 (big_number 2 (drop 10 bytes)) ++ r) t12 ∙ word_2 10 bytes (omega arith) fits in
    let t9 : length tos ∷ (big_bytes 2 (big_number 2 (drop 10 bytes)) ++ (flat_map link_tos_bytes tos ++ drop (link_size bytes) bytes)) ≡ drop 9 bytes = ap (λ (r : List ℕ). length tos ∷ r) t10 ∙ ap (λ (k : ℕ). k ∷ drop 10 bytes) entries.count ∙ byte_1 9 bytes (omega arith) in
    let kind : number_of_kind (kind_of_number (slice_index bytes 8)) ≡ slice_index bytes 8 = number_back (slice_index bytes 8) no_unknown in
    let t8 : number_of_kind (kind_of_number (slice_index bytes 8)) ∷ length tos ∷ (big_bytes 2 (big_number 2 (drop 10 bytes)) ++ (flat_map link_tos_bytes tos ++ drop (link_size bytes) bytes)) ≡ drop 8 bytes = ap (λ (r : List ℕ). number_of_kind (kind_of_number (slice_index bytes 8)) ∷ r) t9 ∙ ap (λ (k : ℕ). k ∷ drop 9 bytes) kind ∙ byte_1 8 bytes (omega arith) in
    let t4 = ap (λ (r : List ℕ). big_bytes 4 (big_number 4 (drop 4 bytes)) ++ r) t8 ∙ word_4 4 bytes (omega arith) fits in
    let detail : big_number 4 (drop 4 bytes) < 256 ^ 4 = number_below 4 (drop 4 bytes) (IsBytes-drop 4 bytes fits) in
    record {
      text = ap (λ (r : List ℕ). big_bytes 4 (big_number 4 bytes) ++ r) t4 ∙ back_4 bytes (omega arith) fits;
      legal = record {
        id = number_below 4 bytes fits;
        detail = detail;
        mask = detail_legal (slice_index bytes 8) (big_number 4 (drop 4 bytes)) detail no_unknown no_mask;
        metric = number_below 2 (drop 10 bytes) (IsBytes-drop 10 bytes fits);
        entries = omega (arith, entries.count, fits 9);
        tos = entries.legal;
      };
    }

-- what a whole walk met is spelled so
pub record WalkTaken (n : ℕ) (bytes : List ℕ) : Type 0 where
  pub text : flat_map link_bytes (map link_of (walk n bytes).met) ++ (walk n bytes).left ≡ bytes
  pub legal : AllByRecursion IsLegalLink (map link_of (walk n bytes).met)

suc_same : (a b : ℕ) → suc a ≡ suc b → a ≡ b
suc_same a b e = omega arith

walk_takes_link : (n : ℕ) (bytes : List ℕ) → WalkTaken n (drop (link_size bytes) bytes) → LinkTaken bytes → is_whole bytes ≡ true → WalkTaken (suc n) bytes
walk_takes_link n bytes more link whole =
    let step = whole_step n bytes whole in
    let w = walk n (drop (link_size bytes) bytes) in
    let text : (link_bytes (link_of (raw_link bytes)) ++ flat_map link_bytes (map link_of w.met)) ++ w.left ≡ bytes = append_assoc (link_bytes (link_of (raw_link bytes))) (flat_map link_bytes (map link_of w.met)) w.left ∙ ap (λ (r : List ℕ). link_bytes (link_of (raw_link bytes)) ++ r) more.text ∙ link.text in
    record {
      text = ap (λ (v : Walk). flat_map link_bytes (map link_of v.met) ++ v.left) step ∙ text;
      legal = subst (λ (v : Walk). AllByRecursion IsLegalLink (map link_of v.met)) (sym step) (link.legal, more.legal);
    }

stuck_step : (n : ℕ) (bytes : List ℕ) → is_whole bytes ≡ false → walk (suc n) bytes ≡ record { met = []; left = bytes }
unfolding walk
stuck_step n bytes e = rw e refl

pub walk_takes : (n : ℕ) (bytes : List ℕ) → IsBytes bytes → length (walk n bytes).met ≡ n → list_any has_reserved_entry (walk n bytes).met ≡ false → list_any has_wrong_mask (walk n bytes).met ≡ false → list_any is_unknown (walk n bytes).met ≡ false
    → WalkTaken n bytes
unfolding walk
walk_takes zero bytes fits met no_reserved no_mask no_unknown = record { text = refl; legal = tt }
walk_takes (suc n) bytes fits met no_reserved no_mask no_unknown =
    elim (bool_cases (is_whole bytes)) [
      | inr stuck ↦ absurd (omega (arith, met, ap (λ (w : Walk). length w.met) (stuck_step n bytes stuck)))
      | inl whole ↦
          let step = whole_step n bytes whole in
          let after : List ℕ = drop (link_size bytes) bytes in
          let fewer : length (walk n after).met ≡ n = omega (arith, met, ap (λ (w : Walk). length w.met) step) in
          let r : (has_reserved_entry (raw_link bytes) || list_any has_reserved_entry (walk n after).met) ≡ false = ap (λ (w : Walk). list_any has_reserved_entry w.met) (sym step) ∙ no_reserved in
          let m : (has_wrong_mask (raw_link bytes) || list_any has_wrong_mask (walk n after).met) ≡ false = ap (λ (w : Walk). list_any has_wrong_mask w.met) (sym step) ∙ no_mask in
          let u : (is_unknown (raw_link bytes) || list_any is_unknown (walk n after).met) ≡ false = ap (λ (w : Walk). list_any is_unknown w.met) (sym step) ∙ no_unknown in
          let link = link_takes bytes fits whole (or_left _ _ r) (or_left _ _ m) (or_left _ _ u) in
          let more = walk_takes n after (IsBytes-drop (link_size bytes) bytes fits) fewer (or_right _ _ r) (or_right _ _ m) (or_right _ _ u) in
          walk_takes_link n bytes more link whole
    ]

-- What one more fragment does to what is kept.
use Rattle.std.proofs.Common.{◌≡◌, ◌≢◌, ◌⊎◌, ℕ, ◌-◌, ◌<◌, ◌≤◌, Bool, true, false, cond, map, List, [], ◌∷◌, ◌++◌, length, get_or, refl, sym, ap, subst, ◌∙◌, inl, inr, Option, Some, None, IsSome, Result, Ok, Err, OnOk, IfOk, option_map, Vec, Global, arith}
use Rattle.std.specs.Prelude.{if◌then◌else◌}
use Rattle.std.specs.List.{list_any, find}
use Rattle.std.specs.Option.{unwrap_or}
use Rattle.std.proofs.lemmas.List.{length-append}
use Rattle.packets.specs.declared.fragments.TheConstants.{MOST}
use Rattle.packets.specs.declared.key.FragmentKey.{FragmentKey}
use Rattle.packets.specs.Parts.{FragmentPart, AreAgreed}
use Rattle.packets.specs.Kept.{Kept, nothing_of, same_key, IsMadeOf, contradicts, with_part, is_whole, payload_of}
use Rattle.packets.specs.Keeping.{AreKeysApart, has_key, kept_of, without, put, latest, is_done, kept_after, whole_with, IsPayloadAnswer}
use Rattle.packets.specs.Taking.{IsFragmentTaken}
use Rattle.packets.proofs.Choices.{not_second, both, or_left, or_right, neither_is}
use Rattle.packets.proofs.ByKey.{key_equal, key_itself}
use Rattle.packets.proofs.Finding.{find_out, find_put, find_latest, find_others, find_beside, find_before, find_dropped}
use Rattle.packets.proofs.Making.{made, refused}
use Rattle.packets.proofs.WholeParts.{whole_just}
use Rattle.packets.proofs.Stepping.{apart_push}

-- ---- the datagram itself

pub nothing_made : (key : FragmentKey) → IsMadeOf [] (nothing_of key)
nothing_made key = record { ended = refl; agreed = tt; long = refl; bytes = λ place. refl }

key_step : (b : Bool) (key : FragmentKey) (kept : Kept) (all : List Kept) → has_key key kept ≡ b → (kept_of key all).key ≡ key → (kept_of key (kept ∷ all)).key ≡ key
key_step true key kept all e rest = ap (λ b. (unwrap_or (cond b (Some kept) (find (has_key key) all)) (nothing_of key)).key) e ∙ key_equal kept.key key e
key_step false key kept all e rest = ap (λ b. (unwrap_or (cond b (Some kept) (find (has_key key) all)) (nothing_of key)).key) e ∙ rest

-- what is kept of a datagram has its key
found_key : (key : FragmentKey) (all : List Kept) → (kept_of key all).key ≡ key
found_key key [] = refl
found_key key (kept ∷ all) = key_step (has_key key kept) key kept all refl (found_key key all)

has_its_key : (key : FragmentKey) (w : Kept) → w.key ≡ key → has_key key w ≡ true
has_its_key key w e = ap (λ (k : FragmentKey). same_key k key) e ∙ key_itself key

module _ (key : FragmentKey) (all : List Kept) where
  forgotten_of : kept_of key (without key all) ≡ nothing_of key
  forgotten_of = ap (λ (o : Option Kept). unwrap_or o (nothing_of key)) (find_out (has_key key) all)

  -- what is put, by whether the datagram is there
  put_by : Kept → Bool → List Kept
  put_by w b = if b then map (λ kept. if has_key key kept then w else kept) all else latest (all ++ w ∷ [])

  few : (w : Kept) → length (all ++ w ∷ []) - MOST ≤ length all
  few w = omega (arith, length-append all (w ∷ []))

  put_found : (w : Kept) (b : Bool) → has_key key w ≡ true → list_any (has_key key) all ≡ b → find (has_key key) (put key w all) ≡ Some w
  unfolding put_by
  put_found w true passes e = ap (λ b. find (has_key key) (put_by w b)) e ∙ find_put (has_key key) w all passes e
  put_found w false passes e = ap (λ b. find (has_key key) (put_by w b)) e ∙ find_latest (has_key key) w (length (all ++ w ∷ []) - MOST) all (few w) passes e

  put_of : (w : Kept) → w.key ≡ key → kept_of key (put key w all) ≡ w
  put_of w same = ap (λ (o : Option Kept). unwrap_or o (nothing_of key)) (put_found w (list_any (has_key key) all) (has_its_key key w same) refl)

  -- ---- other datagrams

  module _ (other : FragmentKey) (differs : other ≢ key) where
    misses_by : (b : Bool) (x : Kept) → has_key key x ≡ true → has_key other x ≡ b → has_key other x ≡ false
    misses_by true x e f = absurd (differs (sym (key_equal x.key other f) ∙ key_equal x.key key e))
    misses_by false x e f = f

    misses : (x : Kept) → has_key key x ≡ true → has_key other x ≡ false
    misses x e = misses_by (has_key other x) x e refl

    without_other : kept_of other (without key all) ≡ kept_of other all
    without_other = ap (λ (o : Option Kept). unwrap_or o (nothing_of other)) (find_others (has_key other) (has_key key) all misses)

    latest_other : (w : Kept) → has_key other w ≡ false → AreKeysApart (all ++ w ∷ [])
        → (find (has_key other) (latest (all ++ w ∷ [])) ≡ find (has_key other) all) ⊎ (find (has_key other) (latest (all ++ w ∷ [])) ≡ None)
    latest_other w fails apart =
        let only = λ (i j : ℕ) (d : Kept) (before : i < j) (inside : j < length (all ++ w ∷ []))
        (a : has_key other (get_or (all ++ w ∷ []) i d) ≡ true) (b : has_key other (get_or (all ++ w ∷ []) j d) ≡ true).
        apart i j d before inside (key_equal (get_or (all ++ w ∷ []) i d).key other a ∙ sym (key_equal (get_or (all ++ w ∷ []) j d).key other b)) in
        elim (find_dropped (has_key other) (length (all ++ w ∷ []) - MOST) (all ++ w ∷ []) only) [
          | inl same ↦ inl (same ∙ find_before (has_key other) w all fails)
          | inr none ↦ inr none
        ]

    put_beside : (w : Kept) (b : Bool) → has_key key w ≡ true → list_any (has_key key) all ≡ b → (b ≡ false → AreKeysApart (all ++ w ∷ []))
        → (find (has_key other) (put key w all) ≡ find (has_key other) all) ⊎ (find (has_key other) (put key w all) ≡ None)
    unfolding put_by
    put_beside w true passes e apart =
        inl (ap (λ b. find (has_key other) (put_by w b)) e ∙ find_beside (has_key other) (has_key key) w all (misses w passes) misses)
    put_beside w false passes e apart =
        elim (latest_other w (misses w passes) (apart refl)) [
          | inl same ↦ inl (ap (λ b. find (has_key other) (put_by w b)) e ∙ same)
          | inr none ↦ inr (ap (λ b. find (has_key other) (put_by w b)) e ∙ none)
        ]

    put_other : (w : Kept) → w.key ≡ key → AreKeysApart all → (kept_of other (put key w all) ≡ kept_of other all) ⊎ (kept_of other (put key w all) ≡ nothing_of other)
    put_other w same apart =
        elim (put_beside w (list_any (has_key key) all) (has_its_key key w same) refl
        (λ none. apart_push all w (ap (λ (k : FragmentKey). list_any (has_key k) all) same ∙ none) apart)) [
          | inl found ↦ inl (ap (λ (o : Option Kept). unwrap_or o (nothing_of other)) found)
          | inr none ↦ inr (ap (λ (o : Option Kept). unwrap_or o (nothing_of other)) none)
        ]

-- ---- all of it

some_none : (o : Option (List ℕ)) → IsSome o → None ≡ o → ⊥
some_none None some e = absurd cc
some_none (Some b) some e = cc

module _ (key : FragmentKey) (p : FragmentPart) (all : List Kept) where
  before : Kept
  before = kept_of key all

  after : Kept
  after = with_part p before

  after_by : Bool → List Kept
  after_by b = if b then without key all else put key after all

  done_by : (parts : List FragmentPart) → IsMadeOf parts before → ((AreAgreed (p ∷ parts) → ⊥) ⊎ IsSome (whole_with p before))
      → (c d : Bool) → contradicts p before ≡ c → is_whole after ≡ d → is_done p before ≡ true
  unfolding before after
  done_by parts of why true d against whole = or_left (contradicts p before) (is_whole after) against
  done_by parts of why false true fits whole = or_right (contradicts p before) (is_whole after) whole
  done_by parts of why false false fits whole =
      elim why [
        | inl differ ↦ absurd (differ (made p parts before of fits).agreed)
        | inr some ↦ absurd (some_none (whole_with p before) some (not_second (contradicts p before) (is_whole after) (Some (payload_of after)) None whole))
      ]

  going_on : (parts : List FragmentPart) → IsMadeOf parts before → AreAgreed (p ∷ parts) → whole_with p before ≡ None
      → (c d : Bool) → contradicts p before ≡ c → is_whole after ≡ d → (is_done p before ≡ false) × IsMadeOf (p ∷ parts) after
  unfolding before after
  going_on parts of agreed none true d against whole = absurd (refused p parts before of against agreed)
  going_on parts of agreed none false true fits whole =
      absurd (some_none (whole_with p before) (subst IsSome (both (contradicts p before) (is_whole after) (Some (payload_of after)) None fits whole) refl) (sym none))
  going_on parts of agreed none false false fits whole =
      (neither_is (contradicts p before) (is_whole after) fits whole, made p parts before of fits)

  others_by : (b : Bool) (other : FragmentKey) → other ≢ key → AreKeysApart all → is_done p before ≡ b
      → (kept_of other (kept_after key p all) ≡ kept_of other all) ⊎ (kept_of other (kept_after key p all) ≡ nothing_of other)
  unfolding before after after_by
  others_by true other differs apart done = inl (ap (λ b. kept_of other (after_by b)) done ∙ without_other key all other differs)
  others_by false other differs apart done =
      elim (put_other key all other differs after (found_key key all) apart) [
        | inl same ↦ inl (ap (λ b. kept_of other (after_by b)) done ∙ same)
        | inr none ↦ inr (ap (λ b. kept_of other (after_by b)) done ∙ none)
      ]

  pub all_taken : AreKeysApart all → IsFragmentTaken key p all (kept_after key p all) (whole_with p (kept_of key all))
  unfolding before after after_by
  all_taken apart = record {
    whole = λ parts of payload. whole_just p parts before of payload;
    forgotten = λ parts of why.
        let done = done_by parts of why (contradicts p before) (is_whole after) refl refl in
        subst (IsMadeOf []) (sym (ap (λ b. kept_of key (after_by b)) done ∙ forgotten_of key all)) (nothing_made key);
    kept = λ parts of agreed none.
        let going = going_on parts of agreed none (contradicts p before) (is_whole after) refl refl in
        subst (IsMadeOf (p ∷ parts)) (sym (ap (λ b. kept_of key (after_by b)) going.0 ∙ put_of key all after (found_key key all))) going.1;
    others = λ other differs. others_by (is_done p before) other differs apart refl;
  }

-- ---- what a call answers

pub taken_from : {E : Type 0} (r : Result (Option (Vec ℕ Global)) E) (key : FragmentKey) (p : FragmentPart) (all new : List Kept) → AreKeysApart all
    → OnOk r (new ≡ kept_after key p all) → IsPayloadAnswer r (whole_with p (kept_of key all))
    → IfOk r (λ payload. IsFragmentTaken key p all new (option_map (λ v. v.items) payload))
taken_from (Ok payload) key p all new apart kept answer =
    subst (λ (n : List Kept). IsFragmentTaken key p all n (option_map (λ v. v.items) payload)) (sym kept)
    (subst (λ (a : Option (List ℕ)). IsFragmentTaken key p all (kept_after key p all) a) (sym answer) (all_taken key p all apart))
taken_from (Err e) key p all new apart kept answer = tt

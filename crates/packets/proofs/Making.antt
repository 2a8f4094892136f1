-- The kept parts are made of the fragments that were received.
use Rattle.std.proofs.Common.{◌≡◌, ℕ, zero, suc, ◌+◌, ◌-◌, ◌<◌, ◌≤◌, max, Bool, true, false, ◌&&◌, ◌||◌, ltb, leb, List, [], ◌∷◌, ◌++◌, length, get_or, take, drop, map, replicate, refl, sym, ap, ◌∙◌, inl, inr, Option, Some, None, arith}
use Rattle.std.specs.Prelude.{if◌then◌else◌, slice_index}
use Rattle.std.specs.List.{AllByRecursion}
use Rattle.std.proofs.lemmas.Bool.{cases_lt, le-leb, lt-leb, lt-ltb, le-ltb, ltb-true, ltb-false}
use Rattle.std.proofs.lemmas.List.{length-append, length-drop, length-take-le, length-map, length-replicate, get_or_append_left, get_or-append_right, get_or-map, get_or-take, get_or-drop}
use Rattle.packets.specs.Parts.{FragmentPart, end_of, has_place, byte_at, extent, has_last, AreAgreed}
use Rattle.packets.specs.Kept.{Kept, IsMadeOf, contradicts, grown, written, with_part}
use Rattle.packets.proofs.Choices.{or_false, or_left, or_right, or_cases, and_false}

-- ---- more places

none_there : (n i : ℕ) → get_or (replicate n (let none : Option ℕ = None in none)) i None ≡ None
none_there zero i = refl
none_there (suc n) zero = refl
none_there (suc n) (suc i) = none_there n i

more_none : (cells : List (Option ℕ)) (n i : ℕ) → get_or (cells ++ replicate n None) i None ≡ get_or cells i None
more_none [] n i = none_there n i
more_none (x ∷ cells) n zero = refl
more_none (x ∷ cells) n (suc i) = more_none cells n i

length-grown : (size : ℕ) (cells : List (Option ℕ)) → length (grown size cells) ≡ max size (length cells)
length-grown size cells =
    let empty : List (Option ℕ) = replicate (size - length cells) None in
    let many : length empty ≡ size - length cells = length-replicate (size - length cells) None in
    omega (arith, length-append cells empty)

-- ---- bytes at an offset

module _ (offset : ℕ) (payload : List ℕ) (cells : List (Option ℕ)) (inside : offset + length payload ≤ length cells) where
  front : List (Option ℕ)
  front = take offset cells

  middle : List (Option ℕ)
  middle = map (λ b. Some b) payload

  back : List (Option ℕ)
  back = drop (offset + length payload) cells

  length-front : length front ≡ offset
  unfolding front
  length-front = length-take-le offset cells (omega arith)

  length-both : length (front ++ middle) ≡ offset + length payload
  unfolding middle
  length-both =
      let mapped : length middle ≡ length payload = length-map payload (λ (b : ℕ). Some b) in
      omega (arith, length-append front middle, length-front)

  length-written : length (written offset payload cells) ≡ length cells
  unfolding front middle back
  length-written =
      let both : length (front ++ middle) ≡ offset + length payload = length-both in
      omega (arith, length-append (front ++ middle) back, length-drop (offset + length payload) cells)

  written_before : (i : ℕ) → i < offset → get_or (written offset payload cells) i None ≡ get_or cells i None
  unfolding front middle back
  written_before i lt =
      let f : i < length front = omega (arith, length-front) in
      let b : i < length (front ++ middle) = omega (arith, length-both) in
      get_or_append_left (front ++ middle) back None i b ∙ get_or_append_left front middle None i f ∙ get_or-take offset cells i None lt

  written_in : (i : ℕ) → offset ≤ i → i < offset + length payload → get_or (written offset payload cells) i None ≡ Some (slice_index payload (i - offset))
  unfolding front middle back
  written_in i from lt =
      let b : i < length (front ++ middle) = omega (arith, length-both) in
      get_or_append_left (front ++ middle) back None i b
      ∙ get_or-append_right front middle offset i None length-front from
      ∙ get_or-map (λ (b : ℕ). Some b) payload (i - offset) 0 None (omega arith)

  written_past : (i : ℕ) → offset + length payload ≤ i → get_or (written offset payload cells) i None ≡ get_or cells i None
  unfolding front middle back
  written_past i from =
      let same : (offset + length payload) + (i - (offset + length payload)) ≡ i = omega arith in
      get_or-append_right (front ++ middle) back (offset + length payload) i None length-both from
      ∙ get_or-drop (offset + length payload) cells (i - (offset + length payload)) None
      ∙ ap (λ k. get_or cells k None) same

-- ---- one more fragment

abbrev IsMadeAt : List (Option ℕ) → List FragmentPart → Type 0
IsMadeAt cells parts = (place : ℕ) → get_or cells place None ≡ byte_at parts place

has_not_before : (p : FragmentPart) (i : ℕ) → i < p.offset → has_place i p ≡ false
has_not_before p i lt = rw (lt-leb p.offset i lt) refl

has_not_past : (p : FragmentPart) (i : ℕ) → end_of p ≤ i → has_place i p ≡ false
has_not_past p i from = and_false (leb p.offset i) (ltb i (end_of p)) (le-ltb i (end_of p) from)

has_in : (p : FragmentPart) (i : ℕ) → p.offset ≤ i → i < end_of p → has_place i p ≡ true
has_in p i from lt = rw (le-leb p.offset i from, lt-ltb i (end_of p) lt) refl

-- the byte of the fragment, or that of the others
byte_else : (p : FragmentPart) (parts : List FragmentPart) (i : ℕ) → has_place i p ≡ false → byte_at parts i ≡ byte_at (p ∷ parts) i
byte_else p parts i e = ap (λ b. if b then Some (slice_index p.payload (i - p.offset)) else byte_at parts i) (sym e)

byte_there : (p : FragmentPart) (parts : List FragmentPart) (i : ℕ) → has_place i p ≡ true → Some (slice_index p.payload (i - p.offset)) ≡ byte_at (p ∷ parts) i
byte_there p parts i e = ap (λ b. if b then Some (slice_index p.payload (i - p.offset)) else byte_at parts i) (sym e)

made_at : (p : FragmentPart) (parts : List FragmentPart) (cells : List (Option ℕ)) → IsMadeAt cells parts → IsMadeAt (written p.offset p.payload (grown (end_of p) cells)) (p ∷ parts)
made_at p parts cells made i =
    let all : List (Option ℕ) = grown (end_of p) cells in
    let inside : p.offset + length p.payload ≤ length all = omega (arith, length-grown (end_of p) cells) in
    let others : get_or all i None ≡ byte_at parts i = more_none cells (end_of p - length cells) i ∙ made i in
    elim (cases_lt i p.offset) [
      | inl lt ↦ written_before p.offset p.payload all inside i lt ∙ others ∙ byte_else p parts i (has_not_before p i lt)
      | inr from ↦ elim (cases_lt i (end_of p)) [
        | inl lt ↦ written_in p.offset p.payload all inside i from lt ∙ byte_there p parts i (has_in p i from lt)
        | inr past ↦ written_past p.offset p.payload all inside i past ∙ others ∙ byte_else p parts i (has_not_past p i past)
      ]
    ]

pub long_at : (p : FragmentPart) (cells : List (Option ℕ)) → length (written p.offset p.payload (grown (end_of p) cells)) ≡ max (end_of p) (length cells)
long_at p cells =
    let inside : p.offset + length p.payload ≤ length (grown (end_of p) cells) = omega (arith, length-grown (end_of p) cells) in
    length-written p.offset p.payload (grown (end_of p) cells) inside ∙ length-grown (end_of p) cells

-- ---- what agrees

-- none of the fragments that is the last one ends before the place
abbrev NoneEndsBefore : ℕ → List FragmentPart → Type 0
NoneEndsBefore place parts = AllByRecursion (λ p. p.is_last ≡ true → place ≤ end_of p) parts

none_later : (from to : ℕ) (parts : List FragmentPart) → (has_last parts ≡ true → to ≤ from) → NoneEndsBefore from parts → NoneEndsBefore to parts
none_later from to [] bound all = tt
none_later from to (p ∷ parts) bound all = (
  (λ last. let here : from ≤ end_of p = all.0 last in let near : to ≤ from = bound (or_left p.is_last (has_last parts) last) in omega arith),
  none_later from to parts (λ some. bound (or_right p.is_last (has_last parts) some)) all.1,
)

-- where some fragment is the last one, the others reach as far
last_reaches : (place : ℕ) (parts : List FragmentPart) → has_last parts ≡ true → NoneEndsBefore place parts → place ≤ extent parts
last_reaches place [] some all = absurd cc
last_reaches place (p ∷ parts) some all =
    elim (or_cases p.is_last (has_last parts) some) [
      | inl last ↦ let here : place ≤ end_of p = all.0 last in omega arith
      | inr others ↦ let rest : place ≤ extent parts = last_reaches place parts others all.1 in omega arith
    ]

agrees_end : (a : Bool) (m n : ℕ) → (a && ltb m n) ≡ false → a ≡ true → n ≤ m
agrees_end true m n e f = ltb-false m n e
agrees_end false m n e f = absurd cc

pub made : (p : FragmentPart) (parts : List FragmentPart) (kept : Kept) → IsMadeOf parts kept → contradicts p kept ≡ false → IsMadeOf (p ∷ parts) (with_part p kept)
made p parts kept of fits =
    let split = or_false (kept.has_end && ltb (length kept.bytes) (end_of p)) (p.is_last && ltb (end_of p) (length kept.bytes)) fits in
    let reach : (has_last parts ≡ true → max (end_of p) (extent parts) ≤ extent parts) =
    λ some. let bound : end_of p ≤ length kept.bytes = agrees_end kept.has_end (length kept.bytes) (end_of p) split.0 (of.ended ∙ some) in omega (arith, of.long) in
    record {
      ended = ap (λ b. p.is_last || b) of.ended;
      agreed = (
        (λ last. let bound : length kept.bytes ≤ end_of p = agrees_end p.is_last (end_of p) (length kept.bytes) split.1 last in omega (arith, of.long)),
        none_later (extent parts) (max (end_of p) (extent parts)) parts reach of.agreed,
      );
      long = long_at p kept.bytes ∙ ap (λ n. max (end_of p) n) of.long;
      bytes = made_at p parts kept.bytes of.bytes;
    }

-- ---- what contradicts

contradicted_end : (a : Bool) (m n : ℕ) → (a && ltb m n) ≡ true → (a ≡ true) × (m < n)
contradicted_end true m n e = (refl, ltb-true m n e)
contradicted_end false m n e = absurd cc

pub refused : (p : FragmentPart) (parts : List FragmentPart) (kept : Kept) → IsMadeOf parts kept → contradicts p kept ≡ true → AreAgreed (p ∷ parts) → ⊥
refused p parts kept of against agreed =
    elim (or_cases (kept.has_end && ltb (length kept.bytes) (end_of p)) (p.is_last && ltb (end_of p) (length kept.bytes)) against) [
      | inl past ↦
          let ends = contradicted_end kept.has_end (length kept.bytes) (end_of p) past in
          let far : max (end_of p) (extent parts) ≤ extent parts = last_reaches (max (end_of p) (extent parts)) parts (sym of.ended ∙ ends.0) agreed.1 in
          absurd (omega (arith, ends.1, of.long))
      | inr before ↦
          let ends = contradicted_end p.is_last (end_of p) (length kept.bytes) before in
          let far : max (end_of p) (extent parts) ≤ end_of p = agreed.0 ends.0 in
          absurd (omega (arith, ends.1, of.long))
    ]

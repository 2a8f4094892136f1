-- The links that were removed and added, from the lists before and after.
--   behind_same: after a front that two lists share, the links of one that are not in the other
--   before_same: and before a back that they share
--   of_none, of_more, of_all: a list that grows with each fresh row
--   kept_apart: and has no link twice
use Rattle.std.proofs.Common.{◌≡◌, ◌↔◌, ◌⊎◌, inl, inr, ⊎_elim, ℕ, zero, suc, ◌+◌, ◌-◌, ◌<◌, ◌≤◌, List, [], ◌∷◌, ◌++◌, length, get_or, take, drop, map, append_assoc, refl, sym, ap, subst, ◌∙◌, arith}
use Rattle.std.specs.Prelude.{Contains}
use Rattle.std.proofs.lemmas.List.{drop_all, drop_more, take_all, take_more, get_or-map, length-drop, length-map}
use Rattle.std.proofs.lemmas.List.Elements.{Contains-append_left, Contains-append_right, Contains-append_cases}
use Rattle.ospf_types.specs.declared.entry.Vertex.{Vertex}
use Rattle.ospf_types.proofs.Elements.{no_element, first_or_later, mapped_element}
use Rattle.graph_links.specs.declared.row_update.RowUpdate.{RowUpdate}
use Rattle.graph_links.specs.declared.link.GraphLink.{GraphLink}
use Rattle.graph_links.specs.Pairs.{AreApart}
use Rattle.graph_links.specs.Sides.{AreLinksOut, AreOfFresh}
use Rattle.graph_links.proofs.Apart.{Apart, apart_append, apart_cons, apart_first, apart_nil, apart_rest, apart_without, not_among_earlier}
use Rattle.graph_links.proofs.Growing.{more_at}

module _ {X : Type 0} where
  -- what is in the first of two parts is not in the second
  pub apart_parts : (xs ys : List X) (x : X) → Apart (xs ++ ys) → Contains xs x → Contains ys x → ⊥
  apart_parts [] ys x apart early late = no_element x early
  apart_parts (z ∷ xs) ys x apart early late =
      ⊎_elim
      (λ (same : x ≡ z). apart_first z x (xs ++ ys) apart (Contains-append_right xs ys x late) (sym same))
      (λ (later : Contains xs x). apart_parts xs ys x (apart_rest z (xs ++ ys) apart) later late)
      (first_or_later z x xs early)

  -- the second part may lose its front
  pub apart_drop : (n : ℕ) (old xs : List X) → Apart (old ++ xs) → Apart (old ++ drop n xs)
  apart_drop zero old xs apart = apart
  apart_drop (suc n) old [] apart = apart
  apart_drop (suc n) old (x ∷ xs) apart = apart_drop n old xs (apart_without old xs x apart)

  parts : (n : ℕ) (xs : List X) → take n xs ++ drop n xs ≡ xs
  parts zero xs = refl
  parts (suc n) [] = refl
  parts (suc n) (x ∷ xs) = ap (λ (ys : List X). x ∷ ys) (parts n xs)

  in_front : (n : ℕ) (xs : List X) (x : X) → Contains (take n xs) x → Contains xs x
  in_front n xs x c = subst (λ (ys : List X). Contains ys x) (parts n xs) (Contains-append_left (take n xs) (drop n xs) x c)

  behind : (n : ℕ) (xs : List X) (x : X) → Contains (drop n xs) x → Contains xs x
  behind n xs x c = subst (λ (ys : List X). Contains ys x) (parts n xs) (Contains-append_right (take n xs) (drop n xs) x c)

  either : (n : ℕ) (xs : List X) (x : X) → Contains xs x → Contains (take n xs) x ⊎ Contains (drop n xs) x
  either n xs x c = Contains-append_cases (take n xs) (drop n xs) x (subst (λ (ys : List X). Contains ys x) (sym (parts n xs)) c)

  -- after a front that two lists share
  pub behind_same : (n : ℕ) (xs ys : List X) → take n xs ≡ take n ys → Apart xs → (x : X) → (Contains (drop n xs) x × (Contains (drop n ys) x → ⊥)) ↔ (Contains xs x × (Contains ys x → ⊥))
  behind_same n xs ys same apart x = (
    λ h. (
      behind n xs x h.0,
      λ c. ⊎_elim
          (λ (front : Contains (take n ys) x).
          apart_parts (take n xs) (drop n xs) x (subst (λ (zs : List X). Apart zs) (sym (parts n xs)) apart) (subst (λ (zs : List X). Contains zs x) (sym same) front) h.0)
          h.1 (either n ys x c),
    ),
    λ h. (
      ⊎_elim
          (λ (front : Contains (take n xs) x). absurd (h.1 (in_front n ys x (subst (λ (zs : List X). Contains zs x) same front))))
          (λ (c : Contains (drop n xs) x). c) (either n xs x h.0),
      λ c. h.1 (behind n ys x c),
    ),
  )

  -- before a back that two lists share
  pub before_same : (n m : ℕ) (xs ys : List X) → drop n xs ≡ drop m ys → Apart xs → (x : X) → (Contains (take n xs) x × (Contains (take m ys) x → ⊥)) ↔ (Contains xs x × (Contains ys x → ⊥))
  before_same n m xs ys same apart x = (
    λ h. (
      in_front n xs x h.0,
      λ c. ⊎_elim h.1
          (λ (back : Contains (drop m ys) x).
          apart_parts (take n xs) (drop n xs) x (subst (λ (zs : List X). Apart zs) (sym (parts n xs)) apart) h.0 (subst (λ (zs : List X). Contains zs x) (sym same) back))
          (either m ys x c),
    ),
    λ h. (
      ⊎_elim
          (λ (c : Contains (take n xs) x). c)
          (λ (back : Contains (drop n xs) x). absurd (h.1 (behind m ys x (subst (λ (zs : List X). Contains zs x) same back)))) (either n xs x h.0),
      λ c. h.1 (in_front m ys x c),
    ),
  )

  -- the front of a list in which nothing occurs twice
  apart_left : (xs ys : List X) → Apart (xs ++ ys) → Apart xs
  apart_left [] ys apart = apart_nil
  apart_left (x ∷ xs) ys apart = apart_cons x xs (λ c. apart_first x x (xs ++ ys) apart (Contains-append_left xs ys x c) refl) (apart_left xs ys (apart_rest x (xs ++ ys) apart))

  -- the second part may lose its back
  pub apart_take : (n : ℕ) (old xs : List X) → Apart (old ++ xs) → Apart (old ++ take n xs)
  apart_take n old xs apart =
      apart_left (old ++ take n xs) (drop n xs)
      (subst (λ (zs : List X). Apart zs) (ap (λ (ys : List X). old ++ ys) (sym (parts n xs)) ∙ sym (append_assoc old (take n xs) (drop n xs))) apart)

-- a list that grows by what is before a back
pub grown_before : (n m : ℕ) (xs ys old new : List GraphLink) → drop n xs ≡ drop m ys → AreApart xs → ((l : GraphLink) → Contains new l ↔ (Contains old l ⊎ (Contains (take n xs) l × (Contains (take m ys) l → ⊥))))
    → (l : GraphLink) → Contains new l ↔ (Contains old l ⊎ (Contains xs l × (Contains ys l → ⊥)))
grown_before n m xs ys old new same apart grown l =
    let both = before_same n m xs ys same apart l in (
      λ c. ⊎_elim (λ (was : Contains old l). inl was) (λ (h : Contains (take n xs) l × (Contains (take m ys) l → ⊥)). inr (both.0 h)) ((grown l).0 c),
      λ h. (grown l).1 (⊎_elim (λ (was : Contains old l). inl was) (λ (w : Contains xs l × (Contains ys l → ⊥)). inr (both.1 w)) h),
    )

-- a list that grows by what is behind
pub grown_behind : (n : ℕ) (xs ys old new : List GraphLink) → take n xs ≡ take n ys → AreApart xs → ((l : GraphLink) → Contains new l ↔ (Contains old l ⊎ (Contains (drop n xs) l × (Contains (drop n ys) l → ⊥))))
    → (l : GraphLink) → Contains new l ↔ (Contains old l ⊎ (Contains xs l × (Contains ys l → ⊥)))
grown_behind n xs ys old new same apart grown l =
    let both = behind_same n xs ys same apart l in (
      λ c. ⊎_elim (λ (was : Contains old l). inl was) (λ (h : Contains (drop n xs) l × (Contains (drop n ys) l → ⊥)). inr (both.0 h)) ((grown l).0 c),
      λ h. (grown l).1 (⊎_elim (λ (was : Contains old l). inl was) (λ (w : Contains xs l × (Contains ys l → ⊥)). inr (both.1 w)) h),
    )

-- ---- lists that grow with each fresh row

abbrev vertex_of : RowUpdate → Vertex
vertex_of f = f.vertex

module _ (P : GraphLink → RowUpdate → Type 0) where
  pub of_none : (links : List GraphLink) → links ≡ [] → AreOfFresh P [] links
  of_none links none l = (
    λ c. absurd (no_element l (subst (λ (ls : List GraphLink). Contains ls l) none c)),
    λ h. absurd (no_element h.0 h.1),
  )

  pub of_more : (fresh : List RowUpdate) (i : ℕ) (d : RowUpdate) → i < length fresh → (old new : List GraphLink) → AreOfFresh P (take i fresh) old → ((l : GraphLink) → Contains new l ↔ (Contains old l ⊎ P l (get_or fresh i d)))
      → AreOfFresh P (take (i + 1) fresh) new
  of_more fresh i d lt old new before one l =
      let all = more_at fresh i d lt in (
        λ c. ⊎_elim
            (λ (was : Contains old l). let h = (before l).0 was in (h.0, (all h.0).1 (inl h.1), h.2))
            (λ (p : P l (get_or fresh i d)). (get_or fresh i d, (all (get_or fresh i d)).1 (inr refl), p)) ((one l).0 c),
        λ h. ⊎_elim
            (λ (early : Contains (take i fresh) h.0). (one l).1 (inl ((before l).1 (h.0, early, h.2))))
            (λ (same : h.0 ≡ get_or fresh i d). (one l).1 (inr (subst (P l) same h.2))) ((all h.0).0 h.1),
      )

  pub of_all : (fresh : List RowUpdate) (i : ℕ) (links : List GraphLink) → length fresh ≤ i → AreOfFresh P (take i fresh) links → AreOfFresh P fresh links
  of_all fresh i links past are = subst (λ (fs : List RowUpdate). AreOfFresh P fs links) (take_all i fresh past) are

  mapped_front : (i : ℕ) (fs : List RowUpdate) → map vertex_of (take i fs) ≡ take i (map vertex_of fs)
  mapped_front zero fs = refl
  mapped_front (suc i) [] = refl
  mapped_front (suc i) (f ∷ fs) = ap (λ (vs : List Vertex). vertex_of f ∷ vs) (mapped_front i fs)

  -- links of the next row were of none before
  pub kept_apart : (fresh : List RowUpdate) (at : (l : GraphLink) (f : RowUpdate) → Contains fresh f → P l f → l.from ≡ f.vertex) (i : ℕ) (d : RowUpdate) → i < length fresh → Apart (map vertex_of fresh) → (old more : List GraphLink)
      → AreOfFresh P (take i fresh) old → AreLinksOut (get_or fresh i d).vertex more → AreApart old → AreApart (old ++ more)
  kept_apart fresh at i d lt once old more are out apart =
      let here : get_or (map vertex_of fresh) i d.vertex ≡ (get_or fresh i d).vertex = get_or-map vertex_of fresh i d d.vertex lt in
      let long : i < length (map vertex_of fresh) = subst (λ (n : ℕ). i < n) (sym (length-map fresh vertex_of)) lt in
      apart_append old more apart out.0
      (λ l early late.
      let h = (are l).0 early in
      let same : h.0.vertex ≡ (get_or fresh i d).vertex = sym (at l h.0 (in_front i fresh h.0 h.1) h.2) ∙ out.1 l late in
      let among : Contains (take i (map vertex_of fresh)) h.0.vertex = subst (λ (vs : List Vertex). Contains vs h.0.vertex) (mapped_front i fresh) (mapped_element vertex_of (take i fresh) h.0 h.1) in
      not_among_earlier (map vertex_of fresh) i d.vertex long once (subst (Contains (take i (map vertex_of fresh))) (same ∙ sym here) among))

-- ---- links that are not among others

-- just those that there were, and those of the front that are not among the others
abbrev pub AreMissingUpTo : List GraphLink → List GraphLink → List GraphLink → ℕ → List GraphLink → Type 0
AreMissingUpTo others old has i new = (l : GraphLink) → Contains new l ↔ (Contains old l ⊎ (Contains (take i has) l × (Contains others l → ⊥)))

pub missing_none : (others old has : List GraphLink) → AreMissingUpTo others old has 0 old
missing_none others old has l = (λ c. inl c, λ h. elim h [ inl was ↦ was | inr n ↦ absurd (no_element l n.0) ])

pub missing_more : (others old has : List GraphLink) (i : ℕ) (d : GraphLink) (mid new : List GraphLink) → i < length has → AreMissingUpTo others old has i mid
    → ((l : GraphLink) → Contains new l ↔ (Contains mid l ⊎ ((l ≡ get_or has i d) × (Contains others l → ⊥)))) → AreMissingUpTo others old has (i + 1) new
missing_more others old has i d mid new lt before one l =
    let all = more_at has i d lt l in (
      λ c. elim ((one l).0 c) [
        | inl was ↦ elim ((before l).0 was) [ inl o ↦ inl o | inr n ↦ inr (all.1 (inl n.0), n.1) ]
        | inr n ↦ inr (all.1 (inr n.0), n.1)
      ],
      λ h. (one l).1 (elim h [
        | inl o ↦ inl ((before l).1 (inl o))
        | inr n ↦ elim (all.0 n.0) [ inl early ↦ inl ((before l).1 (inr (early, n.1))) | inr same ↦ inr (same, n.1) ]
      ]),
    )

pub missing_all : (others old has : List GraphLink) (i : ℕ) (new : List GraphLink) → length has ≤ i → AreMissingUpTo others old has i new → (l : GraphLink) → Contains new l ↔ (Contains old l ⊎ (Contains has l × (Contains others l → ⊥)))
missing_all others old has i new past are = subst (λ (ls : List GraphLink). (l : GraphLink) → Contains new l ↔ (Contains old l ⊎ (Contains ls l × (Contains others l → ⊥)))) (take_all i has past) are

-- ---- a list of copies

pub copied_more : (links : List GraphLink) (i : ℕ) (d : GraphLink) (made new : List GraphLink) (copy : GraphLink) → i < length links → made ≡ take i links → copy ≡ get_or links i d → new ≡ made ++ copy ∷ [] → new ≡ take (i + 1) links
copied_more links i d made new copy lt were is grown =
    grown ∙ ap (λ (ls : List GraphLink). ls ++ copy ∷ []) were ∙ ap (λ (l : GraphLink). take i links ++ l ∷ []) is ∙ sym (take_more links i d lt)

-- ---- fronts that are the same

pub same_more : (xs ys : List GraphLink) (i : ℕ) (d e : GraphLink) → i < length xs → i < length ys → take i xs ≡ take i ys → get_or xs i d ≡ get_or ys i e → take (i + 1) xs ≡ take (i + 1) ys
same_more xs ys i d e lt within same is =
    take_more xs i d lt ∙ ap (λ (ls : List GraphLink). ls ++ get_or xs i d ∷ []) same ∙ ap (λ (l : GraphLink). take i ys ++ l ∷ []) is ∙ sym (take_more ys i e within)

pub same_whole : (xs ys : List GraphLink) (i : ℕ) → length xs ≤ i → i ≤ length xs → take i xs ≡ take i ys → take (length xs) xs ≡ take (length xs) ys
same_whole xs ys i past within same =
    let all : i ≡ length xs = omega (arith, past, within) in
    subst (λ (n : ℕ). take n xs ≡ take n ys) all same

-- ---- backs that are the same

pub same_none : (xs ys : List GraphLink) → drop (length xs - 0) xs ≡ drop (length ys - 0) ys
same_none xs ys = drop_all (length xs - 0) xs (omega arith) ∙ sym (drop_all (length ys - 0) ys (omega arith))

-- one more in front of a back
one_more : (xs : List GraphLink) (i : ℕ) (d : GraphLink) → i < length xs → drop (length xs - (i + 1)) xs ≡ get_or xs (length xs - 1 - i) d ∷ drop (length xs - i) xs
one_more xs i d lt =
    let here : length xs - (i + 1) ≡ length xs - 1 - i = omega arith in
    let next : length xs - 1 - i + 1 ≡ length xs - i = omega (arith, lt) in
    ap (λ (n : ℕ). drop n xs) here ∙ drop_more xs (length xs - 1 - i) d (omega (arith, lt)) ∙ ap (λ (n : ℕ). get_or xs (length xs - 1 - i) d ∷ drop n xs) next

pub same_back_more : (xs ys : List GraphLink) (i : ℕ) (d e : GraphLink) → i < length xs → i < length ys → drop (length xs - i) xs ≡ drop (length ys - i) ys → get_or xs (length xs - 1 - i) d ≡ get_or ys (length ys - 1 - i) e
    → drop (length xs - (i + 1)) xs ≡ drop (length ys - (i + 1)) ys
same_back_more xs ys i d e lt within same is =
    one_more xs i d lt ∙ ap (λ (ls : List GraphLink). get_or xs (length xs - 1 - i) d ∷ ls) same ∙ ap (λ (l : GraphLink). l ∷ drop (length ys - i) ys) is ∙ sym (one_more ys i e within)

-- ---- what comes after a front

pub rest_is : (n : ℕ) (links : List GraphLink) → take (length links - n) (drop n links) ≡ drop n links
rest_is n links = take_all (length links - n) (drop n links) (let long = length-drop n links in omega (arith, long))

-- and nothing occurs twice there
pub apart_rests : (n : ℕ) (links : List GraphLink) → AreApart links → AreApart (take (length links - n) (drop n links))
apart_rests n links apart = subst AreApart (sym (rest_is n links)) (apart_drop n [] links apart)

-- Marks of the vertices of a list, and what is left of them with one vertex more or less.
use Rattle.std.proofs.Common.{◌≡◌, ◌≢◌, ℕ, zero, suc, ◌+◌, ◌<◌, ◌≤◌, ◌^◌, List, [], ◌∷◌, ◌++◌, length, take, get_or, Option, Some, None, refl, sym, subst, ◌∙◌, ◌⊎◌, inl, inr, arith}
use Rattle.std.specs.Prelude.{◌↔◌, Bool, IsTrue, slice_get, option_to_list}
use Rattle.std.specs.List.{Contains}
use Rattle.std.specs.FinMap.{insert, len}
use Rattle.std.proofs.lemmas.List.{take_more, length_push, length-take-le, get_or_append_left, append-nil}
use Rattle.std.proofs.lemmas.List.Elements.{Contains-append_left, Contains-push_cases, Contains-get_or}
use Rattle.std.proofs.lemmas.List.Quantifiers.{all_pairs_push}
use Rattle.std.proofs.lemmas.Option.{slice_get_within, get_or_from_slice_get}
use Rattle.ospf_types.specs.declared.entry.Vertex.{Vertex}
use Rattle.vertex_queue.specs.VertexSet.{HasNoDoubles}
use Rattle.vertex_queue.specs.Marks.{Marks, IsMarked, AreMarked, AreFound}
use Rattle.vertex_queue.proofs.VertexMaps.{set_here, set_elsewhere, len_most}
use Rattle.vertex_queue.proofs.VertexSets.{before_apart}

-- ---- elements by their index, with one vertex more at the end

get_left : (xs ys : List Vertex) (v : Vertex) (i : ℕ) → slice_get xs i ≡ Some v → slice_get (xs ++ ys) i ≡ Some v
get_left [] ys v i is = absurd cc
get_left (x ∷ xs) ys v zero is = is
get_left (x ∷ xs) ys v (suc i) is = get_left xs ys v i is

get_end : (xs : List Vertex) (v : Vertex) → slice_get (xs ++ v ∷ []) (length xs) ≡ Some v
get_end [] v = refl
get_end (x ∷ xs) v = get_end xs v

same_Some : (v w : Vertex) → Some v ≡ Some w → v ≡ w
same_Some v w e = cc

get_before : (xs : List Vertex) (v w : Vertex) (i : ℕ) → slice_get (xs ++ v ∷ []) i ≡ Some w → (slice_get xs i ≡ Some w) ⊎ (w ≡ v)
get_before [] v w zero is = inr (sym (same_Some v w is))
get_before [] v w (suc i) is = absurd cc
get_before (x ∷ xs) v w zero is = inl is
get_before (x ∷ xs) v w (suc i) is = get_before xs v w i is

-- ---- none twice

pub apart_pushed : (vs : List Vertex) (v : Vertex) → HasNoDoubles vs → (Contains vs v → ⊥) → HasNoDoubles (vs ++ v ∷ [])
apart_pushed vs v apart fresh = all_pairs_push (λ x y. x ≢ y) vs v apart (λ k d lt same. fresh (subst (λ (w : Vertex). Contains vs w) same (Contains-get_or vs k d lt)))

pub last_fresh : (vs : List Vertex) (v : Vertex) → HasNoDoubles (vs ++ v ∷ []) → Contains vs v → ⊥
last_fresh vs v apart there =
    apart there.0 (length vs) v there.1 (omega (arith, length_push vs v))
    (get_or_append_left vs (v ∷ []) v there.0 there.1 ∙ there.2 ∙ sym (get_or_from_slice_get (vs ++ v ∷ []) (length vs) v v (get_end vs v)))

pub apart_popped : (vs : List Vertex) (v : Vertex) → HasNoDoubles (vs ++ v ∷ []) → HasNoDoubles vs
apart_popped vs v apart = λ i j d lt within same.
    apart i j d lt (omega (arith, within, length_push vs v))
    (get_or_append_left vs (v ∷ []) d i (omega (arith, lt, within)) ∙ same ∙ sym (get_or_append_left vs (v ∷ []) d j within))

-- ---- marks

-- a vertex that is marked is there
pub marked_there : (marks : Marks) (vs : List Vertex) (v : Vertex) → IsMarked marks vs v → Contains vs v
marked_there marks vs v at = (at.0, slice_get_within vs at.0 v at.2, get_or_from_slice_get vs at.0 v v at.2)

-- where the vertices are many, a mark shows that one is there
many_marked : (marks : Marks) (vs : List Vertex) → 16 < length vs → AreFound marks vs → AreMarked marks vs
many_marked marks vs many (inl few) = absurd (omega (arith, many, few))
many_marked marks vs many (inr all) = all

pub found_by_mark : (marks : Marks) (list vs now : List Vertex) (v : Vertex) (b : Bool) → list ≡ vs → vs ≡ now → 16 < length list → AreFound marks vs → (IsTrue b ↔ IsMarked marks list v) → IsTrue b ↔ Contains now v
found_by_mark marks list vs now v b was is many found test =
    let all : AreMarked marks vs = many_marked marks vs (subst (λ (ws : List Vertex). 16 < length ws) was many) found in (
      λ t. subst (λ (ws : List Vertex). Contains ws v) (was ∙ is) (marked_there marks list v (test.0 t)),
      λ there. test.1 (subst (λ (ws : List Vertex). IsMarked marks ws v) (sym was) (all v (subst (λ (ws : List Vertex). Contains ws v) (sym is) there))),
    )

-- one more is marked
pub marked_next : (marks : Marks) (vs : List Vertex) (v : Vertex) → AreMarked marks vs → (Contains vs v → ⊥) → AreMarked (insert marks v (length vs)) (vs ++ v ∷ [])
marked_next marks vs v all fresh w there = elim (Contains-push_cases vs v w there) [
  | inl was ↦
      let at = all w was in
      (at.0, set_elsewhere marks v w (length vs) (λ same. fresh (subst (λ (u : Vertex). Contains vs u) same was)) ∙ at.1, get_left vs (v ∷ []) w at.0 at.2)
  | inr same ↦ subst (λ (u : Vertex). IsMarked (insert marks v (length vs)) (vs ++ v ∷ []) u) same (length vs, set_here marks v (length vs), get_end vs v)
]

-- the others keep their marks
pub marked_still : (marks : Marks) (vs : List Vertex) (v : Vertex) (n : ℕ) → AreMarked marks vs → (Contains vs v → ⊥) → AreMarked (insert marks v n) vs
marked_still marks vs v n all fresh w was =
    let at = all w was in
    (at.0, set_elsewhere marks v w n (λ same. fresh (subst (λ (u : Vertex). Contains vs u) same was)) ∙ at.1, at.2)

-- one less
pub marked_popped : (marks : Marks) (vs : List Vertex) (v : Vertex) → AreMarked marks (vs ++ v ∷ []) → (Contains vs v → ⊥) → AreMarked marks vs
marked_popped marks vs v all fresh w there =
    let at = all w (Contains-append_left vs (v ∷ []) w there) in
    elim (get_before vs v w at.0 at.2) [
      | inl is ↦ (at.0, at.1, is)
      | inr same ↦ absurd (fresh (subst (λ (u : Vertex). Contains vs u) same there))
    ]

pub found_popped : (marks : Marks) (vs : List Vertex) (v : Vertex) → HasNoDoubles (vs ++ v ∷ []) → AreFound marks (vs ++ v ∷ []) → AreFound marks vs
found_popped marks vs v apart (inl few) = inl (omega (arith, few, length_push vs v))
found_popped marks vs v apart (inr all) = inr (marked_popped marks vs v all (last_fresh vs v apart))

-- of the first ones, one more
pub marked_more : (marks : Marks) (vs : List Vertex) (i : ℕ) (d : Vertex) → HasNoDoubles vs → i < length vs → AreMarked marks (take i vs) → AreMarked (insert marks (get_or vs i d) i) (take (i + 1) vs)
marked_more marks vs i d apart lt all =
    let v = get_or vs i d in
    subst (λ (ws : List Vertex). AreMarked (insert marks v i) ws) (sym (take_more vs i d lt))
    (subst (λ n. AreMarked (insert marks v n) (take i vs ++ v ∷ [])) (length-take-le i vs (omega (arith, lt)))
    (marked_next marks (take i vs) v all (before_apart vs i d apart lt)))

-- where all are marked there are no more than marks
pub few_found : (marks : Marks) (vs : List Vertex) → HasNoDoubles vs → AreFound marks vs → len marks < 2 ^ 63 → length vs < 2 ^ 63
few_found marks vs apart (inl few) most = omega (arith, few)
few_found marks vs apart (inr all) most = let no_more : length vs ≤ len marks = len_most marks vs apart (λ v there. let at = all v there in (at.0, at.1)) in omega (arith, no_more, most)

-- the last one taken out, if there was one
pub popped : (marks : Marks) (old new : List Vertex) (last : Option Vertex) → old ≡ new ++ option_to_list last → HasNoDoubles old × AreFound marks old → HasNoDoubles new × AreFound marks new
popped marks old new (Some v) is (apart, found) =
    let was : HasNoDoubles (new ++ v ∷ []) = subst (λ (vs : List Vertex). HasNoDoubles vs) is apart in
    (apart_popped new v was, found_popped marks new v was (subst (λ (vs : List Vertex). AreFound marks vs) is found))
popped marks old new None is (apart, found) =
    let same : old ≡ new = is ∙ append-nil new in
    (subst (λ (vs : List Vertex). HasNoDoubles vs) same apart, subst (λ (vs : List Vertex). AreFound marks vs) same found)

-- Vertices that follow one another.
use Rattle.std.proofs.Common.{◌≡◌, ◌⊎◌, inl, inr, ⊎_elim, ℕ, ◌+◌, ◌<◌, List, [], ◌∷◌, ◌++◌, Option, None, Some, length, take, map, get_or, refl, sym, ap, subst, ◌∙◌, arith}
use Rattle.std.specs.Prelude.{◌↔◌}
use Rattle.std.specs.List.{All, Contains}
use Rattle.std.proofs.lemmas.Bool.{cases_lt}
use Rattle.std.proofs.lemmas.List.{take_more, map_push}
use Rattle.std.proofs.lemmas.List.Elements.{All-nil, All-cons, All-weaker}
use Rattle.std.proofs.lemmas.List.Kept.{AllPairs-cons}
use Rattle.ospf_types.proofs.Elements.{no_element, first_element, later_element, first_or_later}
use Rattle.area_drawings.specs.declared.drawing.GridCell.{GridCell}
use Rattle.area_drawings.specs.declared.reached.ReachedVertex.{ReachedVertex}
use Rattle.area_drawings.specs.declared.stands.Stand.{Stand}
use Rattle.area_drawings.specs.Places.{AreInPlaces, HasRows, IsPlaceBefore, IsNext, IsStandChain, rows_of}

-- one vertex more has a cell
pub reached_push : (ss : List Stand) (s : Stand) (rs : List ReachedVertex) (i : ℕ) (d : ReachedVertex) → i < length rs → map (λ t. t.reached) ss ≡ take i rs → s.reached ≡ get_or rs i d → map (λ t. t.reached) (ss ++ s ∷ []) ≡ take (i + 1) rs
reached_push ss s rs i d lt before is =
    map_push (λ (t : Stand). t.reached) ss s
    ∙ ap (λ (xs : List ReachedVertex). xs ++ s.reached ∷ []) before
    ∙ ap (λ (r : ReachedVertex). take i rs ++ r ∷ []) is
    ∙ sym (take_more rs i d lt)

pub run_push : (before : Option Stand) (ss : List Stand) (mid : Option Stand) (s : Stand) → IsStandChain before ss mid → IsNext mid s → IsStandChain before (ss ++ s ∷ []) (Some s)
run_push before [] mid s run next = (subst (λ (b : Option Stand). IsNext b s) run next, refl)
run_push before (t ∷ ts) mid s run next = (run.0, run_push (Some t) ts mid s run.1 next)

-- the next vertex comes after it
behind : (b s : Stand) → IsNext (Some b) s → IsPlaceBefore b.place s.place
behind b s next = elim next [ inl same ↦ inr (sym same.0, same.1) | inr below ↦ inl (omega arith) ]

farther : (p q r : GridCell) → IsPlaceBefore p q → IsPlaceBefore q r → IsPlaceBefore p r
farther p q r first second =
    elim first [
      | inl up ↦ elim second [ inl further ↦ inl (omega arith) | inr same ↦ inl (omega arith) ]
      | inr left ↦ elim second [ inl further ↦ inl (omega arith) | inr same ↦ inr (omega arith, omega arith) ]
    ]

all_behind : (b : Stand) (ss : List Stand) (last : Option Stand) → IsStandChain (Some b) ss last → All (λ s. IsPlaceBefore b.place s.place) ss
all_behind b [] last run = All-nil (λ s. IsPlaceBefore b.place s.place)
all_behind b (s ∷ ss) last run =
    let here = behind b s run.0 in
    All-cons (λ t. IsPlaceBefore b.place t.place) s ss here (All-weaker (λ t. IsPlaceBefore s.place t.place) (λ t. IsPlaceBefore b.place t.place) (λ t later. farther b.place s.place t.place here later) ss (all_behind s ss last run.1))

-- each comes before the next ones
pub in_places : (before : Option Stand) (ss : List Stand) (last : Option Stand) → IsStandChain before ss last → AreInPlaces ss
in_places before [] last run = λ i j d lt within. absurd (omega arith)
in_places before (s ∷ ss) last run = AllPairs-cons (λ t u. IsPlaceBefore t.place u.place) s ss (all_behind s ss last run.1) (in_places (Some s) ss last run.1)

-- some vertex is in the row
abbrev HasRow : List Stand → ℕ → Type 0
HasRow ss row = (s : Stand) × Contains ss s × (s.place.row ≡ row)

-- the row of the next is the only one that is more
last_row : (before : Option Stand) (s : Stand) → IsNext before s → (row : ℕ) → row < s.place.row + 1 → (row < rows_of before) ⊎ (s.place.row ≡ row)
last_row None s next row lt = inr (omega arith)
last_row (Some b) s next row lt =
    elim (cases_lt row s.place.row) [
      | inl less ↦ elim next [ inl same ↦ inl (omega arith) | inr below ↦ inl (omega arith) ]
      | inr most ↦ inr (omega arith)
    ]

no_fewer : (before : Option Stand) (s : Stand) → IsNext before s → (row : ℕ) → row < rows_of before → row < s.place.row + 1
no_fewer None s next row lt = absurd (omega arith)
no_fewer (Some b) s next row lt = elim next [ inl same ↦ omega arith | inr below ↦ omega arith ]

run_rows : (before : Option Stand) (ss : List Stand) (last : Option Stand) → IsStandChain before ss last → (row : ℕ) → (row < rows_of last) ↔ ((row < rows_of before) ⊎ HasRow ss row)
run_rows before [] last run row = (
  λ lt. inl (subst (λ (o : Option Stand). row < rows_of o) run lt),
  λ w. elim w [ inl lt ↦ subst (λ (o : Option Stand). row < rows_of o) (sym run) lt | inr has ↦ absurd (no_element has.0 has.1) ],
)
run_rows before (s ∷ ss) last run row =
    let rest : (row < rows_of last) ↔ ((row < s.place.row + 1) ⊎ HasRow ss row) = run_rows (Some s) ss last run.1 row in (
      λ lt. ⊎_elim
          (λ (up : row < s.place.row + 1). ⊎_elim (λ (was : row < rows_of before). inl was) (λ (here : s.place.row ≡ row). inr (s, first_element s ss, here)) (last_row before s run.0 row up))
          (λ (has : HasRow ss row). inr (has.0, later_element s has.0 ss has.1, has.2))
          (rest.0 lt),
      λ w. ⊎_elim
          (λ (was : row < rows_of before). rest.1 (inl (no_fewer before s run.0 row was)))
          (λ (has : HasRow (s ∷ ss) row). ⊎_elim
          (λ (here : has.0 ≡ s). rest.1 (inl (let e = ap (λ (t : Stand). t.place.row) here in let k = has.2 in omega arith)))
          (λ (later : Contains ss has.0). rest.1 (inr (has.0, later, has.2)))
          (first_or_later s has.0 ss has.1))
          w,
    )

-- the rows are those below this number
pub has_rows : (ss : List Stand) (last : Option Stand) (rows : ℕ) → IsStandChain None ss last → rows ≡ rows_of last → HasRows rows ss
has_rows ss last rows run is row =
    let all = run_rows None ss last run row in (
      λ lt. ⊎_elim (λ (none : row < 0). absurd (omega arith)) (λ (has : HasRow ss row). has) (all.0 (subst (λ (n : ℕ). row < n) is lt)),
      λ has. subst (λ (n : ℕ). row < n) (sym is) (all.1 (inr has)),
    )

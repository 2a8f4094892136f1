-- The LSAs of one scope are in a row, so that those of the last scope are counted as they come.
use Rattle.std.proofs.Common.{ℕ, ◌≡◌, ◌+◌, ◌++◌, Bool, true, false, cond, List, [], ◌∷◌, length, map, Option, Some, None, All, Ordering, refl, sym, ap, subst, ◌∙◌, inl, inr}
use Rattle.std.specs.declared.cmp.Ordering.TheVariants.{Less, Equal, Greater}
use Rattle.std.specs.Ordering.{ordering_then}
use Rattle.std.specs.List.Sorted.{IsStrictlySortedBy}
use Rattle.std.specs.Prelude.{not}
use Rattle.std.proofs.lemmas.Bool.{false_from_ne_true}
use Rattle.std.proofs.lemmas.List.{map-append}
use Rattle.std.proofs.lemmas.List.Elements.{All-nil, All-cons, All-head, All-tail, All-push}
use Rattle.std.proofs.lemmas.Map.Views.{All-before_last}
use Rattle.ospf_types.specs.declared.key.Scope.{Scope}
use Rattle.ospf_types.specs.Keys.{key_cmp, scope_cmp}
use Rattle.ospf_types.specs.Lsa.{Lsa, key_of}
use Rattle.ospf_types.proofs.Orders.{scope_exact}
use Rattle.event_state.specs.Bases.{is_scope, lsas_under}
use Rattle.recording.specs.Left.{row_at}
use Rattle.recording.specs.Places.{is_less, is_past_scope, last_of, lsa_place, place_cmp}
use Rattle.recording.specs.Recordings.{AreByPlaces}
use Rattle.recording.proofs.BaseSound.{count_more, scope_equal, scope_same, scope_itself}
use Rattle.recording.proofs.Sorting.{last_cases, last_of-push}

none_under : (lsas : List (Scope × Lsa)) (at : Scope) → All (λ x. is_scope at x.0 ≡ false) lsas → lsas_under lsas at ≡ []
none_under [] at all = refl
none_under (x ∷ lsas) at all =
    let P : Scope × Lsa → Type 0 = λ y. is_scope at y.0 ≡ false in
    ap (λ (b : Bool). cond b (x ∷ lsas_under lsas at) (lsas_under lsas at)) (All-head P x lsas all) ∙ none_under lsas at (All-tail P x lsas all)

not_greater : (o k : Ordering) → o ≡ Greater → ordering_then o k ≡ Less → ⊥
not_greater Greater k e less = cc
not_greater Less k e less = cc
not_greater Equal k e less = cc

other_scope : (at : Scope) (l y : Scope × Lsa) → scope_cmp at l.0 ≡ Greater → place_cmp (lsa_place y) (lsa_place l) ≡ Less → is_scope at y.0 ≡ false
other_scope at l y past less =
    false_from_ne_true (is_scope at y.0) (λ same. not_greater (scope_cmp y.0 l.0) (key_cmp (key_of y.1) (key_of l.1)) (subst (λ (s : Scope). scope_cmp s l.0 ≡ Greater) (scope_same at y.0 same) past) less)

greater_itself : (o : Ordering) → o ≡ Equal → o ≡ Greater → ⊥
greater_itself Equal e past = cc
greater_itself Less e past = cc
greater_itself Greater e past = cc

not_itself : (at : Scope) → scope_cmp at at ≡ Greater → ⊥
not_itself at past = greater_itself (scope_cmp at at) (scope_equal at at (scope_itself at)) past

last_scope : (at other : Scope) → scope_cmp at other ≡ Greater → is_scope at other ≡ false
last_scope at other past =
    false_from_ne_true (is_scope at other) (λ same. not_itself at (subst (λ (s : Scope). scope_cmp at s ≡ Greater) (sym (scope_same at other same)) past))

all_mapped : {X Y : Type 0} (P : Y → Type 0) (f : X → Y) (xs : List X) → All P (map f xs) → All (λ x. P (f x)) xs
all_mapped P f [] all = All-nil (λ x. P (f x))
all_mapped P f (x ∷ xs) all = All-cons (λ x. P (f x)) x xs (All-head P (f x) (map f xs) all) (all_mapped P f xs (All-tail P (f x) (map f xs) all))

all_weaker : {X : Type 0} (P Q : X → Type 0) → ((x : X) → P x → Q x) → (xs : List X) → All P xs → All Q xs
all_weaker P Q weaker [] all = All-nil Q
all_weaker P Q weaker (x ∷ xs) all = All-cons Q x xs (weaker x (All-head P x xs all)) (all_weaker P Q weaker xs (All-tail P x xs all))

-- after the last scope comes none of it
none_past : (lsas : List (Scope × Lsa)) (l : Scope × Lsa) (at : Scope) → AreByPlaces lsas → last_of lsas ≡ Some l → scope_cmp at l.0 ≡ Greater → lsas_under lsas at ≡ []
none_past lsas l at sorted last past =
    elim (last_cases lsas) [
      | inl e ↦ ap (λ (t : List (Scope × Lsa)). lsas_under t at) e
      | inr w ↦
          let some : last_of lsas ≡ Some w.1 = ap (λ (t : List (Scope × Lsa)). last_of t) w.2 ∙ last_of-push w.0 w.1 in
          let is : w.1 ≡ l = cc (some, last) in
          let before : scope_cmp at w.1.0 ≡ Greater = subst (λ (x : Scope × Lsa). scope_cmp at x.0 ≡ Greater) (sym is) past in
          let rising : IsStrictlySortedBy place_cmp (map lsa_place w.0 ++ lsa_place w.1 ∷ []) =
          subst (IsStrictlySortedBy place_cmp) (map-append lsa_place w.0 (w.1 ∷ [])) (subst AreByPlaces w.2 sorted) in
          let early = all_mapped (λ p. place_cmp p (lsa_place w.1) ≡ Less) lsa_place w.0 (All-before_last place_cmp (map lsa_place w.0) (lsa_place w.1) rising) in
          let Q : Scope × Lsa → Type 0 = λ y. is_scope at y.0 ≡ false in
          let others = all_weaker (λ y. place_cmp (lsa_place y) (lsa_place w.1) ≡ Less) Q (λ y less. other_scope at w.1 y before less) w.0 early in
          ap (λ (t : List (Scope × Lsa)). lsas_under t at) w.2 ∙ none_under (w.0 ++ w.1 ∷ []) at (All-push Q w.0 w.1 others (last_scope at w.1.0 before))
    ]

-- where the scope is past that of the last LSA, it has none yet
pub row_past : (lsas : List (Scope × Lsa)) (l : Scope × Lsa) (at : Scope) → AreByPlaces lsas → last_of lsas ≡ Some l → scope_cmp at l.0 ≡ Greater → 0 ≡ length (lsas_under lsas at)
row_past lsas l at sorted last past = sym (ap length (none_past lsas l at sorted last past))

-- where it belongs to the last LSA, all of them are in the row
pub row_same : (lsas : List (Scope × Lsa)) (l : Scope × Lsa) (at : Scope) (row : ℕ) → row ≡ row_at lsas (last_of lsas) → last_of lsas ≡ Some l → scope_cmp at l.0 ≡ Equal → row ≡ length (lsas_under lsas at)
row_same lsas l at row counted last same =
    counted ∙ ap (row_at lsas) last ∙ ap (λ (s : Scope). length (lsas_under lsas s)) (sym (scope_exact at l.0 same))

none_there : (lsas : List (Scope × Lsa)) → last_of lsas ≡ None → lsas ≡ []
none_there lsas none =
    elim (last_cases lsas) [
      | inl e ↦ e
      | inr w ↦ let some : last_of lsas ≡ Some w.1 = ap (λ (t : List (Scope × Lsa)). last_of t) w.2 ∙ last_of-push w.0 w.1 in cc (some, none)
    ]

pub row_none : (lsas : List (Scope × Lsa)) (at : Scope) → last_of lsas ≡ None → 0 ≡ length (lsas_under lsas at)
row_none lsas at none = sym (ap (λ (t : List (Scope × Lsa)). length (lsas_under t at)) (none_there lsas none))

-- one more of the scope
pub row_more : (lsas : List (Scope × Lsa)) (x : Scope × Lsa) (row : ℕ) → row ≡ length (lsas_under lsas x.0) → row + 1 ≡ row_at (lsas ++ x ∷ []) (last_of (lsas ++ x ∷ []))
row_more lsas x row counted =
    ap (λ (n : ℕ). n + 1) counted
    ∙ ap (λ (b : Bool). length (lsas_under lsas x.0) + cond b 1 0) (sym (scope_itself x.0))
    ∙ sym (count_more lsas x x.0)
    ∙ ap (row_at (lsas ++ x ∷ [])) (sym (last_of-push lsas x))

-- ---- places

-- the test of the scope is made, and its result is there
pub past_of : (lsas : List (Scope × Lsa)) (l : Scope × Lsa) (at : Scope) (o : Ordering) → last_of lsas ≡ Some l → scope_cmp at l.0 ≡ o → is_past_scope (last_of lsas) at ≡ not (is_less o)
past_of lsas l at o last is = ap (λ (x : Option (Scope × Lsa)). is_past_scope x at) last ∙ ap (λ (p : Ordering). not (is_less p)) is

-- the scope is past that of the last of the items
pub row_greater : (items lsas : List (Scope × Lsa)) (l : Scope × Lsa) (at : Scope) → items ≡ lsas → AreByPlaces lsas → Some l ≡ last_of items → Greater ≡ scope_cmp at l.0 → (is_past_scope (last_of lsas) at ≡ true) × (0 ≡ length (lsas_under lsas at))
row_greater items lsas l at same sorted last past =
    let is : last_of lsas ≡ Some l = ap (λ (t : List (Scope × Lsa)). last_of t) (sym same) ∙ sym last in
    (past_of lsas l at Greater is (sym past), row_past lsas l at sorted is (sym past))

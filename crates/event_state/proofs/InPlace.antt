-- A loop that puts f of each item in its place.
use Rattle.std.proofs.Common.{◌≡◌, ℕ, ◌+◌, ◌<◌, Bool, true, false, List, [], ◌∷◌, ◌++◌, length, map, get_or, set, take, drop, All, refl, sym, ap, subst, ◌∙◌, add-zero, arith}
use Rattle.std.specs.Prelude.{◌||◌, ◌↔◌, nat_lt}
use Rattle.std.proofs.lemmas.Bool.Decides.{nat_tests}
use Rattle.std.specs.Global.{Vec}
use Rattle.std.specs.Vec.{with_items}
use Rattle.std.proofs.lemmas.List.{take_more_set, map_more, drop-set-lt, drop-drop, get_or-drop, get_or-take, take-take, with_items_is, length-take}
use Rattle.std.proofs.lemmas.List.Elements.{All-more, All-take}

-- a Vec whose items a slice of its length replaced
pub items_of_slice : {X : Type 0} (v : Vec X) (xs : List X) → length xs ≡ length v.items → (with_items v xs).items ≡ xs
items_of_slice v xs e = with_items_is v xs (e ∙ sym v.ok.0)

module _ {X : Type 0} (xs first : List X) (i : ℕ) (x : X) (lt : i < length xs) (same : length xs ≡ length first) (here : x ≡ get_or xs i x) (left : drop i xs ≡ drop i first) where
  -- what is not reached yet is unchanged
  pub not_reached : get_or first i x ≡ x
  not_reached =
      ap (λ (k : ℕ). get_or first k x) (sym (add-zero i)) ∙ sym (get_or-drop i first 0 x) ∙ ap (λ (ys : List X). get_or ys 0 x) (sym left)
      ∙ get_or-drop i xs 0 x ∙ ap (λ (k : ℕ). get_or xs k x) (add-zero i) ∙ sym here

pub one_mapped : {X : Type 0} (f : X → X) (xs first : List X) (i : ℕ) (x : X) → i < length xs → length xs ≡ length first → x ≡ get_or xs i x → take i xs ≡ map f (take i first) → drop i xs ≡ drop i first
    → (take (i + 1) (set xs i (f x)) ≡ map f (take (i + 1) first)) × (drop (i + 1) (set xs i (f x)) ≡ drop (i + 1) first)
one_mapped {X} f xs first i x lt same here so_far left = (
  take_more_set xs i (f x) lt ∙ ap (λ (ys : List X). ys ++ f x ∷ []) so_far
      ∙ ap (λ (y : X). map f (take i first) ++ f y ∷ []) (sym (not_reached xs first i x lt same here left)) ∙ sym (map_more f first i x (omega arith)),
  drop-set-lt (i + 1) xs i (f x) (omega arith) ∙ sym (drop-drop 1 i xs) ∙ ap (drop 1) left ∙ drop-drop 1 i first,
)

fewer : {X : Type 0} (P : X → Type 0) (xs : List X) (i : ℕ) → All P (take (i + 1) xs) → All P (take i xs)
fewer P xs i all = rw (← take-take i (i + 1) xs (omega arith)) (All-take P i (take (i + 1) xs) all)

last : {X : Type 0} (P : X → Type 0) (xs : List X) (i : ℕ) (d : X) → i < length xs → All P (take (i + 1) xs) → P (get_or xs i d)
last {X} P xs i d lt all = subst P (get_or-take (i + 1) xs i d (omega arith)) (all i d (omega (arith, lt, length-take (i + 1) xs)))

-- a flag that is set where an item fails P
pub one_flagged : {X : Type 0} (P : X → Type 0) (xs : List X) (i : ℕ) (x : X) (before now : Bool) → i < length xs → get_or xs i x ≡ x
    → (before ≡ false) ↔ All P (take i xs) → (now ≡ false) ↔ P x → ((before || now) ≡ false) ↔ All P (take (i + 1) xs)
one_flagged P xs i x true now lt here so_far this = (
  λ e. absurd cc,
  λ all. let none : true ≡ false = so_far.1 (fewer P xs i all) in absurd cc,
)
one_flagged P xs i x false now lt here so_far this = (
  λ e. All-more P xs i x lt (so_far.0 refl) (rw here (this.0 e)),
  λ all. this.1 (rw here at (last P xs i x lt all)),
)

-- a count that is not above 0 is 0
pub none_counted : (n : ℕ) → (nat_lt 0 n ≡ false) ↔ (n ≡ 0)
none_counted n = (λ e. grind (arith, nat_tests), λ e. grind (arith, nat_tests))

-- A loop that appends what is found of each item.
use Rattle.std.proofs.Common.{◌≡◌, ℕ, ◌+◌, ◌<◌, List, [], ◌∷◌, ◌++◌, length, get_or, take, Option, Some, None, refl, sym, ap, ◌∙◌, append_assoc}
use Rattle.std.specs.Prelude.{Result, Ok, Err, IfOk}
use Rattle.std.specs.Global.{Vec}
use Rattle.std.specs.List.{filter_map, cons_option}
use Rattle.std.proofs.lemmas.List.{take_more, append-nil}

cons_append : {X : Type 0} (o : Option X) (xs ys : List X) → cons_option o (xs ++ ys) ≡ cons_option o xs ++ ys
cons_append None xs ys = refl
cons_append (Some x) xs ys = refl

pub filter_map-append : {X Y : Type 0} (f : X → Option Y) (xs ys : List X) → filter_map f (xs ++ ys) ≡ filter_map f xs ++ filter_map f ys
filter_map-append f [] ys = refl
filter_map-append f (x ∷ xs) ys = ap (cons_option (f x)) (filter_map-append f xs ys) ∙ cons_append (f x) (filter_map f xs) (filter_map f ys)

-- a turn of the loop
pub found_more : {X Y : Type 0} (f : X → Option Y) (xs : List X) (i : ℕ) (d : X) (old before now : List Y) → i < length xs
    → before ≡ old ++ filter_map f (take i xs) → now ≡ before ++ cons_option (f (get_or xs i d)) [] → now ≡ old ++ filter_map f (take (i + 1) xs)
found_more {X} {Y} f xs i d old before now lt so_far step =
    step ∙ ap (λ (ys : List Y). ys ++ cons_option (f (get_or xs i d)) []) so_far ∙ append_assoc old (filter_map f (take i xs)) (cons_option (f (get_or xs i d)) [])
    ∙ ap (λ (ys : List Y). old ++ ys) (sym (filter_map-append f (take i xs) (get_or xs i d ∷ [])) ∙ ap (filter_map f) (sym (take_more xs i d lt)))

pub one_found : {Y : Type 0} (o : Option Y) (y : Y) (before : List Y) → o ≡ Some y → before ++ y ∷ [] ≡ before ++ cons_option o []
one_found {Y} o y before e = ap (λ (p : Option Y). before ++ cons_option p []) (sym e)

pub none_found : {Y : Type 0} (o : Option Y) (before : List Y) → o ≡ None → before ≡ before ++ cons_option o []
none_found {Y} o before e = sym (append-nil before) ∙ ap (λ (p : Option Y). before ++ cons_option p []) (sym e)

-- the items of an answer that has those of another list
pub if_ok : {X E : Type 0} (r : Result (Vec X) E) (xs ys : List X) → xs ≡ ys → IfOk r (λ v. v.items ≡ xs) → IfOk r (λ v. v.items ≡ ys)
if_ok (Ok v) xs ys e is = is ∙ e
if_ok (Err x) xs ys e is = tt

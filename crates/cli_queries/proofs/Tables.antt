-- Tables of advice, one after the other.
use Rattle.std.proofs.Common.{ℕ, ◌≡◌, ◌∙◌, ◌==◌, ◌++◌, sym, ap, ap₂, refl, List, Option, Some, None, option_map}
use Rattle.std.specs.Borrow.{Bor}
use Rattle.std.specs.Option.{option_or}
use Rattle.std.specs.List.{find}
use Rattle.std.proofs.lemmas.List.Folds.{find-append}
use Rattle.cli_queries.specs.Advice.{Advice, advice_in}

mapped : {X Y : Type 0} (f : X → Y) (a b : Option X) → option_map f (option_or a b) ≡ option_or (option_map f a) (option_map f b)
mapped f None b = refl
mapped f (Some x) b = refl

-- the advice of the first table, or else of the second
pub joined : (first second : List Advice) (number : ℕ) (a b c : Option (Bor (List ℕ)))
    → option_map (λ t. t.now) a ≡ advice_in first number → option_map (λ t. t.now) b ≡ advice_in second number → c ≡ option_or a b
    → option_map (λ t. t.now) c ≡ advice_in (first ++ second) number
joined first second number a b c p q r =
    ap (option_map (λ (t : Bor (List ℕ)). t.now)) r ∙ mapped (λ (t : Bor (List ℕ)). t.now) a b ∙ ap₂ option_or p q
    ∙ sym (mapped (λ (a : Advice). a.1) (find (λ a. number == a.0) first) (find (λ a. number == a.0) second))
    ∙ ap (option_map (λ (a : Advice). a.1)) (sym (find-append (λ (a : Advice). number == a.0) first second))

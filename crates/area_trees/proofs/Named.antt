-- Lists that are gathered element by element.
use Rattle.std.proofs.Common.{◌≡◌, ℕ, ◌+◌, ◌<◌, ◌≤◌, List, [], ◌∷◌, ◌++◌, length, take, get_or, Option, Some, None, refl, sym, ap, ◌∙◌}
use Rattle.std.specs.Prelude.{option_to_list}
use Rattle.std.specs.List.{filter_map}
use Rattle.std.proofs.lemmas.List.{take_more, take_all}
use Rattle.std.proofs.lemmas.List.Elements.{filter_map-append}

module _ {X Y : Type 0} (f : X → Option Y) where
  one_mapped : (x : X) (o : Option Y) → f x ≡ o → filter_map f (x ∷ []) ≡ option_to_list o
  one_mapped x None is = rw is refl
  one_mapped x (Some y) is = rw is refl

  -- what is gathered of one element more
  pub gathered_more : (xs : List X) (i : ℕ) (x first : X) → i < length xs → x ≡ get_or xs i first → filter_map f (take (i + 1) xs) ≡ filter_map f (take i xs) ++ option_to_list (f x)
  gathered_more xs i x first lt is =
      ap (filter_map f) (take_more xs i first lt ∙ ap (λ z. take i xs ++ z ∷ []) (sym is))
      ∙ filter_map-append f (take i xs) (x ∷ [])
      ∙ ap (λ ys. filter_map f (take i xs) ++ ys) (one_mapped x (f x) refl)

  -- what is gathered of all
  pub gathered_all : (xs : List X) (i : ℕ) → length xs ≤ i → filter_map f (take i xs) ≡ filter_map f xs
  gathered_all xs i past = ap (filter_map f) (take_all i xs past)

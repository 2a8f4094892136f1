-- The traces that each of several things gives, one thing after the other.
use Rattle.std.proofs.Common.{◌≡◌, ◌<◌, ◌≤◌, ◌+◌, ℕ, List, [], ◌∷◌, ◌++◌, take, length, get_or, refl, sym, ap, subst, ◌∙◌}
use Rattle.std.proofs.lemmas.List.{append-nil, append_assoc, take_all, take_more}
use Rattle.explanation.specs.declared.trace.Trace.{Trace}
use Rattle.explanation.specs.Giving.{AddsTraces, AreOfEach}

-- it gives nothing
pub adds_none : (Gives : List Trace → Type 0) (before : List Trace) → Gives [] → AddsTraces Gives before before
adds_none Gives before none = ([], none, sym (append-nil before))

module _ {A : Type 0} (Gives : A → List Trace → Type 0) where
  pub none_each : (xs : List A) → AreOfEach Gives (take 0 xs) []
  none_each xs = refl

  one_more : (xs : List A) (x : A) (before own : List Trace) → AreOfEach Gives xs before → Gives x own → AreOfEach Gives (xs ++ x ∷ []) (before ++ own)
  one_more [] x before own are gives = (own, [], gives, ap (λ (ts : List Trace). ts ++ own) are ∙ sym (append-nil own), refl)
  one_more (y ∷ ys) x before own are gives =
      (are.0, are.1 ++ own, are.2, ap (λ (ts : List Trace). ts ++ own) are.3 ∙ append_assoc are.0 are.1 own, one_more ys x are.1 own are.4 gives)

  pub more_each : (xs : List A) (i : ℕ) (x : A) (before after : List Trace) → i < length xs → x ≡ get_or xs i x → AreOfEach Gives (take i xs) before → AddsTraces (Gives x) before after → AreOfEach Gives (take (i + 1) xs) after
  more_each xs i x before after lt here are adds =
      let cut : take i xs ++ x ∷ [] ≡ take (i + 1) xs = sym (take_more xs i x lt ∙ ap (λ (z : A). take i xs ++ z ∷ []) (sym here)) in
      subst (λ (ts : List Trace). AreOfEach Gives (take (i + 1) xs) ts) (sym adds.2)
      (subst (λ (zs : List A). AreOfEach Gives zs (before ++ adds.0)) cut (one_more (take i xs) x before adds.0 are adds.1))

  pub all_each : (xs : List A) (i : ℕ) (traces : List Trace) → length xs ≤ i → AreOfEach Gives (take i xs) traces → AreOfEach Gives xs traces
  all_each xs i traces past are = subst (λ (zs : List A). AreOfEach Gives zs traces) (take_all i xs past) are

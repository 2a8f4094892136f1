-- The cases of a value that is there, or is not.
use Rattle.std.proofs.Common.{◌≡◌, Option, Some, None, refl, ◌⊎◌, inl, inr}
use Rattle.std.specs.Prelude.{is_some, IfSome, IfNone, true, false}

module _ {X : Type 0} where
  pub of_there : {P : Type 0} (o : Option X) → is_some o ≡ true → IfSome o (λ x. P) → P
  of_there None there says = absurd (let wrong : false ≡ true = there in cc)
  of_there (Some x) there says = says

  pub of_absent : {P : Type 0} (o : Option X) → ((x : X) → o ≡ Some x → ⊥) → IfNone o P → P
  of_absent None absent says = says
  of_absent (Some x) absent says = absurd (absent x refl)

  pub none_there : (o : Option X) → is_some o ≡ false → o ≡ None
  none_there None none = refl
  none_there (Some x) none = absurd (let wrong : true ≡ false = none in cc)

  -- a value is there or not
  pub cases_value : (o : Option X) → ((x : X) × (o ≡ Some x)) ⊎ (o ≡ None)
  cases_value None = inr refl
  cases_value (Some x) = inl (x, refl)

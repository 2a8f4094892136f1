-- If a value has a code, a value that is not another one is the same.
use Rattle.std.proofs.Common.{◌≡◌, ℕ, refl, ap, inl, inr}
use Rattle.std.specs.Coded.{Coded}
use Rattle.std.proofs.lemmas.Bool.{cases_eq}
use base.Stored.{Gv, gnil, gnum, gcons, num}

abbrev front : Gv → Gv
front gnil = gnil
front (gnum n) = gnil
front (gcons a b) = a

abbrev back : Gv → Gv
back gnil = gnil
back (gnum n) = gnil
back (gcons a b) = b

abbrev NotOther : {A : Type 0} → A → A → Type 0
NotOther x y = (x ≡ y → ⊥) → ⊥

same_number : (n m : ℕ) → NotOther n m → n ≡ m
same_number n m h = elim (cases_eq n m) [ inl e ↦ e | inr other ↦ absurd (h other) ]

same_code : (x y : Gv) → NotOther x y → x ≡ y
same_code gnil gnil h = refl
same_code gnil (gnum m) h = absurd (h (λ e. cc))
same_code gnil (gcons c d) h = absurd (h (λ e. cc))
same_code (gnum n) gnil h = absurd (h (λ e. cc))
same_code (gnum n) (gnum m) h = ap gnum (same_number n m (λ other. h (λ e. other (ap num e))))
same_code (gnum n) (gcons c d) h = absurd (h (λ e. cc))
same_code (gcons a b) gnil h = absurd (h (λ e. cc))
same_code (gcons a b) (gnum m) h = absurd (h (λ e. cc))
same_code (gcons a b) (gcons c d) h =
    let p = same_code a c (λ other. h (λ e. other (ap front e))) in
    let q = same_code b d (λ other. h (λ e. other (ap back e))) in
    λ i. gcons (p i) (q i)

pub same_value : {A : Type 0} → Coded A → (x y : A) → ((x ≡ y → ⊥) → ⊥) → x ≡ y
same_value c x y h = c.inj x y (same_code (c.code x) (c.code y) (λ other. h (λ e. other (ap c.code e))))

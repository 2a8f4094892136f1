-- An interface of some kind, looked for among those that are left.
use Rattle.std.proofs.Common.{◌≡◌, ℕ, List, [], ◌∷◌, sym, subst, inl, inr}
use Rattle.std.specs.Prelude.{Contains}
use Rattle.ospf_types.specs.declared.config.Interface.{Interface}
use Rattle.ospf_types.proofs.Elements.{first_element, first_or_later, later_element, no_element}

module _ (Is : ℕ × Interface → Type 0) where
  -- the rest is among all, and has all of that kind
  pub record IsLeft (all left : List (ℕ × Interface)) : Type 0 where
    pub among : (e : ℕ × Interface) → Contains left e → Contains all e
    pub has : (e : ℕ × Interface) → Contains all e → Is e → Contains left e

  pub all_left : (all : List (ℕ × Interface)) → IsLeft all all
  all_left all = record { among = λ e c. c; has = λ e c on. c }

  pub one_left : (all left rest : List (ℕ × Interface)) (e : ℕ × Interface) → left ≡ e ∷ rest → IsLeft all left → (Is e → ⊥) → IsLeft all rest
  one_left all left rest e is are off = record {
    among = λ x c. are.among x (subst (λ (list : List (ℕ × Interface)). Contains list x) (sym is) (later_element e x rest c));
    has = λ x c on. elim (first_or_later e x rest (subst (λ (list : List (ℕ × Interface)). Contains list x) is (are.has x c on))) [
      | inl first ↦ absurd (off (subst Is first on))
      | inr later ↦ later
    ];
  }

  pub one_on : (all left rest : List (ℕ × Interface)) (e : ℕ × Interface) → left ≡ e ∷ rest → IsLeft all left → Contains all e
  one_on all left rest e is are = are.among e (subst (λ (list : List (ℕ × Interface)). Contains list e) (sym is) (first_element e rest))

  pub none_on : (all left : List (ℕ × Interface)) → left ≡ [] → IsLeft all left → (e : ℕ × Interface) → Contains all e → Is e → ⊥
  none_on all left is are e c on = no_element e (subst (λ (list : List (ℕ × Interface)). Contains list e) is (are.has e c on))

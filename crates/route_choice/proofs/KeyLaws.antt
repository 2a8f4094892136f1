-- The named order of a key, by the laws of the key.
use Rattle.std.proofs.Common.{◌≡◌, Bool, Ordering, Decides, sym, ap, subst, ◌∙◌}
use Rattle.std.specs.Ordering.{eq_by_cmp, is_eq}
use Rattle.std.specs.Cmp.{IsTotalOrder, eq_by_cmp_equiv}
use Rattle.std.specs.FinMap.{IsAntisymmetric}
use Rattle.std.proofs.lemmas.Map.Views.{tells_apart}

-- only equal keys tie, and `==` tests just that
pub record IsKeyOrder {K : Type 0} (order : K → K → Ordering) (equals : K → K → Bool) : Type 0 where
  pub total : IsTotalOrder order
  pub exact : IsAntisymmetric order
  pub ties : equals ≡ eq_by_cmp order

pub key_order : {K : Type 0} {cmp order : K → K → Ordering} {equals : K → K → Bool} → cmp ≡ order → IsTotalOrder cmp → IsAntisymmetric cmp → ((x y : K) → equals x y ≡ is_eq (cmp x y))
    → IsKeyOrder order equals
key_order {K = K} ordered total exact ties = record {
  total = subst (λ (R : K → K → Ordering). IsTotalOrder R) ordered total;
  exact = subst (λ (R : K → K → Ordering). IsAntisymmetric R) ordered exact;
  ties = (λ i x y. ties x y i) ∙ ap (λ (R : K → K → Ordering). eq_by_cmp R) ordered;
}

module _ {K : Type 0} {order : K → K → Ordering} {equals : K → K → Bool} (keys : IsKeyOrder order equals) where
  -- `==` decides whether keys are equal
  pub decided : (x y : K) → Decides (equals x y) (x ≡ y)
  decided x y =
      let at : equals x y ≡ eq_by_cmp order x y = λ i. keys.ties i x y in (
        λ t. tells_apart keys.exact x y (sym at ∙ t),
        λ same. at ∙ ap (λ (z : K). eq_by_cmp order x z) (sym same) ∙ (eq_by_cmp_equiv keys.total).refl x,
      )

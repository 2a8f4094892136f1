-- The equality of two items, and of two metrics, is decidable.
--   same_items, same_metrics: they are equal if they are not found different
use base.Stored.{Gv, gnil, gnum, gcons, num}
use Rattle.std.proofs.Common.{◌≡◌, ℕ, Option, refl, ap, inl, inr}
use Rattle.std.specs.Coded.{Coded, coded_option, coded_ℕ}
use Rattle.std.proofs.lemmas.Bool.Decides.{eqb_tells}
use Rattle.route_table.specs.declared.table.Item.{Item}
use Rattle.route_table.specs.contracts.table.Item as item_contract

same_numbers : (n m : ℕ) → ((n ≡ m → ⊥) → ⊥) → n ≡ m
same_numbers n m h = elim (eqb_tells n m) [ inl same ↦ same.1 | inr other ↦ absurd (h other.1) ]

abbrev first_of : Gv → Gv
first_of gnil = gnil
first_of (gnum n) = gnil
first_of (gcons a b) = a

abbrev second_of : Gv → Gv
second_of gnil = gnil
second_of (gnum n) = gnil
second_of (gcons a b) = b

same_codes : (a b : Gv) → ((a ≡ b → ⊥) → ⊥) → a ≡ b
same_codes gnil gnil h = refl
same_codes gnil (gnum n) h = absurd (h (λ e. cc))
same_codes gnil (gcons a b) h = absurd (h (λ e. cc))
same_codes (gnum n) gnil h = absurd (h (λ e. cc))
same_codes (gnum n) (gnum m) h = ap gnum (same_numbers n m (λ other. h (λ e. other (ap num e))))
same_codes (gnum n) (gcons a b) h = absurd (h (λ e. cc))
same_codes (gcons a b) gnil h = absurd (h (λ e. cc))
same_codes (gcons a b) (gnum n) h = absurd (h (λ e. cc))
same_codes (gcons a b) (gcons c d) h =
    let p = same_codes a c (λ other. h (λ e. other (ap first_of e))) in
    let q = same_codes b d (λ other. h (λ e. other (ap second_of e))) in
    λ i. gcons (p i) (q i)

same_coded : {T : Type 0} → Coded T → (x y : T) → ((x ≡ y → ⊥) → ⊥) → x ≡ y
same_coded c x y h = c.inj x y (same_codes (c.code x) (c.code y) (λ other. h (λ e. other (ap c.code e))))

pub same_items : (x y : Option Item) → ((x ≡ y → ⊥) → ⊥) → x ≡ y
same_items = same_coded (coded_option item_contract.the_row.coded)

pub same_metrics : (x y : Option ℕ) → ((x ≡ y → ⊥) → ⊥) → x ≡ y
same_metrics = same_coded (coded_option coded_ℕ)

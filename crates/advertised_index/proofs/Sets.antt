-- A set after a key is added or removed, where its test distinguishes keys.
use Rattle.std.proofs.Common.{◌≡◌, ◌≢◌, ◌⊎◌, ℕ, Bool, true, false, true≢false, cond, List, sym, ap, subst, ◌∙◌, inl, inr, refl}
use Rattle.std.specs.Prelude.{◌↔◌, IsTrue, Contains}
use Rattle.std.specs.Cmp.{IsEquivalence, eq_by_cmp_equiv, nat_cmp_total}
use Rattle.std.specs.List.{list_any}
use Rattle.std.specs.Ordering.{eq_by_cmp, nat_cmp}
use Rattle.std.proofs.lemmas.Map.Lookups.{exact_unsigned}
use Rattle.std.proofs.lemmas.Map.Views.{tells_apart, Contains-from_any, list_any-from_Contains}
use Rattle.ospf_types.specs.declared.key.Dest.{Dest}
use Rattle.ospf_types.proofs.Orders.{dest_total, dest_exact}
use Rattle.route_choice.proofs.DestOrder.{dests_equal, dests_order}

-- ---- destinations and numbers are distinguished

pub dests_exact : (d e : Dest) → dests_equal d e ≡ true → d ≡ e
dests_exact = subst (λ (same : Dest → Dest → Bool). (d e : Dest) → same d e ≡ true → d ≡ e) (sym dests_order) (tells_apart dest_exact)

pub dests_laws : IsEquivalence dests_equal
dests_laws = subst (λ (same : Dest → Dest → Bool). IsEquivalence same) (sym dests_order) (eq_by_cmp_equiv dest_total)

pub numbers_exact : (a b : ℕ) → eq_by_cmp nat_cmp a b ≡ true → a ≡ b
numbers_exact = tells_apart exact_unsigned

pub numbers_laws : IsEquivalence (eq_by_cmp nat_cmp)
numbers_laws = eq_by_cmp_equiv nat_cmp_total

module _ {K : Type 0} (same : K → K → Bool) (exact : (k q : K) → same k q ≡ true → k ≡ q) (laws : IsEquivalence same) where
  pub found : (ks : List K) (q : K) → IsTrue (list_any (same q) ks) ↔ Contains ks q
  found ks q = (Contains-from_any exact q ks, list_any-from_Contains laws q ks)

  module _ (old new : List K) (k : K) where
    -- ---- a key is put in

    module _ (updates : (q : K) → list_any (same q) new ≡ cond (same k q) true (list_any (same q) old)) where
      either_true : (b : Bool) → cond b true true ≡ true
      either_true true = refl
      either_true false = refl

      pub put_kept : (q : K) → Contains old q → Contains new q
      put_kept q c = (found new q).0 (updates q ∙ ap (cond (same k q) true) ((found old q).1 c) ∙ either_true (same k q))

      pub put_only : (q : K) → Contains new q → Contains old q ⊎ (q ≡ k)
      put_only q c =
          elim (same k q) as (λ b. same k q ≡ b → Contains old q ⊎ (q ≡ k)) [
            | true ↦ λ tied. inr (sym (exact k q tied))
            | false ↦ λ apart. inl ((found old q).0 (ap (λ b. cond b true (list_any (same q) old)) (sym apart) ∙ sym (updates q) ∙ (found new q).1 c))
          ] refl

      pub put_there : Contains new k
      put_there = (found new k).0 (updates k ∙ ap (λ b. cond b true (list_any (same k) old)) (laws.refl k))

    -- ---- a key is taken out

    module _ (updates : (q : K) → list_any (same q) new ≡ cond (same k q) false (list_any (same q) old)) where
      gone_at : (q : K) → same k q ≡ true → Contains new q → ⊥
      gone_at q tied c = true≢false (sym ((found new q).1 c) ∙ updates q ∙ ap (λ b. cond b false (list_any (same q) old)) tied)

      pub taken_gone : Contains new k → ⊥
      taken_gone c = gone_at k (laws.refl k) c

      pub taken_only : (q : K) → Contains new q → Contains old q
      taken_only q c =
          elim (same k q) as (λ b. same k q ≡ b → Contains old q) [
            | true ↦ λ tied. absurd (gone_at q tied c)
            | false ↦ λ apart. (found old q).0 (ap (λ b. cond b false (list_any (same q) old)) (sym apart) ∙ sym (updates q) ∙ (found new q).1 c)
          ] refl

      pub taken_kept : (q : K) → Contains old q → q ≢ k → Contains new q
      taken_kept q c other =
          elim (same k q) as (λ b. same k q ≡ b → Contains new q) [
            | true ↦ λ tied. absurd (other (sym (exact k q tied)))
            | false ↦ λ apart. (found new q).0 (updates q ∙ ap (λ b. cond b false (list_any (same q) old)) apart ∙ (found old q).1 c)
          ] refl

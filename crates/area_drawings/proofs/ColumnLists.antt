-- Columns that were sorted, and of which each is kept once.
use Rattle.std.proofs.Common.{◌≡◌, ℕ, Bool, true, false, List, [], map, Ordering, refl, sym, ap, subst, ◌∙◌}
use Rattle.std.specs.Prelude.{◌↔◌, ◌==◌}
use Rattle.std.specs.Bool.{beq}
use Rattle.std.specs.Ordering.{nat_cmp, bool_cmp, eq_by_cmp}
use Rattle.std.specs.Cmp.{IsTotalOrder, nat_cmp_total, bool_cmp_total, both_tied, unsigned_ties, eq_by_cmp_equiv}
use Rattle.std.specs.List.{Contains, dedup}
use Rattle.std.specs.List.Retain.{IsFiltered, DiffersFromLast}
use Rattle.std.specs.List.Sorted.{IsSorted, IsStrictlySortedBy, IsPermutation}
use Rattle.std.proofs.lemmas.Cmp.{on_total, then_total}
use Rattle.std.proofs.lemmas.List.Filters.{dedup_is}
use Rattle.std.proofs.lemmas.List.Kept.{IsStrictlySortedBy-dedup, Contains-dedup, Contains-from_dedup}
use Rattle.std.proofs.lemmas.List.Sorted.{Contains-permutation, IsPermutation-sym}
use Rattle.std.proofs.lemmas.Map.Lookups.{CmpEqualImpliesEq, exact_pairs, exact_unsigned}
use Rattle.std.proofs.lemmas.Map.Views.{tells_apart}
use Rattle.ospf_types.proofs.Elements.{mapped_element, mapped_from}
use Rattle.area_drawings.specs.declared.columns.Column.{Column}
use Rattle.area_drawings.specs.declared.reached.ReachedVertex.{ReachedVertex}
use Rattle.area_drawings.specs.contracts.columns.ColumnOrd.TheImpl as derived_order
use Rattle.area_drawings.specs.contracts.columns.ColumnPartialEq.TheImpl as derived_equality
use Rattle.area_drawings.specs.Columns.{column_cmp, column_of, AreColumnsOf}

column_total : IsTotalOrder column_cmp
column_total = then_total (on_total (λ c. c.distance) nat_cmp_total) (on_total (λ c. c.of_routers) bool_cmp_total)

kind_exact : CmpEqualImpliesEq bool_cmp
kind_exact false false h = refl
kind_exact false true h = absurd cc
kind_exact true false h = absurd cc
kind_exact true true h = refl

column_exact : CmpEqualImpliesEq column_cmp
column_exact a b h =
    ap (λ (p : ℕ × Bool). let c : Column = record { distance = p.0; of_routers = p.1 } in c)
    (exact_pairs nat_cmp bool_cmp exact_unsigned kind_exact (a.distance, a.of_routers) (b.distance, b.of_routers) h)

order_is : derived_order.ghosts.cmp ≡ column_cmp
order_is = refl

kinds_tied : (a b : Bool) → beq a b ≡ eq_by_cmp bool_cmp a b
kinds_tied false false = refl
kinds_tied false true = refl
kinds_tied true false = refl
kinds_tied true true = refl

columns_equal : Column → Column → Bool
columns_equal = (derived_equality.eq-value).it

tied : (a b : Column) → (derived_equality.eq-value).it a b ≡ eq_by_cmp column_cmp a b
tied a b =
    both_tied (a.distance == b.distance) (beq a.of_routers b.of_routers) (nat_cmp a.distance b.distance) (bool_cmp a.of_routers b.of_routers) (unsigned_ties a.distance b.distance) (kinds_tied a.of_routers b.of_routers)

tied_is : (derived_equality.eq-value).it ≡ eq_by_cmp column_cmp
tied_is = λ i a b. tied a b i

module _ (reached : List ReachedVertex) (all sorted kept : List Column) (each : all ≡ map column_of reached) (moved : IsPermutation all sorted) (in_order : IsSorted derived_order.ghosts.cmp sorted)
    (filtered : IsFiltered (DiffersFromLast (derived_equality.eq-value).it) [] sorted kept) where
  kept_is : kept ≡ dedup (eq_by_cmp column_cmp) sorted
  kept_is = dedup_is (derived_equality.eq-value).it sorted kept filtered ∙ ap (λ (same : Column → Column → Bool). dedup same sorted) tied_is

  -- they ascend
  pub ascending : IsStrictlySortedBy column_cmp kept
  ascending = subst (IsStrictlySortedBy column_cmp) (sym kept_is) (IsStrictlySortedBy-dedup column_total (λ v w. refl) sorted (subst (λ (c : Column → Column → Ordering). IsSorted c sorted) order_is in_order))

  same_columns : (c : Column) → Contains kept c ↔ Contains all c
  same_columns c = (
    λ h. Contains-permutation sorted all c (IsPermutation-sym all sorted moved) (Contains-from_dedup (eq_by_cmp column_cmp) sorted c (subst (λ (cs : List Column). Contains cs c) kept_is h)),
    λ h. subst (λ (cs : List Column). Contains cs c) (sym kept_is) (Contains-dedup (eq_by_cmp_equiv column_total) (tells_apart column_exact) sorted c (Contains-permutation all sorted c moved h)),
  )

  -- and belong to the vertices
  pub of_vertices : AreColumnsOf reached kept
  of_vertices c = (
    λ h. mapped_from column_of reached c (subst (λ (cs : List Column). Contains cs c) each ((same_columns c).0 h)),
    λ h. (same_columns c).1 (subst (λ (cs : List Column). Contains cs c) (sym each) (subst (Contains (map column_of reached)) h.2 (mapped_element column_of reached h.0 h.1))),
  )

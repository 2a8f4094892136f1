-- The elements of a list in the order of its keys, by place.
use Rattle.std.proofs.Common.{◌≡◌, ℕ, zero, suc, ◌<◌, Bool, true, false, T, List, [], ◌∷◌, length, get_or, Some, Ordering, refl, sym, ap, ◌∙◌, arith}
use Rattle.std.specs.Prelude.{◌&&◌}
use Rattle.std.specs.declared.cmp.Ordering.TheVariants.{Less, Equal, Greater}
use Rattle.std.specs.Ordering.{is_lt, ordering_reverse}
use Rattle.std.specs.Cmp.{IsTotalOrder}
use Rattle.std.specs.List.{Contains}
use Rattle.std.specs.FinMap.{FinMap, IsAntisymmetric, find, get, entries, get-entries, entries_sorted, is_sorted}
use Rattle.std.specs.FinMap.Entries.{below_all}
use Rattle.std.proofs.lemmas.Cmp.{tied_itself}
use Rattle.std.proofs.lemmas.Map.Views.{Contains-from_lookup, tells_apart}
use Rattle.ospf_types.proofs.Maps.{find-lookup}

front : (a b : Bool) → T (a && b) → T a
front true b p = tt
front false b p = p

rest : (a b : Bool) → T (a && b) → T b
rest true b p = p
rest false b p = absurd p

less : (o : Ordering) → T (is_lt o) → o ≡ Less
less Less p = refl
less Equal p = absurd p
less Greater p = absurd p

-- where the order is Less one way, it is Greater the other way
pub reversed : {K : Type 0} {R : K → K → Ordering} → IsTotalOrder R → (x y : K) (o : Ordering) → R x y ≡ o → R y x ≡ ordering_reverse o
reversed o x y r h = o.antisymm y x ∙ ap ordering_reverse h

module _ {K X : Type 0} (R : K → K → Ordering) where
  below_at : (x : K) (es : List (K × X)) (k : ℕ) (d : K × X) → T (below_all R x es) → k < length es → R x (get_or es k d).0 ≡ Less
  below_at x [] k d h lt = absurd (omega arith)
  below_at x (e ∷ es) zero d h lt = less _ (front _ _ h)
  below_at x (e ∷ es) (suc k) d h lt = below_at x es k d (rest _ _ h) (omega arith)

  module _ (o : IsTotalOrder R) where
    later : (e : K × X) (es : List (K × X)) (i : ℕ) (k : K) (d : K × X) → T (below_all R e.0 es) → i < length es → R k (get_or es i d).0 ≡ Equal → R k e.0 ≡ Greater
    later e es i k d h lt tie = o.congr k (get_or es i d).0 e.0 tie ∙ reversed o e.0 (get_or es i d).0 Less (below_at e.0 es i d h lt)

    -- what is found at a key that is there
    pub find_at : (es : List (K × X)) (i : ℕ) (q : K) (d : K × X) → T (is_sorted R es) → i < length es → R q (get_or es i d).0 ≡ Equal → find R q es ≡ Some (get_or es i d).1
    find_at [] i q d h lt tie = absurd (omega arith)
    find_at (e ∷ es) zero q d h lt tie = rw tie refl
    find_at (e ∷ es) (suc i) q d h lt tie = rw (later e es i q d (front _ _ h) (omega arith) tie) (find_at es i q d (rest _ _ h) (omega arith) tie)

-- a key with a value is among the entries of a map just where it finds the value
module _ {K V : Type 0} {R : K → K → Ordering} (m : FinMap R V) (k : K) (v : V) where
  pub value_at : IsAntisymmetric R → get m k ≡ Some v → Contains (entries m) (k, v)
  value_at exact e = Contains-from_lookup (tells_apart exact) k v (entries m) (sym (find-lookup R k (entries m)) ∙ sym (get-entries m k) ∙ e)

  pub value_from : IsTotalOrder R → Contains (entries m) (k, v) → get m k ≡ Some v
  value_from total c =
      let e : K × V = get_or (entries m) c.0 (k, v) in
      let is : e ≡ (k, v) = c.2 in
      get-entries m k ∙ find_at R total (entries m) c.0 k (k, v) (entries_sorted m) c.1 (ap (λ (x : K × V). R k x.0) is ∙ tied_itself total k) ∙ ap (λ (x : K × V). Some x.1) is

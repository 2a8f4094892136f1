-- The result at a place among entries, and whether another result is at a key than before.
use Rattle.std.proofs.Common.{◌≡◌, ◌≢◌, Bool, cond, true, false, List, [], ◌∷◌, length, Option, Some, None, Ordering, refl, sym, ap, subst, ◌∙◌, arith}
use Rattle.std.specs.Prelude.{◌↔◌, IsTrue, not}
use Rattle.std.specs.Cmp.{IsEquivalence, eq_by_cmp_equiv}
use Rattle.std.specs.Map.{lookup_key}
use Rattle.std.proofs.lemmas.Option.{same_Some}
use Rattle.route_choice.specs.Results.{result_in}
use Rattle.route_choice.proofs.KeyedMaps.{looked_up}
use Rattle.route_choice.proofs.KeyLaws.{IsKeyOrder, decided}

module _ {K : Type 0} {order : K → K → Ordering} {equals : K → K → Bool} (keys : IsKeyOrder order equals) where
  pub equivalence : IsEquivalence equals
  equivalence = subst (λ (eq : K → K → Bool). IsEquivalence eq) (sym keys.ties) (eq_by_cmp_equiv keys.total)

  -- a lookup finds the key itself
  pub own_key : {V : Type 0} (es : List (K × V)) (k q : K) → lookup_key (equals k) es ≡ Some q → q ≡ k
  own_key [] k q is = absurd cc
  own_key {V} (e ∷ es) k q is = by (own_key es k q) (equals k e.0) refl is
    where
      by : (lookup_key (equals k) es ≡ Some q → q ≡ k) → (b : Bool) → equals k e.0 ≡ b → cond b (Some e.0) (lookup_key (equals k) es) ≡ Some q → q ≡ k
      by rest true same first = sym ((decided keys k e.0).0 same ∙ same_Some e.0 q first)
      by rest false other later = rest later

  -- of no entries nothing is found
  pub nothing_in : {V : Type 0} (es : List (K × V)) (k : K) → length es ≡ 0 → None ≡ result_in order es k
  nothing_in [] k none = looked_up keys.total keys.exact keys.ties [] k
  nothing_in (e ∷ es) k none = absurd (omega (arith, none))

module _ {K V : Type 0} (q k : K) (w v : V) (there : ◌≡◌ {A = Option (K × V)} (Some (q, w)) (Some (k, v))) where
  -- whose result is at a place
  pub own_of : q ≡ k
  own_of = ap (λ (x : K × V). x.0) (same_Some (q, w) (k, v) there)

  pub value_of : w ≡ v
  value_of = ap (λ (x : K × V). x.1) (same_Some (q, w) (k, v) there)

-- ---- another result

module _ {V : Type 0} where
  -- one is written
  pub written_tells : (stays : Bool) (old new : Option V) (fresh : V) → IsTrue stays ↔ (old ≡ Some fresh) → new ≡ Some fresh → IsTrue (not stays) ↔ (old ≢ new)
  written_tells true old new fresh is here = (λ t. absurd cc, λ other. absurd (other (is.0 refl ∙ sym here)))
  written_tells false old new fresh is here = (λ t same. let wrong : false ≡ true = is.1 (same ∙ here) in cc, λ other. refl)

  pub written_stays : (stays : Bool) (old new : Option V) (fresh : V) → IsTrue stays ↔ (old ≡ Some fresh) → new ≡ Some fresh → not stays ≡ false → new ≡ old
  written_stays true old new fresh is here same = here ∙ sym (is.0 refl)
  written_stays false old new fresh is here same = absurd cc

  -- one comes
  pub come_tells : (old new : Option V) (value : V) → old ≡ None → new ≡ Some value → IsTrue true ↔ (old ≢ new)
  come_tells old new value none come = (λ t same. let wrong : None ≡ Some value = sym none ∙ same ∙ come in cc, λ other. refl)

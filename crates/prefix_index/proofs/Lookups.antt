-- The results of a search.
use Rattle.std.proofs.Common.{◌≡◌, ◌≢◌, ℕ, ◌+◌, ◌<◌, List, [], ◌∷◌, length, get_or, Option, Some, None, is_some, cond, suc, zero, refl, sym, ap, subst, ◌∙◌, arith}
use Rattle.std.specs.FinMap.{get, len, len-empty, len-insert}
use Rattle.std.specs.List.{AllPairs}
use Rattle.std.proofs.lemmas.Option.{slice_get-get_or, slice_get_within, get_or_from_slice_get}
use Rattle.ospf_types.proofs.Orders.{network_total}
use Rattle.ospf_types.specs.Network.{Network, network_cmp}
use Rattle.prefix_index.specs.Slots.{HasNetwork, IsSlotPlaced, IsOnce}
use Rattle.prefix_index.proofs.Standing.{map_of, gotten, nowhere}

module _ {V : Type 0} where
  pub has_at : (es : List (Network × V)) (i : ℕ) (p : Network) (d : Network × V) → i < length es → (get_or es i d).0 ≡ p → HasNetwork es i p
  has_at es i p d within named = subst (λ (q : Network). HasNetwork es i q) named (record { value = (get_or es i d).1; stands = slice_get-get_or es i d within })

  pub has_within : (es : List (Network × V)) (i : ℕ) (p : Network) → HasNetwork es i p → i < length es
  has_within es i p has = slice_get_within es i (p, has.value) has.stands

  pub named_at : (es : List (Network × V)) (i : ℕ) (p : Network) (d : Network × V) → HasNetwork es i p → (get_or es i d).0 ≡ p
  named_at es i p d has = ap (λ (e : Network × V). e.0) (get_or_from_slice_get es i (p, has.value) d has.stands)

  -- each occurs once
  pub pairs_apart : (es : List (Network × V)) → IsOnce es → AllPairs (λ e f. e.0 ≢ f.0) es
  pairs_apart es once i j d below within same =
      let one = once i j (get_or es j d).0 (has_at es i (get_or es j d).0 d (omega arith) same) (has_at es j (get_or es j d).0 d within refl) in
      omega (arith, one)

  once_rest : (e : Network × V) (es : List (Network × V)) → IsOnce (e ∷ es) → IsOnce es
  once_rest e es once i j p has as_well =
      let one : suc i ≡ suc j = once (suc i) (suc j) p (record { value = has.value; stands = has.stands }) (record { value = as_well.value; stands = as_well.stands }) in
      omega (arith, one)

  first_new : (e : Network × V) (es : List (Network × V)) → IsOnce (e ∷ es) → get (map_of es) e.0 ≡ None
  first_new e es once = nowhere es e.0 (λ i has.
      let one : zero ≡ suc i = once zero (suc i) e.0 (record { value = e.1; stands = refl }) (record { value = has.value; stands = has.stands }) in
      omega (arith, one))

  counted_more : (o : Option V) (n : ℕ) → o ≡ None → cond (is_some o) n (n + 1) ≡ n + 1
  counted_more o n none = ap (λ (p : Option V). cond (is_some p) n (n + 1)) none

  -- this many networks have a value
  pub counted : (es : List (Network × V)) → IsOnce es → len (map_of es) ≡ length es
  counted [] once = len-empty network_cmp V
  counted (e ∷ es) once =
      let rest : len (map_of es) ≡ length es = counted es (once_rest e es once) in
      let more = len-insert network_total (map_of es) e.0 e.1 ∙ counted_more (get (map_of es) e.0) (len (map_of es)) (first_new e es once) in
      more ∙ omega (arith, rest)

  -- the value of the entry that is read
  pub value_at : (es : List (Network × V)) → IsOnce es → (k : Network) (i : ℕ) → HasNetwork es i k → (x : Network × V) → x ≡ get_or es i x → Some x.1 ≡ get (map_of es) k
  value_at es once k i has x is =
      ap (λ (e : Network × V). Some e.1) (is ∙ get_or_from_slice_get es i (k, has.value) x has.stands) ∙ sym (gotten es once k has.value i has.stands)

pub placed_as : {xs ys : List ℕ} {h g m n : ℕ} → xs ≡ ys → h ≡ g → m ≡ n → IsSlotPlaced ys g n → IsSlotPlaced xs h m
placed_as {xs} {ys} {h} {g} {m} {n} numbers home number placed =
    subst (λ (zs : List ℕ). IsSlotPlaced zs h m) (sym numbers) (subst (λ (z : ℕ). IsSlotPlaced ys z m) (sym home) (subst (λ (z : ℕ). IsSlotPlaced ys g z) (sym number) placed))

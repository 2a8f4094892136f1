-- Entries and the finite map that they are.
use Rattle.std.proofs.Common.{◌≡◌, ◌≢◌, ℕ, zero, suc, Bool, true, false, cond, List, [], ◌∷◌, Option, Some, None, IsSome, refl, sym, ap, subst, ◌∙◌, true≢false}
use Rattle.std.specs.Ordering.{eq_by_cmp}
use Rattle.std.specs.Cmp.{eq_by_cmp_equiv}
use Rattle.std.specs.List.{slice_get}
use Rattle.std.specs.FinMap.{FinMap, find, get, insert, remove, from_entries, get-from_entries, get-insert, get-remove, same_map}
use Rattle.std.proofs.lemmas.Map.Views.{tells_apart}
use Rattle.std.proofs.lemmas.Option.{same_Some, none-some}
use Rattle.ospf_types.proofs.Orders.{network_total, network_exact}
use Rattle.ospf_types.specs.Network.{Network, network_cmp}
use Rattle.prefix_index.specs.Slots.{HasNetwork, IsOnce}

-- the same values are in both
pub same_option : {V : Type 0} (o p : Option V) → ((v : V) → o ≡ Some v → p ≡ Some v) → ((v : V) → p ≡ Some v → o ≡ Some v) → o ≡ p
same_option None None to from = refl
same_option None (Some v) to from = from v refl
same_option (Some v) p to from = sym (to v refl)

pub not_both : {E : Type 0} (o : Option E) (e : E) → o ≡ None → o ≡ Some e → ⊥
not_both o e none some = none-some e (sym none ∙ some)

tied_itself : (k : Network) → eq_by_cmp network_cmp k k ≡ true
tied_itself k = (eq_by_cmp_equiv network_total).refl k

module _ {V : Type 0} where
  abbrev pub map_of : List (Network × V) → FinMap network_cmp V
  map_of es = from_entries es

  -- an entry that is found has a place
  pub place_of : (es : List (Network × V)) (k : Network) (v : V) → find network_cmp k es ≡ Some v → (p : ℕ) × (slice_get es p ≡ Some (k, v))
  place_of [] k v is = absurd (none-some v is)
  place_of (e ∷ es) k v is =
      elim (eq_by_cmp network_cmp k e.0) as (λ b. eq_by_cmp network_cmp k e.0 ≡ b → cond b (Some e.1) (find network_cmp k es) ≡ Some v → (p : ℕ) × (slice_get (e ∷ es) p ≡ Some (k, v))) [
        | true ↦ λ same found. (zero, (λ i. Some (sym (tells_apart network_exact k e.0 same) i, same_Some e.1 v found i)))
        | false ↦ λ apart found. let at = place_of es k v found in (suc at.0, at.1)
      ] refl is

  -- a network that has an entry is found
  some_of : (es : List (Network × V)) (k : Network) (v : V) (p : ℕ) → slice_get es p ≡ Some (k, v) → IsSome (find network_cmp k es)
  some_of [] k v p is = absurd (none-some (k, v) is)
  some_of (e ∷ es) k v zero is =
      subst (λ (b : Bool). IsSome (cond b (Some e.1) (find network_cmp k es))) (sym (subst (λ (x : Network). eq_by_cmp network_cmp k x ≡ true) (sym (ap (λ (z : Network × V). z.0) (same_Some e (k, v) is))) (tied_itself k))) refl
  some_of (e ∷ es) k v (suc p) is =
      elim (eq_by_cmp network_cmp k e.0) as (λ b. IsSome (cond b (Some e.1) (find network_cmp k es))) [ true ↦ refl | false ↦ some_of es k v p is ]

  some_is : (o : Option V) → IsSome o → (v : V) × (o ≡ Some v)
  some_is None is = absurd (true≢false (sym is))
  some_is (Some v) is = (v, refl)

  pub one_entry : (o : Option (Network × V)) (e f : Network × V) → o ≡ Some e → o ≡ Some f → e ≡ f
  one_entry o e f is as_well = same_Some e f (sym is ∙ as_well)

  -- a value that is in the map has an entry
  pub found : (es : List (Network × V)) (k : Network) (v : V) → get (map_of es) k ≡ Some v → (p : ℕ) × (slice_get es p ≡ Some (k, v))
  found es k v is = place_of es k v (sym (get-from_entries network_total es k) ∙ is)

  -- and an entry's value is in the map
  pub gotten : (es : List (Network × V)) → IsOnce es → (k : Network) (v : V) (p : ℕ) → slice_get es p ≡ Some (k, v) → get (map_of es) k ≡ Some v
  gotten es once k v p is =
      let some = some_is (find network_cmp k es) (some_of es k v p is) in
      let other = place_of es k some.0 some.1 in
      let at_one : p ≡ other.0 = once p other.0 k (record { value = v; stands = is }) (record { value = some.0; stands = other.1 }) in
      let one : ◌≡◌ {A = Network × V} (k, v) (k, some.0) = one_entry (slice_get es other.0) (k, v) (k, some.0) (subst (λ (r : ℕ). slice_get es r ≡ Some (k, v)) at_one is) other.1 in
      get-from_entries network_total es k ∙ some.1 ∙ ap (λ (z : Network × V). Some z.1) (sym one)

  -- a network that has no entry has no value
  pub nowhere : (es : List (Network × V)) (k : Network) → ((i : ℕ) → HasNetwork es i k → ⊥) → get (map_of es) k ≡ None
  nowhere es k none = same_option (get (map_of es) k) None
      (λ v is. let at = found es k v is in absurd (none at.0 (record { value = v; stands = at.1 })))
      (λ v is. absurd (none-some v is))

  -- the other way round
  pub none_at : (es : List (Network × V)) → IsOnce es → (k : Network) → get (map_of es) k ≡ None → (i : ℕ) → HasNetwork es i k → ⊥
  none_at es once k none i has = not_both (get (map_of es) k) has.value none (gotten es once k has.value i has.stands)

  module _ (es fs : List (Network × V)) (before : IsOnce es) (after : IsOnce fs) (p : ℕ) (k : Network) where
    -- an entry is put at a place where no other network's was
    pub put_stands : (v : V) → slice_get fs p ≡ Some (k, v) → ((q : ℕ) → q ≢ p → slice_get fs q ≡ slice_get es q) → ((f : Network × V) → slice_get es p ≡ Some f → f.0 ≡ k)
        → map_of fs ≡ insert (map_of es) k v
    put_stands v here others was = same_map network_total network_exact (map_of fs) (insert (map_of es) k v) (λ q.
        (elim (eq_by_cmp network_cmp q k) as (λ b. eq_by_cmp network_cmp q k ≡ b → get (map_of fs) q ≡ cond b (Some v) (get (map_of es) q)) [
          | true ↦ λ same. subst (λ (x : Network). get (map_of fs) x ≡ Some v) (sym (tells_apart network_exact q k same)) (gotten fs after k v p here)
          | false ↦ λ apart.
              let other : q ≢ k = λ same. true≢false (sym (subst (λ (x : Network). eq_by_cmp network_cmp q x ≡ true) same (tied_itself q)) ∙ apart) in
              same_option (get (map_of fs) q) (get (map_of es) q)
              (λ w is.
              let at = found fs q w is in
              let elsewhere : at.0 ≢ p = λ same. other (ap (λ (z : Network × V). z.0) (one_entry (slice_get fs p) (q, w) (k, v) (subst (λ (r : ℕ). slice_get fs r ≡ Some (q, w)) same at.1) here)) in
              gotten es before q w at.0 (sym (others at.0 elsewhere) ∙ at.1))
              (λ w is.
              let at = found es q w is in
              let elsewhere : at.0 ≢ p = λ same. other (was (q, w) (subst (λ (r : ℕ). slice_get es r ≡ Some (q, w)) same at.1)) in
              gotten fs after q w at.0 (others at.0 elsewhere ∙ at.1))
        ] refl) ∙ sym (get-insert network_total (map_of es) k v q))

    -- the entry is taken out, and the others stand somewhere
    pub take_stands : HasNetwork es p k → ((q : ℕ) (f : Network × V) → slice_get fs q ≡ Some f → (r : ℕ) × (r ≢ p) × (slice_get es r ≡ Some f))
        → ((r : ℕ) (f : Network × V) → r ≢ p → slice_get es r ≡ Some f → (q : ℕ) × (slice_get fs q ≡ Some f)) → map_of fs ≡ remove (map_of es) k
    take_stands has old kept = same_map network_total network_exact (map_of fs) (remove (map_of es) k) (λ q.
        (elim (eq_by_cmp network_cmp q k) as (λ b. eq_by_cmp network_cmp q k ≡ b → get (map_of fs) q ≡ cond b None (get (map_of es) q)) [
          | true ↦ λ tie. same_option (get (map_of fs) q) None
              (λ w is.
              let at = found fs q w is in
              let was = old at.0 (q, w) at.1 in
              absurd (was.1 (before was.0 p k (subst (λ (x : Network). HasNetwork es was.0 x) (tells_apart network_exact q k tie) (record { value = w; stands = was.2 })) has)))
              (λ w none. absurd (none-some w none))
          | false ↦ λ apart.
              let other : q ≢ k = λ one. true≢false (sym (subst (λ (x : Network). eq_by_cmp network_cmp q x ≡ true) one (tied_itself q)) ∙ apart) in
              same_option (get (map_of fs) q) (get (map_of es) q)
              (λ w is.
              let at = found fs q w is in
              let was = old at.0 (q, w) at.1 in
              gotten es before q w was.0 was.2)
              (λ w is.
              let at = found es q w is in
              let elsewhere : at.0 ≢ p = λ at_p. other (ap (λ (z : Network × V). z.0) (one_entry (slice_get es p) (q, w) (k, has.value) (subst (λ (r : ℕ). slice_get es r ≡ Some (q, w)) at_p at.1) has.stands)) in
              let now = kept at.0 (q, w) elsewhere at.1 in
              gotten fs after q w now.0 now.1)
        ] refl) ∙ sym (get-remove network_total (map_of es) k q))

-- nothing is taken out where the network has no value
pub none_removed : {V : Type 0} (m : FinMap network_cmp V) (k : Network) → get m k ≡ None → m ≡ remove m k
none_removed m k none = same_map network_total network_exact m (remove m k) (λ q.
    (elim (eq_by_cmp network_cmp q k) as (λ b. eq_by_cmp network_cmp q k ≡ b → get m q ≡ cond b None (get m q)) [
      | true ↦ λ tie. ap (get m) (tells_apart network_exact q k tie) ∙ none
      | false ↦ λ apart. refl
    ] refl) ∙ sym (get-remove network_total m k q))

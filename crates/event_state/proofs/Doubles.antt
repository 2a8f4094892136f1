-- Lists whose elements are put into a set one after the other, and lists that ascend: no two
-- elements are alike.
use Rattle.std.proofs.Common.{◌≡◌, ℕ, ◌+◌, ◌<◌, ◌≤◌, Bool, true, false, not, cond, List, [], ◌∷◌, ◌++◌, length, get_or, take, drop, BTreeSet, Ordering, refl, sym, ap, ◌∙◌, inl, inr, arith}
use Rattle.std.specs.Prelude.{◌==◌, ◌&&◌, ◌||◌}
use Rattle.std.specs.List.{list_any, Contains}
use Rattle.std.specs.Ordering.{nat_cmp, eq_by_cmp, is_eq, is_lt, ordering_then}
use Rattle.std.specs.declared.cmp.Ordering.TheVariants.{Less, Equal, Greater}
use Rattle.std.specs.Cmp.{IsTotalOrder, unsigned_ties}
use Rattle.std.specs.BTreeSet.{contains, Updates}
use Rattle.std.proofs.lemmas.Bool.{or_from, and_parts, ltb-true}
use Rattle.std.proofs.lemmas.Bool.Decides.{nat_tests}
use Rattle.std.proofs.lemmas.Cmp.{on_total, then_total}
use Rattle.std.proofs.lemmas.List.{take_more, take_all, take-append-drop}
use Rattle.std.proofs.lemmas.List.Folds.{list_any-append}
use Rattle.ospf_types.specs.declared.config.Interface.{Interface}
use Rattle.ospf_types.specs.declared.key.Scope.{Scope}
use Rattle.ospf_types.specs.declared.key.Scope.TheVariants as scope
use Rattle.ospf_types.specs.Keys.{key_cmp, scope_cmp}
use Rattle.ospf_types.specs.Lsa.{Lsa, key_of}
use Rattle.ospf_types.proofs.DerivedOrders.{scope_cmp_is}
use Rattle.ospf_types.proofs.Elements.{no_element, first_or_later}
use Rattle.ospf_types.proofs.Orders.{key_total, scope_total}
use Rattle.event_state.specs.contracts.base_checks.ScopedKeyOrd.TheImpl as scoped_order
use Rattle.event_state.specs.declared.base.Base.{Base}
use Rattle.event_state.specs.Ascending.{scoped_key, scoped_cmp, is_before_first, is_ascending, is_before_first_id, ids_ascend, is_ordered}
use Rattle.event_state.specs.Bases.{is_scope}
use Rattle.event_state.specs.BaseFaults.{has_twice, is_same_id, is_same_place, is_doubled}
use Rattle.event_state.proofs.Twice.{all_fail, twice_push, twice_front}

-- ---- a set of what was there

module _ {K X : Type 0} (R : K → K → Ordering) (key : X → K) (alike : X → X → Bool) (alike_is : (x y : X) → alike x y ≡ eq_by_cmp R (key x) (key y)) where
  -- the set has the keys of the first i, and no two of these are alike
  pub record IsSeen (xs : List X) (i : ℕ) (s : BTreeSet K) : Type 0 where
    pub seen : (q : K) → contains R s q ≡ list_any (λ x. eq_by_cmp R (key x) q) (take i xs)
    pub once : has_twice alike (take i xs) ≡ false

  pub seen_first : (xs : List X) (s : BTreeSet K) → s.keys ≡ [] → IsSeen xs 0 s
  seen_first xs s none = record { seen = λ q. ap (list_any (λ k. is_eq (R q k))) none; once = refl }

  added : (b c : Bool) → cond b true c ≡ (c || (b || false))
  added true true = refl
  added true false = refl
  added false true = refl
  added false false = refl

  push : (b c : Bool) → b ≡ not c → b ≡ true → c ≡ false
  push b true is new = absurd (let wrong : true ≡ false = sym new ∙ is in cc)
  push b false is new = refl

  there : (b c : Bool) → b ≡ not c → b ≡ false → c ≡ true
  there b true is old = refl
  there b false is old = absurd (let wrong : true ≡ false = sym is ∙ old in cc)

  module _ (xs : List X) (i : ℕ) (x : X) (s n : BTreeSet K) (b : Bool) (lt : i < length xs) (here : x ≡ get_or xs i x) (so_far : IsSeen xs i s) (is : b ≡ not (contains R s (key x))) where
    one : take (i + 1) xs ≡ take i xs ++ x ∷ []
    one = take_more xs i x lt ∙ ap (λ (y : X). take i xs ++ y ∷ []) (sym here)

    among : contains R s (key x) ≡ list_any (λ y. alike y x) (take i xs)
    among = so_far.seen (key x) ∙ ap (λ (p : X → Bool). list_any p (take i xs)) (λ j y. sym (alike_is y x) j)

    pub seen_next : Updates R s n (key x) true → b ≡ true → IsSeen xs (i + 1) n
    seen_next updates new = record {
      seen = λ q.
          updates.0 q ∙ added (eq_by_cmp R (key x) q) (contains R s q) ∙ ap (λ (c : Bool). c || (eq_by_cmp R (key x) q || false)) (so_far.seen q)
          ∙ sym (list_any-append (λ y. eq_by_cmp R (key y) q) (take i xs) (x ∷ [])) ∙ ap (list_any (λ y. eq_by_cmp R (key y) q)) (sym one);
      once =
          ap (has_twice alike) one ∙ twice_push alike (take i xs) x
          ∙ or_from (has_twice alike (take i xs)) (list_any (λ y. alike y x) (take i xs)) so_far.once (sym among ∙ push b (contains R s (key x)) is new);
    }

    -- an element whose key is there is like one before it
    pub seen_twice : b ≡ false → true ≡ has_twice alike xs
    seen_twice old =
        let two : has_twice alike (take (i + 1) xs) ≡ true =
        ap (has_twice alike) one ∙ twice_push alike (take i xs) x ∙ ap (λ (c : Bool). has_twice alike (take i xs) || c) (sym among ∙ there b (contains R s (key x)) is old) ∙ or_true (has_twice alike (take i xs)) in
        sym (ap (has_twice alike) (sym (take-append-drop (i + 1) xs)) ∙ twice_front alike (take (i + 1) xs) (drop (i + 1) xs) two)
      where
        or_true : (c : Bool) → (c || true) ≡ true
        or_true true = refl
        or_true false = refl

  pub seen_all : (xs : List X) (i : ℕ) (s : BTreeSet K) → length xs ≤ i → IsSeen xs i s → false ≡ has_twice alike xs
  seen_all xs i s le h = sym (ap (has_twice alike) (sym (take_all i xs le)) ∙ h.once)

pub id_is : (x y : ℕ × Interface) → is_same_id x y ≡ eq_by_cmp nat_cmp x.0 y.0
id_is x y = unsigned_ties x.0 y.0

-- ---- scopes with keys

both_tie : (a b : Ordering) → is_eq a && is_eq b ≡ is_eq (ordering_then a b)
both_tie Less b = refl
both_tie Equal b = refl
both_tie Greater b = refl

scope_is : (a b : Scope) → is_scope a b ≡ is_eq (scope_cmp a b)
scope_is (scope.Area a) (scope.Area b) = unsigned_ties a b
scope_is (scope.Area a) scope.As = refl
scope_is scope.As (scope.Area b) = refl
scope_is scope.As scope.As = refl

scoped_is : (x y : Scope × Lsa) → is_same_place x y ≡ eq_by_cmp scoped_cmp (scoped_key x) (scoped_key y)
scoped_is x y = ap (λ (b : Bool). b && eq_by_cmp key_cmp (key_of x.1) (key_of y.1)) (scope_is x.0 y.0) ∙ both_tie (scope_cmp x.0 y.0) (key_cmp (key_of x.1) (key_of y.1))

-- the derived order are as defined
pub scoped_cmp_is : scoped_order.ghosts.cmp ≡ scoped_cmp
scoped_cmp_is = λ i a b. ordering_then (scope_cmp_is i a.scope b.scope) (key_cmp a.key b.key)

pub place_is : (x y : Scope × Lsa) → is_same_place x y ≡ eq_by_cmp scoped_order.ghosts.cmp (scoped_key x) (scoped_key y)
place_is x y = scoped_is x y ∙ (λ i. is_eq (sym scoped_cmp_is i (scoped_key x) (scoped_key y)))

scoped_total : IsTotalOrder scoped_cmp
scoped_total = then_total (on_total (λ k. k.scope) scope_total) (on_total (λ k. k.key) key_total)

-- ---- LSAs that ascend

less : (o : Ordering) → is_lt o ≡ true → o ≡ Less
less Less e = refl
less Equal e = absurd cc
less Greater e = absurd cc

-- the first comes before all others
first_before : (x : Scope × Lsa) (xs : List (Scope × Lsa)) → is_ascending (x ∷ xs) ≡ true → (y : Scope × Lsa) → Contains xs y → scoped_cmp (scoped_key x) (scoped_key y) ≡ Less
first_before x [] ascending y c = absurd (no_element y c)
first_before x (z ∷ xs) ascending y c =
    let parts = and_parts (is_before_first x (z ∷ xs)) (is_ascending (z ∷ xs)) ascending in
    let next = less (scoped_cmp (scoped_key x) (scoped_key z)) parts.0 in
    elim (first_or_later z y xs c) [
      | inl first ↦ ap (λ (w : Scope × Lsa). scoped_cmp (scoped_key x) (scoped_key w)) first ∙ next
      | inr later ↦ scoped_total.trans (scoped_key x) (scoped_key z) (scoped_key y) next (first_before z xs parts.1 y later)
    ]

pub ascending_once : (xs : List (Scope × Lsa)) → is_ascending xs ≡ true → has_twice is_same_place xs ≡ false
ascending_once [] ascending = refl
ascending_once (x ∷ xs) ascending =
    or_from (list_any (is_same_place x) xs) (has_twice is_same_place xs)
    (all_fail (is_same_place x) xs (λ y c. scoped_is x y ∙ ap is_eq (first_before x xs ascending y c)))
    (ascending_once xs (and_parts (is_before_first x xs) (is_ascending xs) ascending).1)

-- ---- interfaces that ascend

first_id_before : (x : ℕ × Interface) (xs : List (ℕ × Interface)) → ids_ascend (x ∷ xs) ≡ true → (y : ℕ × Interface) → Contains xs y → x.0 < y.0
first_id_before x [] ascending y c = absurd (no_element y c)
first_id_before x (z ∷ xs) ascending y c =
    let parts = and_parts (is_before_first_id x (z ∷ xs)) (ids_ascend (z ∷ xs)) ascending in
    let next : x.0 < z.0 = ltb-true x.0 z.0 parts.0 in
    elim (first_or_later z y xs c) [
      | inl first ↦ omega (arith, next, ap (λ (w : ℕ × Interface). w.0) first)
      | inr later ↦ omega (arith, next, first_id_before z xs parts.1 y later)
    ]

apart_ids : (m n : ℕ) → m < n → (m == n) ≡ false
apart_ids m n lt = grind (arith, nat_tests)

ids_once : (xs : List (ℕ × Interface)) → ids_ascend xs ≡ true → has_twice is_same_id xs ≡ false
ids_once [] ascending = refl
ids_once (x ∷ xs) ascending =
    or_from (list_any (is_same_id x) xs) (has_twice is_same_id xs)
    (all_fail (is_same_id x) xs (λ y c. apart_ids x.0 y.0 (first_id_before x xs ascending y c)))
    (ids_once xs (and_parts (is_before_first_id x xs) (ids_ascend xs) ascending).1)

-- nothing is listed twice in a base that is ordered
pub ordered_once : (b : Base) → is_ordered b ≡ true → is_doubled b ≡ false
ordered_once b ordered =
    let parts = and_parts (ids_ascend b.interfaces) (is_ascending b.lsas) ordered in
    or_from (has_twice is_same_id b.interfaces) (has_twice is_same_place b.lsas) (ids_once b.interfaces parts.0) (ascending_once b.lsas parts.1)

-- The list of a set: what stays in it and what comes as a key is put in or taken out, and what a
-- range of it has.
use Rattle.std.proofs.Common.{◌≡◌, ◌≢◌, ◌⊎◌, ◌<◌, ◌^◌, ◌&&◌, Bool, true, false, true≢false, not, cond, List, [], ◌∷◌, Ordering, refl, sym, ap, subst, ◌∙◌, inl, inr, arith}
use Rattle.std.specs.Prelude.{filter, Contains}
use Rattle.std.specs.declared.cmp.Ordering.TheVariants.{Less, Equal, Greater}
use Rattle.std.specs.declared.ops.Bound.TheVariants.{Included}
use Rattle.std.specs.Ordering.{ordering_then, ordering_reverse, match_ordering, eq_by_cmp, is_eq, is_lt, is_le}
use Rattle.std.specs.List.{All, AllPairs, list_any}
use Rattle.std.specs.List.Sorted.{IsStrictlySortedBy}
use Rattle.std.specs.BTreeMap.{is_at}
use Rattle.std.specs.BTreeMap.Range.{range_contains}
use Rattle.std.specs.BTreeSet.{insert_key}
use Rattle.std.specs.Set.{remove_key}
use Rattle.std.proofs.lemmas.List.Elements.{All-contains}
use Rattle.std.proofs.lemmas.List.Folds.{list_any-from_Any}
use Rattle.std.proofs.lemmas.Map.Keys.{IsDistinct-from_sorted}
use Rattle.std.proofs.lemmas.Map.Lookups.{CmpEqualImpliesEq}
use Rattle.std.proofs.lemmas.Map.Made.{AllPairs-from_IsDistinct}
use Rattle.std.proofs.lemmas.Map.Views.{tells_apart}
use Rattle.ospf_types.specs.declared.key.Key.{Key}
use Rattle.ospf_types.specs.Keys.{key_cmp}
use Rattle.ospf_types.proofs.Elements.{no_element, first_element, later_element, first_or_later}
use Rattle.advertised_index.specs.declared.index_key.IndexKey.{IndexKey}
use Rattle.advertised_index.specs.LsasByKey.{group_cmp, IsNotAfter, HasSmallKey}
use Rattle.advertised_index.proofs.Groups.{Member, member_cmp, derived_cmp, derived_cmp_is, group_turned}

module _ {K : Type 0} where
  at_first : (y x : K) (rest : List K) → x ≡ y → Contains (y ∷ rest) x
  at_first y x rest first = subst (λ (z : K). Contains (z ∷ rest) x) first (first_element x rest)

  -- what is picked by a test was there, and passes it
  pub picked_from : (test : K → Bool) (xs : List K) (x : K) → Contains (filter test xs) x → Contains xs x × (test x ≡ true)
  picked_from test [] x c = absurd (no_element x c)
  picked_from test (y ∷ ys) x c =
      elim (test y) as (λ b. test y ≡ b → Contains (cond b (y ∷ filter test ys) (filter test ys)) x → Contains (y ∷ ys) x × (test x ≡ true)) [
        | true ↦ λ passes has. elim (first_or_later y x (filter test ys) has) [
          | inl first ↦ (at_first y x ys first, ap test first ∙ passes)
          | inr later ↦ let rest = picked_from test ys x later in (later_element y x ys rest.0, rest.1)
        ]
        | false ↦ λ fails has. let rest = picked_from test ys x has in (later_element y x ys rest.0, rest.1)
      ] refl c

  -- what is left when one is taken out was there
  pub was_there : (test : K → Bool) (xs : List K) (x : K) → Contains (remove_key test xs) x → Contains xs x
  was_there test [] x c = c
  was_there test (y ∷ ys) x c =
      elim (test y) as (λ b. Contains (cond b ys (y ∷ remove_key test ys)) x → Contains (y ∷ ys) x) [
        | true ↦ λ has. later_element y x ys has
        | false ↦ λ has. elim (first_or_later y x (remove_key test ys) has) [ inl first ↦ at_first y x ys first | inr later ↦ later_element y x ys (was_there test ys x later) ]
      ] c

  -- where none passes a test, an element does not
  pub none_passes : (test : K → Bool) (xs : List K) (x : K) → list_any test xs ≡ false → Contains xs x → test x ≡ true → ⊥
  none_passes test xs x none c passes = true≢false (sym (list_any-from_Any test xs (c.0, x, c.1, c.2, passes)) ∙ none)

  -- what passes a test is picked by it
  pub picked : (test : K → Bool) (xs : List K) (x : K) → Contains xs x → test x ≡ true → Contains (filter test xs) x
  picked test [] x c passes = absurd (no_element x c)
  picked test (y ∷ ys) x c passes =
      elim (first_or_later y x ys c) [
        | inl first ↦ rw (sym (ap test first) ∙ passes) (at_first y x (filter test ys) first)
        | inr later ↦ elim (test y) as (λ b. Contains (cond b (y ∷ filter test ys) (filter test ys)) x) [ true ↦ later_element y x (filter test ys) (picked test ys x later passes) | false ↦ picked test ys x later passes ]
      ]

module _ {K : Type 0} (cmp : K → K → Ordering) where
  -- what was there stays when a key is put in
  pub stays_with : (xs : List K) (k x : K) → Contains xs x → Contains (insert_key cmp xs k) x
  stays_with [] k x c = absurd (no_element x c)
  stays_with (y ∷ ys) k x c =
      elim (cmp k y) as (λ o. Contains (match_ordering o (k ∷ y ∷ ys) (y ∷ ys) (y ∷ insert_key cmp ys k)) x) [
        | Less ↦ later_element k x (y ∷ ys) c
        | Equal ↦ c
        | Greater ↦ elim (first_or_later y x ys c) [ inl first ↦ at_first y x (insert_key cmp ys k) first | inr later ↦ later_element y x (insert_key cmp ys k) (stays_with ys k x later) ]
      ]

  -- what is there then was there, or is the key that is put in
  pub came_or_was : (xs : List K) (k x : K) → Contains (insert_key cmp xs k) x → Contains xs x ⊎ (x ≡ k)
  came_or_was [] k x c = elim (first_or_later k x [] c) [ inl first ↦ inr first | inr later ↦ inl later ]
  came_or_was (y ∷ ys) k x c =
      elim (cmp k y) as (λ o. Contains (match_ordering o (k ∷ y ∷ ys) (y ∷ ys) (y ∷ insert_key cmp ys k)) x → Contains (y ∷ ys) x ⊎ (x ≡ k)) [
        | Less ↦ λ has. elim (first_or_later k x (y ∷ ys) has) [ inl first ↦ inr first | inr later ↦ inl later ]
        | Equal ↦ λ has. inl has
        | Greater ↦ λ has. elim (first_or_later y x (insert_key cmp ys k) has) [
          | inl first ↦ inl (at_first y x ys first)
          | inr later ↦ elim (came_or_was ys k x later) [ inl was ↦ inl (later_element y x ys was) | inr is ↦ inr is ]
        ]
      ] c

  -- no key occurs twice in order, where each ties with itself and with no other
  pub apart_in_order : CmpEqualImpliesEq cmp → ((k : K) → cmp k k ≡ Equal) → (xs : List K) → IsStrictlySortedBy cmp xs → AllPairs (λ x y. x ≢ y) xs
  apart_in_order exact ties xs order =
      AllPairs-from_IsDistinct (λ (a b : K). (λ tied. tells_apart exact a b tied, λ same. subst (λ (z : K). eq_by_cmp cmp a z ≡ true) same (ap is_eq (ties a)))) xs (IsDistinct-from_sorted cmp xs order)

  module _ (exact : CmpEqualImpliesEq cmp) where
    -- the key that is put in is there
    pub is_put_in : (xs : List K) (k : K) → Contains (insert_key cmp xs k) k
    is_put_in [] k = first_element k []
    is_put_in (y ∷ ys) k =
        elim (cmp k y) as (λ o. cmp k y ≡ o → Contains (match_ordering o (k ∷ y ∷ ys) (y ∷ ys) (y ∷ insert_key cmp ys k)) k) [
          | Less ↦ λ tied. first_element k (y ∷ ys)
          | Equal ↦ λ tied. at_first y k ys (exact k y tied)
          | Greater ↦ λ tied. later_element y k (insert_key cmp ys k) (is_put_in ys k)
        ] refl

    -- another than the key that is taken out stays
    pub stays_without : (xs : List K) (k x : K) → Contains xs x → (x ≡ k → ⊥) → Contains (remove_key (is_at (cmp k)) xs) x
    stays_without [] k x c other = absurd (no_element x c)
    stays_without (y ∷ ys) k x c other =
        let rest = remove_key (is_at (cmp k)) ys in
        elim (is_at (cmp k) y) as (λ b. is_at (cmp k) y ≡ b → Contains (cond b ys (y ∷ rest)) x) [
          | true ↦ λ tied. elim (first_or_later y x ys c) [ inl first ↦ absurd (other (first ∙ sym (tells_apart exact k y tied))) | inr later ↦ later ]
          | false ↦ λ apart. elim (first_or_later y x ys c) [ inl first ↦ at_first y x rest first | inr later ↦ later_element y x rest (stays_without ys k x later other) ]
        ] refl

-- ---- what is between the first key of a group and the last of another

abbrev pub first_key : Key
first_key = record { kind = 0; id = 0; router = 0 }

abbrev pub last_key : Key
last_key = record { kind = 255; id = 4294967295; router = 4294967295 }

abbrev pub at_key : Key → IndexKey → Member
at_key key group = (group, key)

from_first : (k : Key) → is_le (key_cmp first_key k) ≡ true
from_first k = grind arith

to_last : (k : Key) → k.kind < 2 ^ 8 → k.id < 2 ^ 32 → k.router < 2 ^ 32 → is_lt (key_cmp last_key k) ≡ false
to_last k kind id router = grind (arith, kind, id, router)

not_before : (o p : Ordering) → is_le o ≡ true → is_le p ≡ true → is_le (ordering_then o p) ≡ true
not_before Less p le rest = refl
not_before Equal p le rest = rest
not_before Greater p le rest = absurd cc

not_past : (o p : Ordering) → is_le o ≡ true → is_lt p ≡ false → is_lt (ordering_then (ordering_reverse o) p) ≡ false
not_past Less p le rest = refl
not_past Equal p le rest = rest
not_past Greater p le rest = absurd cc

pub both : (a b : Bool) → a ≡ true → b ≡ false → a && not b ≡ true
both a b one other = λ i. one i && not (other i)

-- the way back

from_le : (o p : Ordering) → is_le (ordering_then o p) ≡ true → is_le o ≡ true
from_le Less p le = refl
from_le Equal p le = refl
from_le Greater p le = le

from_not_past : (o p : Ordering) → is_lt (ordering_then (ordering_reverse o) p) ≡ false → is_le o ≡ true
from_not_past Less p not_past = refl
from_not_past Equal p not_past = refl
from_not_past Greater p not_past = sym not_past

pub from_both : (a b : Bool) → a && not b ≡ true → (a ≡ true) × (b ≡ false)
from_both true true both = absurd cc
from_both true false both = (refl, refl)
from_both false b both = absurd cc

is_between : (first last : IndexKey) (m : Member) → HasSmallKey m → IsNotAfter first m.0 → IsNotAfter m.0 last
    → range_contains member_cmp (Included (at_key first_key first)) (Included (at_key last_key last)) m ≡ true
is_between first last m small after before =
    let past : is_lt (member_cmp (at_key last_key last) m) ≡ false =
    ap (λ o. is_lt (ordering_then o (key_cmp last_key m.1))) (group_turned last m.0)
    ∙ not_past (group_cmp m.0 last) (key_cmp last_key m.1) before (to_last m.1 small.0 small.1 small.2) in
    both (is_le (member_cmp (at_key first_key first) m)) (is_lt (member_cmp (at_key last_key last) m)) (not_before (group_cmp first m.0) (key_cmp first_key m.1) after (from_first m.1)) past

-- a member of a group between the two is in the range
abbrev pub within : Member → Member → Member → Bool
within lo hi m = range_contains derived_cmp (Included lo) (Included hi) m

pub ranged : (ms : List Member) → All HasSmallKey ms → (first last : IndexKey) (lo hi : Member) → lo ≡ at_key first_key first → hi ≡ at_key last_key last
    → (m : Member) → Contains ms m → IsNotAfter first m.0 → IsNotAfter m.0 last → Contains (filter (within lo hi) ms) m
ranged ms small first last lo hi lo_is hi_is m c after before =
    let here = is_between first last m (All-contains HasSmallKey ms m small c) after before in
    let passes : within lo hi m ≡ true = (λ i. range_contains (derived_cmp_is i) (Included (lo_is i)) (Included (hi_is i)) m) ∙ here in
    picked (within lo hi) ms m c passes

-- what the range has is a member of a group between the two
was_between : (first last : IndexKey) (m : Member) → range_contains member_cmp (Included (at_key first_key first)) (Included (at_key last_key last)) m ≡ true → IsNotAfter first m.0 × IsNotAfter m.0 last
was_between first last m in_range =
    let parts = from_both (is_le (member_cmp (at_key first_key first) m)) (is_lt (member_cmp (at_key last_key last) m)) in_range in (
      from_le (group_cmp first m.0) (key_cmp first_key m.1) parts.0,
      from_not_past (group_cmp m.0 last) (key_cmp last_key m.1) (sym (ap (λ o. is_lt (ordering_then o (key_cmp last_key m.1))) (group_turned last m.0)) ∙ parts.1),
    )

pub ranged_from : (ms : List Member) (first last : IndexKey) (lo hi : Member) → lo ≡ at_key first_key first → hi ≡ at_key last_key last
    → (m : Member) → Contains (filter (within lo hi) ms) m → Contains ms m × IsNotAfter first m.0 × IsNotAfter m.0 last
ranged_from ms first last lo hi lo_is hi_is m c =
    let found = picked_from (within lo hi) ms m c in
    let between = was_between first last m (sym (λ i. range_contains (derived_cmp_is i) (Included (lo_is i)) (Included (hi_is i)) m) ∙ found.1) in
    (found.0, between.0, between.1)

-- The base that a state is has no fault.
use Rattle.std.proofs.Common.{◌≡◌, ◌≢◌, ℕ, ◌+◌, ◌≤◌, Bool, true, false, T, List, [], ◌∷◌, ◌++◌, length, map, get_or, Option, Some, None, Ordering, refl, sym, ap, subst, ◌∙◌, inl, inr, arith, length-append}
use Rattle.std.specs.Prelude.{◌==◌, ◌&&◌, ◌||◌, nat_lt, is_none, IsSome, option_map}
use Rattle.std.specs.List.{list_any, Contains, AllByRecursion}
use Rattle.std.specs.List.Sorted.{IsStrictlySortedBy}
use Rattle.std.specs.Ordering.{nat_cmp, eq_by_cmp, is_eq, is_lt}
use Rattle.std.specs.declared.cmp.Ordering.TheVariants.{Less, Equal, Greater}
use Rattle.std.specs.Cmp.{nat_cmp_total, unsigned_ties}
use Rattle.std.specs.FinMap.{FinMap, get, entries, values, empty, len-entries, is_sorted, entries_sorted}
use Rattle.std.specs.FinMap.Entries.{below_all}
use Rattle.std.proofs.lemmas.Bool.{or_from, and_parts, false_from_ne_true, cases_eq}
use Rattle.std.proofs.lemmas.Bool.Decides.{nat_tests, eqb_tells}
use Rattle.std.proofs.lemmas.List.{length-map}
use Rattle.std.proofs.lemmas.List.Elements.{filter-append, Contains-append_cases}
use Rattle.std.proofs.lemmas.List.Folds.{list_any-append}
use Rattle.std.proofs.lemmas.Map.Keys.{sorted_head, sorted_tail}
use Rattle.ospf_types.specs.declared.config.AreaConfig.{AreaConfig}
use Rattle.ospf_types.specs.declared.config.Interface.{Interface}
use Rattle.ospf_types.specs.declared.key.Key.{Key}
use Rattle.ospf_types.specs.declared.key.Scope.{Scope}
use Rattle.ospf_types.specs.declared.key.Scope.TheVariants as scope
use Rattle.ospf_types.specs.Keys.{key_cmp}
use Rattle.ospf_types.specs.Lsa.{Lsa, key_of}
use Rattle.ospf_types.proofs.Elements.{no_element, first_element, later_element, first_or_later, mapped_from}
use Rattle.ospf_types.proofs.Orders.{key_total}
use Rattle.ospf_types.specs.Configs.{config_fault_of}
use Rattle.lsdb.specs.Databases.{Database}
use Rattle.lsdb.specs.Contents.{IsDatabaseSound}
use Rattle.event_state.specs.declared.base.Base.{Base}
use Rattle.event_state.specs.Bases.{is_scope, lsas_under}
use Rattle.event_state.specs.BaseFaults.{base_fault_of, has_twice, is_same_id, is_same_place, is_same_address}
use Rattle.event_state.specs.Held.{AreFit, AreKept, AreLimited, AreWithinLimits, AreInterfaces}
use Rattle.event_state.specs.Listings.{AreAreaIds, lsas_at, lsas_of_areas, lsas_in}
use Rattle.event_state.specs.Rolls.{CanBeRolled}
use Rattle.event_state.specs.States.{State, place_of, database_of, lsas_of}
use Rattle.event_state.specs.Steps.{is_out_of_scope, limit_of}
use Rattle.event_state.proofs.Configs.{sound_apart}
use Rattle.event_state.proofs.Faultless.{IsFaultless, no_fault, is_same_scope}
use Rattle.event_state.proofs.HeldStates.{fit_apart}
use Rattle.event_state.proofs.Sorted.{value_from}
use Rattle.event_state.proofs.Twice.{all_fail, twice_append}

-- ---- entries in the order of their keys

front : (a b : Bool) → T (a && b) → T a
front true b p = tt
front false b p = p

rest : (a b : Bool) → T (a && b) → T b
rest true b p = p
rest false b p = absurd p

apart_less : (o : Ordering) → T (is_lt o) → is_eq o ≡ false
apart_less Less p = refl
apart_less Equal p = absurd p
apart_less Greater p = refl

module _ {K X : Type 0} (R : K → K → Ordering) where
  -- no entry behind has the key
  below_apart : (x : K) (es : List (K × X)) → T (below_all R x es) → (f : K × X) → Contains es f → eq_by_cmp R x f.0 ≡ false
  below_apart x [] below f c = absurd (no_element f c)
  below_apart x (e ∷ es) below f c = elim (first_or_later e f es c) [
    | inl first ↦ ap (λ (g : K × X). eq_by_cmp R x g.0) first ∙ apart_less (R x e.0) (front (is_lt (R x e.0)) (below_all R x es) below)
    | inr later ↦ below_apart x es (rest (is_lt (R x e.0)) (below_all R x es) below) f later
  ]

  -- where what is alike has one key, no two are alike
  pub once_sorted : (alike : K × X → K × X → Bool) (es : List (K × X)) → T (is_sorted R es) → ((x y : K × X) → Contains es x → Contains es y → eq_by_cmp R x.0 y.0 ≡ false → alike x y ≡ false) → has_twice alike es ≡ false
  once_sorted alike [] sorted tells = refl
  once_sorted alike (e ∷ es) sorted tells =
      let below = front (below_all R e.0 es) (is_sorted R es) sorted in
      or_from (list_any (alike e) es) (has_twice alike es)
      (all_fail (alike e) es (λ f c. tells e f (first_element e es) (later_element e f es c) (below_apart e.0 es below f c)))
      (once_sorted alike es (rest (below_all R e.0 es) (is_sorted R es) sorted) (λ x y c d apart. tells x y (later_element e x es c) (later_element e y es d) apart))

-- ---- the interfaces

ids_once : (m : FinMap nat_cmp Interface) → has_twice is_same_id (entries m) ≡ false
ids_once m = once_sorted nat_cmp is_same_id (entries m) (entries_sorted m) (λ x y c d apart. unsigned_ties x.0 y.0 ∙ apart)

-- two that are up with one address
told_address : (x y : ℕ × Interface) → is_same_address x y ≡ true → (x.1.up ≡ true) × (y.1.up ≡ true) × (x.1.address ≡ y.1.address)
told_address x y e =
    let one = and_parts x.1.up (y.1.up && (x.1.address == y.1.address)) e in
    let two = and_parts y.1.up (x.1.address == y.1.address) one.1 in
    (one.0, two.0, elim (eqb_tells x.1.address y.1.address) [ inl t ↦ t.1 | inr t ↦ absurd (let wrong : true ≡ false = sym two.1 ∙ t.0 in cc) ])

addresses_once : (areas : List AreaConfig) (m : FinMap nat_cmp Interface) → AreInterfaces areas m → has_twice is_same_address (entries m) ≡ false
addresses_once areas m h = once_sorted nat_cmp is_same_address (entries m) (entries_sorted m) (λ x y c d apart.
    false_from_ne_true (is_same_address x y) (λ e.
    let told = told_address x y e in
    let same : x.0 ≡ y.0 = h.apart x.0 y.0 x.1 y.1 (value_from m x.0 x.1 nat_cmp_total c) (value_from m y.0 y.1 nat_cmp_total d) told.0 told.1 told.2 in
    let tied : (x.0 == y.0) ≡ true = elim (eqb_tells x.0 y.0) [ inl t ↦ t.0 | inr t ↦ absurd (t.1 same) ] in
    absurd (let wrong : true ≡ false = sym tied ∙ unsigned_ties x.0 y.0 ∙ apart in cc)))

not_none : {X : Type 0} (o : Option X) → IsSome o → is_none o ≡ false
not_none None some = absurd cc
not_none (Some x) some = refl

areas_there : (areas : List AreaConfig) (m : FinMap nat_cmp Interface) → AreInterfaces areas m → list_any (λ x. is_none (place_of areas (scope.Area x.1.area))) (entries m) ≡ false
areas_there areas m h = all_fail (λ (x : ℕ × Interface). is_none (place_of areas (scope.Area x.1.area))) (entries m) (λ x c. not_none (place_of areas (scope.Area x.1.area)) (h.placed x.0 x.1 (value_from m x.0 x.1 nat_cmp_total c)))

-- ---- the LSAs of one scope

keys_told : (at : Scope) (es : List (Key × Lsa)) → ((e : Key × Lsa) → Contains es e → e.0 ≡ key_of e.1) → has_twice is_same_place (map (λ (l : Lsa). (at, l)) (map (λ (e : Key × Lsa). e.1) es)) ≡ has_twice (λ (x y : Key × Lsa). is_same_place (at, x.1) (at, y.1)) es
keys_told at [] own = refl
keys_told at (e ∷ es) own = λ i. any_told (at, e.1) es i || keys_told at es (λ f c. own f (later_element e f es c)) i
  where
    any_told : (x : Scope × Lsa) (fs : List (Key × Lsa)) → list_any (is_same_place x) (map (λ (l : Lsa). (at, l)) (map (λ (e : Key × Lsa). e.1) fs)) ≡ list_any (λ (y : Key × Lsa). is_same_place x (at, y.1)) fs
    any_told x [] = refl
    any_told x (f ∷ fs) = ap (λ (b : Bool). is_same_place x (at, f.1) || b) (any_told x fs)

and_false : (a b : Bool) → b ≡ false → (a && b) ≡ false
and_false true b e = e
and_false false b e = refl

-- a sound database lists no key twice
block_once : (at : Scope) (d : Database) → IsDatabaseSound d → has_twice is_same_place (map (λ (l : Lsa). (at, l)) (values d)) ≡ false
block_once at d sound =
    let own : (e : Key × Lsa) → Contains (entries d) e → e.0 ≡ key_of e.1 = λ e c. sound.under_own_key e.0 e.1 (value_from d e.0 e.1 key_total c) in
    keys_told at (entries d) own
    ∙ once_sorted key_cmp (λ (x y : Key × Lsa). is_same_place (at, x.1) (at, y.1)) (entries d) (entries_sorted d) (λ x y c e apart.
    and_false (is_scope at at) (eq_by_cmp key_cmp (key_of x.1) (key_of y.1)) ((λ i. eq_by_cmp key_cmp (sym (own x c) i) (sym (own y e) i)) ∙ apart))

-- ---- the LSAs of all scopes

module _ (s : State) (ids : List ℕ) (fit : AreFit s.config.areas s.databases) (are : AreAreaIds s.config.areas ids) where
  -- an LSA that is listed under a scope
  listed_at : (at : Scope) (x : Scope × Lsa) → Contains (lsas_at s at) x → (x.0 ≡ at) × Contains (lsas_of (database_of s at)) x.1
  listed_at at x c =
      let found = mapped_from (λ (l : Lsa). let y : Scope × Lsa = (at, l) in y) (lsas_of (database_of s at)) x c in
      (sym (ap (λ (y : Scope × Lsa). y.0) found.2), subst (Contains (lsas_of (database_of s at))) (ap (λ (y : Scope × Lsa). y.1) found.2) found.1)

  in_areas : (ns : List ℕ) (x : Scope × Lsa) → Contains (lsas_of_areas s ns) x → (n : ℕ) × Contains ns n × Contains (lsas_at s (scope.Area n)) x
  in_areas [] x c = absurd (no_element x c)
  in_areas (n ∷ ns) x c = elim (Contains-append_cases (lsas_at s (scope.Area n)) (lsas_of_areas s ns) x c) [
    | inl here ↦ (n, first_element n ns, here)
    | inr there ↦ let found = in_areas ns x there in (found.0, later_element n found.0 ns found.1, found.2)
  ]

  -- each scope that is listed is configured, and what is listed there is in its database
  placed_at : (x : Scope × Lsa) → Contains (lsas_in s ids) x → IsSome (place_of s.config.areas x.0) × Contains (lsas_of (database_of s x.0)) x.1
  placed_at x c = elim (Contains-append_cases (lsas_of_areas s ids) (lsas_at s scope.As) x c) [
    | inl inside ↦
        let found = in_areas ids x inside in
        let at = listed_at (scope.Area found.0) x found.2 in (
          subst (λ (t : Scope). IsSome (place_of s.config.areas t)) (sym at.0) ((are.same found.0).0 found.1),
          subst (λ (t : Scope). Contains (lsas_of (database_of s t)) x.1) (sym at.0) at.1,
        )
    | inr outside ↦
        let at = listed_at scope.As x outside in (
          subst (λ (t : Scope). IsSome (place_of s.config.areas t)) (sym at.0) refl,
          subst (λ (t : Scope). Contains (lsas_of (database_of s t)) x.1) (sym at.0) at.1,
        )
  ]

  scopes_there : list_any (λ x. is_none (place_of s.config.areas x.0)) (lsas_in s ids) ≡ false
  scopes_there = all_fail (λ (x : Scope × Lsa). is_none (place_of s.config.areas x.0)) (lsas_in s ids) (λ x c. not_none (place_of s.config.areas x.0) (placed_at x c).0)

  fit_placed : (at : Scope) (l : Lsa) (o : Option ℕ) → place_of s.config.areas at ≡ o → IsSome o → Contains (lsas_of (option_map (λ k. get_or s.databases k empty) o)) l → is_out_of_scope at l.header.kind ≡ false
  fit_placed at l None e some c = absurd cc
  fit_placed at l (Some k) e some c =
      let d : Database = get_or s.databases k empty in
      let found = mapped_from (λ (e : Key × Lsa). e.1) (entries d) l c in
      let is : get d found.0.0 ≡ Some l = value_from d found.0.0 found.0.1 key_total found.1 ∙ ap Some found.2 in
      (fit.fit at k e).placed found.0.0 l is

  all_placed : list_any (λ x. is_out_of_scope x.0 x.1.header.kind) (lsas_in s ids) ≡ false
  all_placed = all_fail (λ (x : Scope × Lsa). is_out_of_scope x.0 x.1.header.kind) (lsas_in s ids) (λ x c. let there = placed_at x c in fit_placed x.0 x.1 (place_of s.config.areas x.0) refl there.0 there.1)

  -- ---- no key of a scope is listed twice

  at_once : (at : Scope) (o : Option ℕ) → place_of s.config.areas at ≡ o → has_twice is_same_place (map (λ (l : Lsa). (at, l)) (lsas_of (option_map (λ k. get_or s.databases k empty) o))) ≡ false
  at_once at None e = refl
  at_once at (Some k) e = block_once at (get_or s.databases k empty) (fit.fit at k e).sound

  other_block : (x : Scope × Lsa) (at : Scope) (ls : List Lsa) → is_scope x.0 at ≡ false → list_any (is_same_place x) (map (λ (l : Lsa). (at, l)) ls) ≡ false
  other_block x at [] apart = refl
  other_block x at (l ∷ ls) apart = or_from (is_same_place x (at, l)) (list_any (is_same_place x) (map (λ (l : Lsa). (at, l)) ls)) (ap (λ (b : Bool). b && eq_by_cmp key_cmp (key_of x.1) (key_of l)) apart) (other_block x at ls apart)

  other_area : (a b : ℕ) → a ≢ b → is_scope (scope.Area a) (scope.Area b) ≡ false
  other_area a b apart = elim (eqb_tells a b) [ inl t ↦ absurd (apart t.1) | inr t ↦ t.0 ]

  other_areas : (x : Scope × Lsa) (a : ℕ) (ns : List ℕ) → x.0 ≡ scope.Area a → ((n : ℕ) → Contains ns n → a ≢ n) → list_any (is_same_place x) (lsas_of_areas s ns) ≡ false
  other_areas x a [] is apart = refl
  other_areas x a (n ∷ ns) is apart =
      let here : is_scope x.0 (scope.Area n) ≡ false = ap (λ (t : Scope). is_scope t (scope.Area n)) is ∙ other_area a n (apart n (first_element n ns)) in
      list_any-append (is_same_place x) (lsas_at s (scope.Area n)) (lsas_of_areas s ns)
      ∙ or_from (list_any (is_same_place x) (lsas_at s (scope.Area n))) (list_any (is_same_place x) (lsas_of_areas s ns))
      (other_block x (scope.Area n) (lsas_of (database_of s (scope.Area n))) here) (other_areas x a ns is (λ m c. apart m (later_element n m ns c)))

  -- the first of ascending IDs is none of the others
  first_apart : (a : ℕ) (ns : List ℕ) → IsStrictlySortedBy nat_cmp (a ∷ ns) → (n : ℕ) → Contains ns n → a ≢ n
  first_apart a ns sorted n c same = less_apart a n (head_below a ns (sorted_head nat_cmp a ns sorted) n c) same
    where
      less_apart : (a n : ℕ) → nat_cmp a n ≡ Less → a ≢ n
      less_apart a n e same = let wrong : eq_by_cmp nat_cmp a n ≡ false = ap is_eq e in elim (eqb_tells a n) [ inl t ↦ (let w : true ≡ false = sym t.0 ∙ unsigned_ties a n ∙ wrong in absurd cc) | inr t ↦ t.1 same ]

      head_below : (a : ℕ) (ns : List ℕ) → AllByRecursion (λ k. nat_cmp a k ≡ Less) ns → (n : ℕ) → Contains ns n → nat_cmp a n ≡ Less
      head_below a [] all n c = absurd (no_element n c)
      head_below a (m ∷ ns) all n c = elim (first_or_later m n ns c) [
        | inl first ↦ ap (nat_cmp a) first ∙ all.0
        | inr later ↦ head_below a ns all.1 n later
      ]

  areas_once : (ns : List ℕ) → IsStrictlySortedBy nat_cmp ns → has_twice is_same_place (lsas_of_areas s ns) ≡ false
  areas_once [] sorted = refl
  areas_once (n ∷ ns) sorted =
      twice_append is_same_place (lsas_at s (scope.Area n)) (lsas_of_areas s ns) (at_once (scope.Area n) (place_of s.config.areas (scope.Area n)) refl) (areas_once ns (sorted_tail nat_cmp n ns sorted))
      (λ x c. other_areas x n ns (listed_at (scope.Area n) x c).0 (first_apart n ns sorted))

  all_once : has_twice is_same_place (lsas_in s ids) ≡ false
  all_once =
      twice_append is_same_place (lsas_of_areas s ids) (lsas_at s scope.As) (areas_once ids are.ascending) (at_once scope.As (place_of s.config.areas scope.As) refl) (λ x c.
      let found = in_areas ids x c in
      other_block x scope.As (lsas_of (database_of s scope.As)) (ap (λ (t : Scope). is_scope t scope.As) (listed_at (scope.Area found.0) x found.2).0))

  -- ---- how many of a scope are listed

  under_append : (xs ys : List (Scope × Lsa)) (at : Scope) → length (lsas_under (xs ++ ys) at) ≡ length (lsas_under xs at) + length (lsas_under ys at)
  under_append xs ys at = ap length (filter-append (λ (x : Scope × Lsa). is_scope at x.0) xs ys) ∙ length-append (lsas_under xs at) (lsas_under ys at)

  own_block : (at : Scope) (ls : List Lsa) → length (lsas_under (map (λ (l : Lsa). (at, l)) ls) at) ≤ length ls
  own_block at [] = omega arith
  own_block at (l ∷ ls) = rw (is_same_scope at) (omega (arith, own_block at ls))

  past_block : (at other : Scope) (ls : List Lsa) → is_scope at other ≡ false → length (lsas_under (map (λ (l : Lsa). (other, l)) ls) at) ≡ 0
  past_block at other [] apart = refl
  past_block at other (l ∷ ls) apart = rw apart (past_block at other ls apart)

  past_areas : (at : Scope) (ns : List ℕ) → ((n : ℕ) → Contains ns n → is_scope at (scope.Area n) ≡ false) → length (lsas_under (lsas_of_areas s ns) at) ≡ 0
  past_areas at [] apart = refl
  past_areas at (n ∷ ns) apart =
      omega (arith, under_append (lsas_at s (scope.Area n)) (lsas_of_areas s ns) at, past_block at (scope.Area n) (lsas_of (database_of s (scope.Area n))) (apart n (first_element n ns)), past_areas at ns (λ m c. apart m (later_element n m ns c)))

  own_area : (a : ℕ) (ns : List ℕ) → IsStrictlySortedBy nat_cmp ns → length (lsas_under (lsas_of_areas s ns) (scope.Area a)) ≤ length (lsas_of (database_of s (scope.Area a)))
  own_area a [] sorted = omega arith
  own_area a (n ∷ ns) sorted =
      let parts = under_append (lsas_at s (scope.Area n)) (lsas_of_areas s ns) (scope.Area a) in
      elim (cases_eq a n) [
        | inl same ↦
            let later = past_areas (scope.Area a) ns (λ m c. other_area a m (λ e. first_apart n ns sorted m c (sym same ∙ e))) in
            let here : length (lsas_under (lsas_at s (scope.Area n)) (scope.Area a)) ≤ length (lsas_of (database_of s (scope.Area a))) = subst (λ (k : ℕ). length (lsas_under (lsas_at s (scope.Area k)) (scope.Area a)) ≤ length (lsas_of (database_of s (scope.Area a)))) same (own_block (scope.Area a) (lsas_of (database_of s (scope.Area a)))) in
            omega (arith, parts, later, here)
        | inr differs ↦ omega (arith, parts, past_block (scope.Area a) (scope.Area n) (lsas_of (database_of s (scope.Area n))) (other_area a n differs), own_area a ns (sorted_tail nat_cmp n ns sorted))
      ]

  own_number : (a : ℕ) → length (lsas_under (lsas_in s ids) (scope.Area a)) ≤ length (lsas_of (database_of s (scope.Area a)))
  own_number a = omega (arith, under_append (lsas_of_areas s ids) (lsas_at s scope.As) (scope.Area a), own_area a ids are.ascending, past_block (scope.Area a) scope.As (lsas_of (database_of s scope.As)) refl)

  as_number : length (lsas_under (lsas_in s ids) scope.As) ≤ length (lsas_of (database_of s scope.As))
  as_number = omega (arith, under_append (lsas_of_areas s ids) (lsas_at s scope.As) scope.As, past_areas scope.As ids (λ n c. refl), own_block scope.As (lsas_of (database_of s scope.As)))

  module _ (most : List ℕ) (limited : AreLimited s.config.areas s.limits most) (within : AreWithinLimits s.databases most) where
    held_number : (at : Scope) (o : Option ℕ) → place_of s.config.areas at ≡ o → length (lsas_of (option_map (λ k. get_or s.databases k empty) o)) ≤ limit_of s.limits at
    held_number at None e = omega arith
    held_number at (Some k) e = omega (arith, len-entries (get_or s.databases k empty), length-map (entries (get_or s.databases k empty)) (λ (e : Key × Lsa). e.1), within k, limited at k e)

    areas_room : list_any (λ (a : AreaConfig). nat_lt s.limits.area_lsas (length (lsas_under (lsas_in s ids) (scope.Area a.id)))) s.config.areas ≡ false
    areas_room = all_fail (λ (a : AreaConfig). nat_lt s.limits.area_lsas (length (lsas_under (lsas_in s ids) (scope.Area a.id)))) s.config.areas (λ a c.
        not_above s.limits.area_lsas (length (lsas_under (lsas_in s ids) (scope.Area a.id))) (omega (arith, own_number a.id, held_number (scope.Area a.id) (place_of s.config.areas (scope.Area a.id)) refl)))
      where
        not_above : (m n : ℕ) → n ≤ m → nat_lt m n ≡ false
        not_above m n le = grind (arith, nat_tests)

    as_room : nat_lt s.limits.externals (length (lsas_under (lsas_in s ids) scope.As)) ≡ false
    as_room = not_above s.limits.externals (length (lsas_under (lsas_in s ids) scope.As)) (omega (arith, as_number, held_number scope.As (place_of s.config.areas scope.As) refl))
      where
        not_above : (m n : ℕ) → n ≤ m → nat_lt m n ≡ false
        not_above m n le = grind (arith, nat_tests)

    faultless_now : (serial : ℕ) → config_fault_of s.config ≡ None → AreInterfaces s.config.areas s.interfaces → IsFaultless s.limits (record { config = s.config; serial = serial; interfaces = entries s.interfaces; lsas = lsas_in s ids })
    faultless_now serial sound interfaces = record {
      config = sound;
      ids = ids_once s.interfaces;
      places = all_once;
      areas = areas_there s.config.areas s.interfaces interfaces;
      scopes = scopes_there;
      placed = all_placed;
      room = areas_room;
      externals = as_room;
      addresses = addresses_once s.config.areas s.interfaces interfaces;
    }

-- a base that is the state as it is has no fault
pub can_be_rolled : (s : State) (most : List ℕ) → AreKept s.config.areas s.databases → AreLimited s.config.areas s.limits most → AreWithinLimits s.databases most → AreInterfaces s.config.areas s.interfaces
    → config_fault_of s.config ≡ None → CanBeRolled s
can_be_rolled s most kept limited within interfaces sound b is =
    let ids = is.lsas.0 in
    let fit = fit_apart s.config.areas s.databases kept (sound_apart s.config sound) in
    let now : Base = record { config = s.config; serial = b.serial; interfaces = entries s.interfaces; lsas = lsas_in s ids } in
    let same : b ≡ now = λ i. record { config = is.config i; serial = b.serial; interfaces = is.interfaces i; lsas = is.lsas.2 i } in
    ap (base_fault_of s.limits) same ∙ no_fault s.limits now (faultless_now s ids fit is.lsas.1 most limited within b.serial sound interfaces)

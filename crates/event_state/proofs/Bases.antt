-- A state that is listed as a base is made again from it.
--   held_again: the database of a scope belongs to the LSAs listed
--   databases_again, interfaces_again: and so are all of them, and the interfaces
--   opens_again: and so is the whole state
use Rattle.std.proofs.Common.{ℕ, zero, suc, ◌≡◌, ◌<◌, ◌+◌, Bool, true, false, cond, List, [], ◌∷◌, ◌++◌, length, map, get_or, Option, Some, None, refl, sym, ap, subst, ◌∙◌, ◌⊎◌, inl, inr, ⊎_elim, arith}
use Rattle.std.specs.Prelude.{option_map, is_some}
use Rattle.std.specs.Ordering.{nat_cmp, eq_by_cmp}
use Rattle.std.specs.Cmp.{nat_cmp_total}
use Rattle.std.specs.FinMap.{FinMap, find, get, empty, entries, values, from_entries, get-from_entries, get-entries, same_map, nat_cmp-IsAntisymmetric}
use Rattle.std.specs.List.{Contains, flat_map}
use Rattle.std.proofs.lemmas.Bool.{cases_lt}
use Rattle.ospf_types.specs.declared.config.AreaConfig.{AreaConfig}
use Rattle.ospf_types.specs.declared.config.Config.{Config}
use Rattle.ospf_types.specs.declared.config.Interface.{Interface}
use Rattle.ospf_types.specs.declared.key.Key.{Key}
use Rattle.ospf_types.specs.declared.key.Scope.{Scope}
use Rattle.ospf_types.specs.declared.key.Scope.TheVariants as scope
use Rattle.ospf_types.specs.Keys.{key_cmp}
use Rattle.ospf_types.proofs.Orders.{key_total, key_exact}
use Rattle.std.proofs.lemmas.Bool.Decides.{nat_tests, eqb_tells}
use Rattle.ospf_types.specs.Lsa.{Lsa, key_of}
use Rattle.ospf_types.proofs.Elements.{first_element, later_element, no_element, first_or_later}
use Rattle.event_state.proofs.Sorted.{value_from}
use Rattle.lsdb.specs.Databases.{Database}
use Rattle.lsdb.specs.Contents.{IsDatabaseSound}
use Rattle.event_state.specs.States.{State, place_of, database_of, lsas_of}
use Rattle.event_state.specs.declared.base.Base.{Base}
use Rattle.event_state.specs.Bases.{is_scope, keyed, lsas_under, held_in, databases_in, interfaces_in}
use Rattle.event_state.specs.Listings.{AreAreaIds, lsas_at, lsas_in}
use Rattle.event_state.specs.Rolls.{since, IsBaseOf}
use Rattle.event_state.specs.Steps.{opening}
use Rattle.event_state.specs.Held.{AreFit}
use Rattle.event_state.proofs.Places.{no_area, place_at}

pub interfaces_again : (m : FinMap nat_cmp Interface) → from_entries (entries m) ≡ m
interfaces_again m = same_map nat_cmp_total nat_cmp-IsAntisymmetric (from_entries (entries m)) m (λ q. get-from_entries nat_cmp_total (entries m) q ∙ sym (get-entries m q))

-- ---- what is found in lists that are put together

abbrev or_else : Option Lsa → Option Lsa → Option Lsa
or_else (Some l) other = Some l
or_else None other = other

found_first : (b : Bool) (l : Lsa) (o other : Option Lsa) → cond b (Some l) (or_else o other) ≡ or_else (cond b (Some l) o) other
found_first true l o other = refl
found_first false l o other = refl

find_append : (q : Key) (xs ys : List (Key × Lsa)) → find key_cmp q (xs ++ ys) ≡ or_else (find key_cmp q xs) (find key_cmp q ys)
find_append q [] ys = refl
find_append q (x ∷ xs) ys = ap (cond (eq_by_cmp key_cmp q x.0) (Some x.1)) (find_append q xs ys) ∙ found_first (eq_by_cmp key_cmp q x.0) x.1 (find key_cmp q xs) (find key_cmp q ys)

-- nothing is found in the list, or this result is found
abbrev IsPart : Key → Option Lsa → List (Key × Lsa) → Type 0
IsPart q answer xs = (find key_cmp q xs ≡ None) ⊎ (find key_cmp q xs ≡ answer)

either_way : (o p answer : Option Lsa) → o ≡ answer → (p ≡ None) ⊎ (p ≡ answer) → or_else o p ≡ answer
either_way (Some l) p answer one two = one
either_way None p answer one two = ⊎_elim (λ (none : p ≡ None). none ∙ one) (λ (same : p ≡ answer). same) two

other_way : (o p answer : Option Lsa) → (o ≡ None) ⊎ (o ≡ answer) → p ≡ answer → or_else o p ≡ answer
other_way (Some l) p answer one two = ⊎_elim (λ (none : Some l ≡ None). absurd cc) (λ (same : Some l ≡ answer). same) one
other_way None p answer one two = two

part_way : (o p answer : Option Lsa) → (o ≡ None) ⊎ (o ≡ answer) → (p ≡ None) ⊎ (p ≡ answer) → (or_else o p ≡ None) ⊎ (or_else o p ≡ answer)
part_way (Some l) p answer one two = one
part_way None p answer one two = two

module _ (q : Key) (answer : Option Lsa) (xs ys : List (Key × Lsa)) where
  part_append : IsPart q answer xs → IsPart q answer ys → IsPart q answer (xs ++ ys)
  part_append one two = subst (λ (o : Option Lsa). (o ≡ None) ⊎ (o ≡ answer)) (sym (find_append q xs ys)) (part_way (find key_cmp q xs) (find key_cmp q ys) answer one two)

  whole_left : find key_cmp q xs ≡ answer → IsPart q answer ys → find key_cmp q (xs ++ ys) ≡ answer
  whole_left one two = find_append q xs ys ∙ either_way (find key_cmp q xs) (find key_cmp q ys) answer one two

  whole_right : IsPart q answer xs → find key_cmp q ys ≡ answer → find key_cmp q (xs ++ ys) ≡ answer
  whole_right one two = find_append q xs ys ∙ other_way (find key_cmp q xs) (find key_cmp q ys) answer one two

-- ---- the LSAs of one scope among all

under_append : (at : Scope) (xs ys : List (Scope × Lsa)) → keyed (lsas_under (xs ++ ys) at) ≡ keyed (lsas_under xs at) ++ keyed (lsas_under ys at)
under_append at [] ys = refl
under_append at (x ∷ xs) ys =
    elim (is_scope at x.0) as (λ b. keyed (cond b (x ∷ lsas_under (xs ++ ys) at) (lsas_under (xs ++ ys) at)) ≡ keyed (cond b (x ∷ lsas_under xs at) (lsas_under xs at)) ++ keyed (lsas_under ys at)) [
      | true ↦ ap (λ (es : List (Key × Lsa)). (key_of x.1, x.1) ∷ es) (under_append at xs ys)
      | false ↦ under_append at xs ys
    ]

-- each under its key
abbrev under_keys : List Lsa → List (Key × Lsa)
under_keys ls = map (λ (l : Lsa). (key_of l, l)) ls

all_under : (at t : Scope) (ls : List Lsa) → is_scope at t ≡ true → keyed (lsas_under (map (λ (l : Lsa). (t, l)) ls) at) ≡ under_keys ls
all_under at t [] is = refl
all_under at t (l ∷ ls) is = rw is (ap (λ (es : List (Key × Lsa)). (key_of l, l) ∷ es) (all_under at t ls is))

none_under : (at t : Scope) (ls : List Lsa) → is_scope at t ≡ false → keyed (lsas_under (map (λ (l : Lsa). (t, l)) ls) at) ≡ []
none_under at t [] is = refl
none_under at t (l ∷ ls) is = rw is (none_under at t ls is)

-- ---- what a sound database has under its keys

module _ (d : Database) (sound : IsDatabaseSound d) where
  -- every entry is under its own key
  own_keys : (es : List (Key × Lsa)) → ((k : Key) (l : Lsa) → Contains es (k, l) → k ≡ key_of l) → map (λ (e : Key × Lsa). (key_of e.1, e.1)) es ≡ es
  own_keys [] own = refl
  own_keys (e ∷ es) own = λ i. (sym (own e.0 e.1 (first_element e es)) i, e.1) ∷ own_keys es (λ k l c. own k l (later_element e (k, l) es c)) i

  under_own : under_keys (values d) ≡ entries d
  under_own = go (entries d) (λ k l c. sound.under_own_key k l (value_from d k l key_total c))
    where
      go : (es : List (Key × Lsa)) → ((k : Key) (l : Lsa) → Contains es (k, l) → k ≡ key_of l) → under_keys (map (λ (e : Key × Lsa). e.1) es) ≡ es
      go [] own = refl
      go (e ∷ es) own = λ i. (sym (own e.0 e.1 (first_element e es)) i, e.1) ∷ go es (λ k l c. own k l (later_element e (k, l) es c)) i

  found_under : (q : Key) → find key_cmp q (under_keys (values d)) ≡ get d q
  found_under q = ap (find key_cmp q) under_own ∙ sym (get-entries d q)

-- ---- the whole list

is_same_scope : (at : Scope) → is_scope at at ≡ true
is_same_scope (scope.Area a) = grind (arith, nat_tests)
is_same_scope scope.As = refl

other_or_same : (a b : ℕ) → ((a ≡ b) × (is_scope (scope.Area a) (scope.Area b) ≡ true)) ⊎ (is_scope (scope.Area a) (scope.Area b) ≡ false)
other_or_same a b = elim (eqb_tells a b) [ inl t ↦ inl (t.1, t.0) | inr t ↦ inr t.0 ]

module _ (s : State) (q : Key) where
  -- an area's block is a part of what is found, for each scope
  block_part : (at : Scope) (id : ℕ) (answer : Option Lsa) → (at ≡ scope.Area id → find key_cmp q (under_keys (lsas_of (database_of s (scope.Area id)))) ≡ answer)
      → IsPart q answer (keyed (lsas_under (lsas_at s (scope.Area id)) at))
  block_part (scope.Area a) id answer right = elim (other_or_same a id) [
    | inl t ↦ inr (ap (find key_cmp q) (all_under (scope.Area a) (scope.Area id) (lsas_of (database_of s (scope.Area id))) t.1) ∙ right (ap scope.Area t.0))
    | inr f ↦ inl (ap (find key_cmp q) (none_under (scope.Area a) (scope.Area id) (lsas_of (database_of s (scope.Area id))) f))
  ]
  block_part scope.As id answer right = inl (ap (find key_cmp q) (none_under scope.As (scope.Area id) (lsas_of (database_of s (scope.Area id))) refl))

  blocks_part : (at : Scope) (ids : List ℕ) (answer : Option Lsa) → ((id : ℕ) → at ≡ scope.Area id → find key_cmp q (under_keys (lsas_of (database_of s (scope.Area id)))) ≡ answer)
      → IsPart q answer (keyed (lsas_under (flat_map (λ id. lsas_at s (scope.Area id)) ids) at))
  blocks_part at [] answer right = inl refl
  blocks_part at (id ∷ ids) answer right =
      subst (IsPart q answer) (sym (under_append at (lsas_at s (scope.Area id)) (flat_map (λ n. lsas_at s (scope.Area n)) ids)))
      (part_append q answer (keyed (lsas_under (lsas_at s (scope.Area id)) at)) (keyed (lsas_under (flat_map (λ n. lsas_at s (scope.Area n)) ids) at))
      (block_part at id answer (right id)) (blocks_part at ids answer right))

  -- an area that is among the IDs is found
  blocks_whole : (a : ℕ) (ids : List ℕ) → Contains ids a
      → find key_cmp q (keyed (lsas_under (flat_map (λ id. lsas_at s (scope.Area id)) ids) (scope.Area a))) ≡ find key_cmp q (under_keys (lsas_of (database_of s (scope.Area a))))
  blocks_whole a [] c = absurd (no_element a c)
  blocks_whole a (id ∷ ids) c =
      let at = scope.Area a in
      let answer = find key_cmp q (under_keys (lsas_of (database_of s at))) in
      let right : (n : ℕ) → at ≡ scope.Area n → find key_cmp q (under_keys (lsas_of (database_of s (scope.Area n)))) ≡ answer = λ n same. ap (λ (t : Scope). find key_cmp q (under_keys (lsas_of (database_of s t)))) (sym same) in
      let first = keyed (lsas_under (lsas_at s (scope.Area id)) at) in
      let rest = keyed (lsas_under (flat_map (λ n. lsas_at s (scope.Area n)) ids) at) in
      ap (find key_cmp q) (under_append at (lsas_at s (scope.Area id)) (flat_map (λ n. lsas_at s (scope.Area n)) ids))
      ∙ elim (other_or_same a id) [
        | inl t ↦
            let here : find key_cmp q first ≡ answer = ap (find key_cmp q) (all_under at (scope.Area id) (lsas_of (database_of s (scope.Area id))) t.1) ∙ right id (ap scope.Area t.0) in
            whole_left q answer first rest here (blocks_part at ids answer right)
        | inr f ↦
            let later : Contains ids a = ⊎_elim (λ (e : a ≡ id). absurd (let same : is_scope at (scope.Area id) ≡ true = ap (λ (n : ℕ). is_scope at (scope.Area n)) (sym e) ∙ is_same_scope at in cc)) (λ (l : Contains ids a). l) (first_or_later id a ids c) in
            whole_right q answer first rest (block_part at id answer (right id)) (blocks_whole a ids later)
      ]

  -- what the whole list has for a configured area
  area_found : (a : ℕ) (ids : List ℕ) → Contains ids a → find key_cmp q (keyed (lsas_under (lsas_in s ids) (scope.Area a))) ≡ find key_cmp q (under_keys (lsas_of (database_of s (scope.Area a))))
  area_found a ids c =
      let at = scope.Area a in
      let front = flat_map (λ id. lsas_at s (scope.Area id)) ids in
      ap (find key_cmp q) (under_append at front (lsas_at s scope.As))
      ∙ whole_left q (find key_cmp q (under_keys (lsas_of (database_of s at)))) (keyed (lsas_under front at)) (keyed (lsas_under (lsas_at s scope.As) at)) (blocks_whole a ids c)
      (inl (ap (find key_cmp q) (none_under at scope.As (lsas_of (database_of s scope.As)) refl)))

  -- and for the AS
  as_found : (ids : List ℕ) → find key_cmp q (keyed (lsas_under (lsas_in s ids) scope.As)) ≡ find key_cmp q (under_keys (lsas_of (database_of s scope.As)))
  as_found ids =
      let front = flat_map (λ id. lsas_at s (scope.Area id)) ids in
      ap (find key_cmp q) (under_append scope.As front (lsas_at s scope.As))
      ∙ whole_right q (find key_cmp q (under_keys (lsas_of (database_of s scope.As)))) (keyed (lsas_under front scope.As)) (keyed (lsas_under (lsas_at s scope.As) scope.As))
      (blocks_part scope.As ids (find key_cmp q (under_keys (lsas_of (database_of s scope.As)))) (λ id same. absurd cc))
      (ap (find key_cmp q) (all_under scope.As scope.As (lsas_of (database_of s scope.As)) refl))

-- the database of a scope belongs to the LSAs listed
pub held_again : (s : State) (ids : List ℕ) (at : Scope) (d : Database) → IsDatabaseSound d → database_of s at ≡ Some d → ((a : ℕ) → at ≡ scope.Area a → Contains ids a) → held_in (lsas_in s ids) at ≡ d
held_again s ids (scope.Area a) d sound is there =
    same_map key_total key_exact (held_in (lsas_in s ids) (scope.Area a)) d (λ q.
    get-from_entries key_total (keyed (lsas_under (lsas_in s ids) (scope.Area a))) q ∙ area_found s q a ids (there a refl)
    ∙ ap (λ (o : Option Database). find key_cmp q (under_keys (lsas_of o))) is ∙ found_under d sound q)
held_again s ids scope.As d sound is there =
    same_map key_total key_exact (held_in (lsas_in s ids) scope.As) d (λ q.
    get-from_entries key_total (keyed (lsas_under (lsas_in s ids) scope.As)) q ∙ as_found s q ids
    ∙ ap (λ (o : Option Database). find key_cmp q (under_keys (lsas_of o))) is ∙ found_under d sound q)

pub same_lists : {X : Type 0} (xs ys : List X) (d : X) → length xs ≡ length ys → ((k : ℕ) → k < length xs → get_or xs k d ≡ get_or ys k d) → xs ≡ ys
same_lists [] [] d long at = refl
same_lists [] (y ∷ ys) d long at = absurd (omega arith)
same_lists (x ∷ xs) [] d long at = absurd (omega arith)
same_lists (x ∷ xs) (y ∷ ys) d long at = λ i. at 0 (omega arith) i ∷ same_lists xs ys d (omega arith) (λ k lt. at (suc k) (omega arith)) i

pub front_at : {X : Type 0} (f : AreaConfig → X) (areas : List AreaConfig) (y d : X) (a : AreaConfig) (k : ℕ) → k < length areas → get_or (map f areas ++ y ∷ []) k d ≡ f (get_or areas k a)
front_at f [] y d a k lt = absurd (omega arith)
front_at f (b ∷ areas) y d a zero lt = refl
front_at f (b ∷ areas) y d a (suc k) lt = front_at f areas y d a k (omega arith)

pub last_at : {X : Type 0} (f : AreaConfig → X) (areas : List AreaConfig) (y d : X) → get_or (map f areas ++ y ∷ []) (length areas) d ≡ y
last_at f [] y d = refl
last_at f (b ∷ areas) y d = last_at f areas y d

pub front_long : {X : Type 0} (f : AreaConfig → X) (areas : List AreaConfig) (y : X) → length (map f areas ++ y ∷ []) ≡ length areas + 1
front_long f [] y = refl
front_long f (b ∷ areas) y = omega (arith, front_long f areas y)

-- all databases belong to the LSAs listed
pub databases_again : (s : State) (ids : List ℕ) → AreFit s.config.areas s.databases → AreAreaIds s.config.areas ids → databases_in (lsas_in s ids) s.config.areas ≡ s.databases
databases_again s ids fit are =
    let areas = s.config.areas in
    let lsas = lsas_in s ids in
    let f : AreaConfig → Database = λ a. held_in lsas (scope.Area a.id) in
    let last : Database = held_in lsas scope.As in
    let none : Database = empty in
    same_lists (map f areas ++ last ∷ []) s.databases none (front_long f areas last ∙ sym fit.places) (λ k lt. elim (cases_lt k (length areas)) [
      | inl inside ↦
          let id = (get_or areas k no_area).id in
          let place : place_of areas (scope.Area id) ≡ Some k = place_at areas k no_area fit.apart inside in
          front_at f areas last none no_area k inside
          ∙ held_again s ids (scope.Area id) (get_or s.databases k none) (fit.fit (scope.Area id) k place).sound (ap (option_map (λ (n : ℕ). get_or s.databases n none)) place)
          (λ a same. let there : id ≡ a = cc in subst (Contains ids) there ((are.same id).1 (ap is_some place)))
      | inr past ↦
          let here : k ≡ length areas = omega (arith, lt, front_long f areas last) in
          ap (λ (n : ℕ). get_or (map f areas ++ last ∷ []) n none) here ∙ last_at f areas last none
          ∙ held_again s ids scope.As (get_or s.databases (length areas) none) (fit.fit scope.As (length areas) refl).sound refl (λ a same. absurd cc)
          ∙ ap (λ (n : ℕ). get_or s.databases n none) (sym here)
    ])

-- a roll loses nothing: what is opened from the base is the state
pub opens_again : (s : State) (b : Base) → AreFit s.config.areas s.databases → IsBaseOf s b → opening b s.limits ≡ since b s
opens_again s b fit is =
    let ids = is.lsas.0 in
    let areas = ap (λ (c : Config). c.areas) is.config in
    let databases : databases_in b.lsas b.config.areas ≡ s.databases = (λ i. databases_in (is.lsas.2 i) (areas i)) ∙ databases_again s ids fit is.lsas.1 in
    let interfaces : interfaces_in b.interfaces ≡ s.interfaces = ap interfaces_in is.interfaces ∙ interfaces_again s.interfaces in
    λ i. record { base = b; config = is.config i; limits = s.limits; databases = databases i; interfaces = interfaces i; journal = [] }

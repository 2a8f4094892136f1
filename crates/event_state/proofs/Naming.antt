-- An LSA that an event does not name is used after it as before.
use Rattle.std.proofs.Common.{◌≡◌, ℕ, ◌+◌, ◌<◌, ◌≤◌, Bool, true, false, cond, List, [], ◌∷◌, ◌++◌, length, map, get_or, set, Option, Some, None, refl, sym, ap, subst, ◌∙◌, arith, inl, inr}
use Rattle.std.specs.Prelude.{◌==◌, Result, Ok, Err, IfOk, Contains, filter, option_and_then, option_map}
use Rattle.std.specs.Ordering.{eq_by_cmp, is_eq}
use Rattle.std.specs.declared.cmp.Ordering.TheVariants.{Less, Equal, Greater}
use Rattle.std.specs.FinMap.{get, insert, remove, empty, len, get-empty, get-insert, get-remove, empty_of_len}
use Rattle.std.proofs.lemmas.Bool.{cases_eq, cases_lt}
use Rattle.std.proofs.lemmas.Bool.Decides.{nat_tests}
use Rattle.std.proofs.lemmas.List.{get_or-set_same, get_or-set_other, get_or_default, set_past}
use Rattle.std.proofs.lemmas.List.Elements.{Contains-append_left, Contains-append_right}
use Rattle.ospf_types.specs.declared.config.AreaConfig.{AreaConfig}
use Rattle.ospf_types.specs.declared.config.Range.{Range}
use Rattle.ospf_types.specs.declared.key.Key.{Key}
use Rattle.ospf_types.specs.declared.key.Scope.{Scope}
use Rattle.ospf_types.specs.declared.key.Scope.TheVariants as scope
use Rattle.ospf_types.specs.Keys.{key_cmp}
use Rattle.ospf_types.specs.Lsa.{Lsa, MaxAge, key_of}
use Rattle.ospf_types.proofs.Elements.{no_element, first_element, later_element, first_or_later, mapped_element}
use Rattle.ospf_types.proofs.Orders.{key_total, key_exact}
use Rattle.lsa_codec.specs.Readers.{with_age}
use Rattle.lsdb.specs.Databases.{Database, DatabaseValue, aged, all_aged, aged_out, changed_at, age_of, keys_aged, comes_to_max_age}
use Rattle.lsdb.specs.Contents.{contents_of, used_at, IsOrder}
use Rattle.event_state.specs.declared.event.Event.{Event}
use Rattle.event_state.specs.declared.event.Event.TheVariants as event
use Rattle.event_state.specs.States.{State, place_of, database_of, changed_at_place, with_change, usable_at}
use Rattle.event_state.specs.Steps.{step, with_range_change}
use Rattle.event_state.specs.Affected.{comes_next, AreListed, IsAmong}
use Rattle.event_state.proofs.Aging.{get-all_aged, all_aged_empty, contents_aged}
use Rattle.event_state.proofs.OneChange.{mapped_at}
use Rattle.event_state.proofs.Places.{no_area, area_at, places_apart}
use Rattle.event_state.proofs.SamePlaces.{places_kept}
use Rattle.event_state.proofs.Looks.{used_in}

-- ---- a change under one key

other_key : (k key : Key) → (key ≡ k → ⊥) → eq_by_cmp key_cmp key k ≡ false
other_key k key apart =
    elim (key_cmp key k) as (λ o. key_cmp key k ≡ o → is_eq o ≡ false) [
      | Less ↦ λ e. refl
      | Equal ↦ λ e. absurd (apart (key_exact key k e))
      | Greater ↦ λ e. refl
    ] refl

-- what is used under every other key stays
abbrev pub IsOfKey : Key → (Database → Database) → Type 0
IsOfKey k change = (d : Database) (key : Key) → (key ≡ k → ⊥) → used_at (change d) key ≡ used_at d key

pub insert_of_key : (k : Key) (l : Lsa) → IsOfKey k (λ d. insert d k l)
insert_of_key k l d key apart =
    ap (option_and_then contents_of) (get-insert key_total d k l key ∙ ap (λ (b : Bool). cond b (Some l) (get d key)) (other_key k key apart))

pub aged_out_of_key : (k : Key) → IsOfKey k (λ d. aged_out d k)
aged_out_of_key k d key apart =
    elim (get d k) as (λ o. used_at (changed_at d k (λ l. with_age l MaxAge) o) key ≡ used_at d key) [
      | None ↦ refl
      | Some l ↦ insert_of_key k (with_age l MaxAge) d key apart
    ]

pub remove_of_key : (k : Key) → IsOfKey k (λ d. remove d k)
remove_of_key k d key apart =
    ap (option_and_then contents_of) (get-remove key_total d k key ∙ ap (λ (b : Bool). cond b None (get d key)) (other_key k key apart))

used_beside : (databases : List Database) (k : ℕ) (d : Database) (o : Option ℕ) (key : Key) → (o ≡ Some k → used_at d key ≡ used_at (get_or databases k empty) key) → used_in (set databases k d) o key ≡ used_in databases o key
used_beside databases k d None key alike = refl
used_beside databases k d (Some j) key alike =
    elim (cases_eq j k) [
      | inl same ↦ elim (cases_lt k (length databases)) [
        | inl lt ↦
            let there : get_or (set databases k d) j empty ≡ d = rw same (get_or-set_same databases k d empty lt) in
            ap (λ (e : Database). used_at e key) there ∙ alike (ap Some same) ∙ sym (ap (λ (i : ℕ). used_at (get_or databases i empty) key) same)
        | inr past ↦ ap (λ (ds : List Database). used_at (get_or ds j empty) key) (set_past databases k d past)
      ]
      | inr other ↦ ap (λ (e : Database). used_at e key) (get_or-set_other databases k j d empty other)
    ]

-- an event that changes what its scope has under its key
pub one_named : (s : State) (at : Scope) (k : Key) (change : Database → Database) (named : List (Scope × Key)) → IsOfKey k change → named ≡ (at, k) ∷ []
    → (other : Scope) (key : Key) → (Contains named (other, key) → ⊥) → usable_at (with_change s at change) other key ≡ usable_at s other key
one_named s at k change named of_key is other key absent =
    elim (place_of s.config.areas at) as (λ o. place_of s.config.areas at ≡ o → usable_at (changed_at_place s change o) other key ≡ usable_at s other key) [
      | None ↦ λ e. refl
      | Some j ↦ λ e. used_beside s.databases j (change (get_or s.databases j empty)) (place_of s.config.areas other) key (λ here.
          let same : at ≡ other = places_apart s.config.areas at other j e here in
          of_key (get_or s.databases j empty) key (λ again.
          absurd (absent (subst (λ (xs : List (Scope × Key)). Contains xs (other, key)) (sym is) (subst (λ (x : Scope × Key). Contains ((at, k) ∷ []) x) (λ i. (same i, sym again i)) (first_element (at, k) []))))))
    ] refl

-- every LSA that is not named is used after the event as before
abbrev pub NamesAll : State → Event → List (Scope × Key) → Type 0
NamesAll s e named = (at : Scope) (key : Key) → (Contains named (at, key) → ⊥) → usable_at (step s e) at key ≡ usable_at s at key

-- an answer that names all of an event that is known
pub if_names : (s : State) (e known : Event) {A E : Type 0} (r : Result A E) (items : A → List (Scope × Key)) → e ≡ known → {P : A → Type 0} → ((a : A) → P a → NamesAll s known (items a)) → IfOk r P → IfOk r (λ a. NamesAll s e (items a))
if_names s e known (Ok a) items is names h = subst (λ (f : Event). NamesAll s f (items a)) (sym is) (names a h)
if_names s e known (Err x) items is names h = tt

pub install_named : (s : State) (at : Scope) (l : Lsa) (key : Key) (named : List (Scope × Key)) → key ≡ key_of l → named ≡ (at, key) ∷ [] → NamesAll s (event.Install at l) named
install_named s at l key named of_lsa is =
    one_named s at (key_of l) (λ (d : Database). insert d (key_of l) l) named (insert_of_key (key_of l) l) (is ∙ ap (λ (k : Key). let xs : List (Scope × Key) = (at, k) ∷ [] in xs) of_lsa)

pub flush_named : (s : State) (at : Scope) (key : Key) (named : List (Scope × Key)) → named ≡ (at, key) ∷ [] → NamesAll s (event.Flush at key) named
flush_named s at key named is = one_named s at key (λ (d : Database). aged_out d key) named (aged_out_of_key key) is

pub purge_named : (s : State) (at : Scope) (key : Key) (named : List (Scope × Key)) → named ≡ (at, key) ∷ [] → NamesAll s (event.Purge at key) named
purge_named s at key named is = one_named s at key (λ (d : Database). remove d key) named (remove_of_key key) is

-- ---- an event that names nothing

pub ranges_named : (s : State) (area : ℕ) (change : List Range → List Range) (at : Scope) (key : Key) → usable_at (with_range_change s area change) at key ≡ usable_at s at key
ranges_named s area change at key = ap (λ (o : Option ℕ). used_in s.databases o key) (places_kept s.config.areas area change at)

-- ---- a second

none_comes : (o : Option Lsa) → (comes_next o ≡ true → ⊥) → option_and_then contents_of (option_map aged o) ≡ option_and_then contents_of o
none_comes None not = refl
none_comes (Some l) not =
    elim (comes_to_max_age l) as (λ b. comes_to_max_age l ≡ b → contents_of (aged l) ≡ contents_of l) [
      | true ↦ λ e. absurd (not e)
      | false ↦ λ e. contents_aged l e
    ] refl

used_later : (databases : List Database) (o : Option ℕ) (key : Key) → (comes_next (option_and_then (λ (d : Database). get d key) (option_map (λ k. get_or databases k empty) o)) ≡ true → ⊥) → used_in (map all_aged databases) o key ≡ used_in databases o key
used_later databases None key not = refl
used_later databases (Some k) key not =
    let none : all_aged empty ≡ empty = all_aged_empty in
    let is : get_or (map all_aged databases) k empty ≡ all_aged (get_or databases k empty) = ap (get_or (map all_aged databases) k) (sym none) ∙ mapped_at all_aged databases k empty in
    ap (λ (d : Database). used_at d key) is ∙ ap (option_and_then contents_of) (get-all_aged (get_or databases k empty) key) ∙ none_comes (get (get_or databases k empty) key) not

pub second_named : (s : State) (named : List (Scope × Key)) → ((at : Scope) → AreListed named s at) → NamesAll s event.Second named
second_named s named all at key absent = used_later s.databases (place_of s.config.areas at) key (λ comes. absent (all at key comes))

-- ---- the LSAs that a second brings to MaxAge

last_second : (age : ℕ) → (age + 1 == MaxAge) ≡ true → (age == 3599) ≡ true
last_second age h = grind (arith, nat_tests)

kept : {X : Type 0} (test : X → Bool) (xs : List X) (x : X) → Contains xs x → test x ≡ true → Contains (filter test xs) x
kept test [] x has passes = absurd (no_element x has)
kept {X} test (y ∷ xs) x has passes =
    elim (first_or_later y x xs has) [
      | inl first ↦ rw (sym (ap test first) ∙ passes) (subst (λ (z : X). Contains (y ∷ filter test xs) z) (sym first) (first_element y (filter test xs)))
      | inr later ↦ elim (test y) as (λ b. Contains (cond b (y ∷ filter test xs) (filter test xs)) x) [
        | true ↦ later_element y x (filter test xs) (kept test xs x later passes)
        | false ↦ kept test xs x later passes
      ]
    ]

-- no database, or one with no LSAs
pub none_listed : (named : List (Scope × Key)) (s : State) (at : Scope) (o : Option Database) → o ≡ database_of s at → ((d : Database) → o ≡ Some d → len d ≡ 0) → AreListed named s at
none_listed named s at None is none key comes = let gone : comes_next (option_and_then (λ (d : Database). get d key) None) ≡ true = ap (λ (o : Option Database). comes_next (option_and_then (λ (d : Database). get d key) o)) is ∙ comes in absurd cc
none_listed named s at (Some d) is none key comes =
    let absent : get d key ≡ None = ap (λ (e : Database). get e key) (empty_of_len d (none d refl)) ∙ get-empty key_cmp key in
    let here : comes_next (get d key) ≡ true = ap (λ (o : Option Database). comes_next (option_and_then (λ (d : Database). get d key) o)) is ∙ comes in
    let gone : false ≡ true = sym (ap comes_next absent) ∙ here in absurd cc

pub few_listed : (named : List (Scope × Key)) (s : State) (at : Scope) (d : Database) → Some d ≡ database_of s at → len d ≡ 0 → AreListed named s at
few_listed named s at d is none = none_listed named s at (Some d) is (λ e same. ap len (sym (inside d e same)) ∙ none)
  where
    inside : (d e : Database) → Some d ≡ Some e → d ≡ e
    inside d e same = cc

aged_listed : (d : DatabaseValue) (key : Key) (o : Option Lsa) → get d.lsas key ≡ o → IsOrder d → comes_next o ≡ true → Contains (keys_aged 3599 d) key
aged_listed d key None is order comes = absurd cc
aged_listed d key (Some l) is order comes =
    kept (λ (k : Key). age_of (get d.lsas k) == 3599) d.order key ((order.there key).1 (rw is refl)) (ap (λ (o : Option Lsa). age_of o == 3599) is ∙ last_second l.header.age comes)

-- the keys of that age, added with the scope
pub all_listed : (before named : List (Scope × Key)) (s : State) (at : Scope) (d : DatabaseValue) (keys : List Key) → Some d.lsas ≡ database_of s at → IsOrder d → keys ≡ keys_aged 3599 d → named ≡ before ++ map (λ (key : Key). (at, key)) keys → AreListed named s at
all_listed before named s at d keys is order aged new key comes =
    let here : comes_next (get d.lsas key) ≡ true = ap (λ (o : Option Database). comes_next (option_and_then (λ (d : Database). get d key) o)) is ∙ comes in
    let there : Contains keys key = subst (λ (ks : List Key). Contains ks key) (sym aged) (aged_listed d key (get d.lsas key) refl order here) in
    subst (λ (xs : List (Scope × Key)). Contains xs (at, key)) (sym new)
    (Contains-append_right before (map (λ (key : Key). let x : Scope × Key = (at, key) in x) keys) (at, key) (mapped_element (λ (key : Key). let x : Scope × Key = (at, key) in x) keys key there))

pub still_among : (before more named : List (Scope × Key)) → named ≡ before ++ more → IsAmong before named
still_among before more named new x has = subst (λ (xs : List (Scope × Key)). Contains xs x) (sym new) (Contains-append_left before more x has)

-- the scopes of the first areas
abbrev pub AreListedTo : List (Scope × Key) → State → ℕ → Type 0
AreListedTo named s i = (j : ℕ) → j < i → AreListed named s (scope.Area (get_or s.config.areas j no_area).id)

pub still_listed : (before named : List (Scope × Key)) (s : State) (at : Scope) → IsAmong before named → AreListed before s at → AreListed named s at
still_listed before named s at among listed key comes = among (at, key) (listed key comes)

pub listed_more : (before named : List (Scope × Key)) (s : State) (i : ℕ) (a : AreaConfig) → i < length s.config.areas → a ≡ get_or s.config.areas i a → IsAmong before named → AreListedTo before s i → AreListed named s (scope.Area a.id)
    → AreListedTo named s (i + 1)
listed_more before named s i a lt is among below this j within =
    elim (cases_lt j i) [
      | inl lower ↦ still_listed before named s _ among (below j lower)
      | inr past ↦
          let last : j ≡ i = omega arith in
          let same : (get_or s.config.areas j no_area).id ≡ a.id =
          ap (λ (k : ℕ). (get_or s.config.areas k no_area).id) last ∙ ap (λ (b : AreaConfig). b.id) (get_or_default s.config.areas i no_area a lt ∙ sym is) in
          subst (λ (id : ℕ). AreListed named s (scope.Area id)) (sym same) this
    ]

-- and so those of all scopes
pub listed_all : (named : List (Scope × Key)) (s : State) (i : ℕ) → length s.config.areas ≤ i → AreListedTo named s i → AreListed named s scope.As → (at : Scope) → AreListed named s at
listed_all named s i past listed of_as scope.As key comes = of_as key comes
listed_all named s i past listed of_as (scope.Area id) key comes =
    elim (place_of s.config.areas (scope.Area id)) as (λ o. place_of s.config.areas (scope.Area id) ≡ o → comes_next (option_and_then (λ (d : Database). get d key) (option_map (λ k. get_or s.databases k empty) o)) ≡ true → Contains named (scope.Area id, key)) [
      | None ↦ λ e none. absurd cc
      | Some k ↦ λ e here.
          let at = area_at s.config.areas id k e in
          subst (λ (n : ℕ). AreListed named s (scope.Area n)) at.1 (listed k (omega (arith, at.0, past))) key comes
    ] refl comes

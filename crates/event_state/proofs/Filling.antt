-- The databases and interfaces of a base, one LSA and one interface after the other.
use Rattle.std.proofs.Common.{◌≡◌, ◌≢◌, ℕ, ◌+◌, ◌<◌, Bool, true, false, cond, List, [], ◌∷◌, ◌++◌, length, map, get_or, set, take, drop, Option, Some, None, refl, sym, ap, subst, ◌∙◌, ◌⊎◌, arith, inl, inr}
use Rattle.std.specs.Prelude.{◌==◌, ◌&&◌, not, is_none, IsSome, Result, Ok, Err, OnOk, OnErr}
use Rattle.std.proofs.Common.{BTreeMap}
use Rattle.std.specs.Global.{Vec}
use Rattle.std.specs.Vec.{with_items}
use Rattle.std.specs.List.{list_any, Contains}
use Rattle.std.specs.Ordering.{nat_cmp, eq_by_cmp}
use Rattle.std.specs.Cmp.{nat_cmp_total, unsigned_ties}
use Rattle.std.specs.FinMap.{FinMap, find, get, insert, empty, len, from_entries, from_entries_push, get-from_entries, get-insert, entries, get-empty, same_map, nat_cmp-IsAntisymmetric}
use Rattle.std.proofs.lemmas.Bool.{or_parts, cases_eq, cases_lt}
use Rattle.std.proofs.lemmas.Bool.Decides.{eqb_tells}
use Rattle.std.proofs.lemmas.List.{get_or-set_same, get_or-set_other, length-set, length-map, take_more}
use Rattle.ospf_types.specs.declared.config.AreaConfig.{AreaConfig}
use Rattle.ospf_types.specs.declared.config.Config.{Config}
use Rattle.ospf_types.specs.declared.config.Interface.{Interface}
use Rattle.ospf_types.specs.declared.key.Key.{Key}
use Rattle.ospf_types.specs.declared.key.Scope.{Scope}
use Rattle.ospf_types.specs.declared.key.Scope.TheVariants as scope
use Rattle.ospf_types.specs.declared.memory.Memory.{Memory}
use Rattle.ospf_types.specs.Keys.{key_cmp}
use Rattle.ospf_types.specs.Lsa.{Lsa, key_of}
use Rattle.ospf_types.proofs.Elements.{first_element, later_element, no_element, first_or_later, contains_at}
use Rattle.ospf_types.proofs.Orders.{key_total, key_exact}
use Rattle.lsa_codec.specs.Spelling.{IsLegal}
use Rattle.lsdb.specs.Databases.{Database, DatabaseValue, install_refusal_of}
use Rattle.event_state.specs.declared.base.Base.{Base}
use Rattle.event_state.specs.declared.event.Event.TheVariants as event
use Rattle.event_state.specs.declared.limits.Limits.{Limits}
use Rattle.event_state.specs.Bases.{is_scope, keyed, lsas_under, held_in, databases_in, interfaces_in}
use Rattle.event_state.specs.BaseFaults.{has_twice, is_same_id, is_same_place, is_same_address}
use Rattle.event_state.specs.Changes.{IsChange, lsas_in, limits_in, empty_values, no_database}
use Rattle.event_state.specs.Held.{AreFilled, AreInterfaces}
use Rattle.event_state.specs.States.{State, AreAreasApart, place_of}
use Rattle.event_state.specs.Steps.{IsAccepted, has_address, is_out_of_scope, limit_of}
use Rattle.event_state.proofs.Bases.{same_lists, front_at, last_at, front_long}
use Rattle.event_state.proofs.Configs.{sound_apart}
use Rattle.event_state.proofs.Faultless.{IsFaultless, same_scope, not_found, held_push, held_past, few_entries, length_keyed, fewer_before, not_refused, within_limit}
use Rattle.event_state.proofs.HeldStates.{held_new, held_change, fit_insert, lsas_of_empty}
use Rattle.event_state.proofs.InPlace.{items_of_slice}
use Rattle.event_state.proofs.OneChange.{lsas_at, limit_at}
use Rattle.event_state.proofs.Places.{area_at, no_area, place_at, place_within}
use Rattle.event_state.proofs.Sizes.{insert_small}
use Rattle.event_state.proofs.Sorted.{value_at}
use Rattle.event_state.proofs.Twice.{none_passes, unlike_before, parts_at}

-- ---- the empty databases belong to no LSAs

none_held : from_entries {R = key_cmp} (let none : List (Key × Lsa) = [] in none) ≡ empty
none_held = same_map key_total key_exact (from_entries []) empty (λ q. get-from_entries key_total [] q ∙ sym (get-empty key_cmp q))

none_in : (areas : List AreaConfig) → databases_in [] areas ≡ map (λ (a : AreaConfig). empty) areas ++ empty ∷ []
none_in [] = ap (λ (d : Database). d ∷ []) none_held
none_in (a ∷ areas) = λ i. none_held i ∷ none_in areas i

pub filled_new : (config : Config) (limits : Limits) (ds : List DatabaseValue) → ds ≡ empty_values config.areas limits → AreFilled config limits [] ds
filled_new config limits ds is = record { held = held_new config limits ds is; lsas = ap lsas_in is ∙ lsas_of_empty config.areas limits ∙ sym (none_in config.areas) }

-- ---- one LSA more

-- the database of the scope at a place
at_place : (xs : List (Scope × Lsa)) (areas : List AreaConfig) (at : Scope) (k : ℕ) → place_of areas at ≡ Some k → get_or (databases_in xs areas) k empty ≡ held_in xs at
at_place xs areas (scope.Area id) k place =
    let found = area_at areas id k place in
    front_at (λ (a : AreaConfig). held_in xs (scope.Area a.id)) areas (held_in xs scope.As) empty no_area k found.0 ∙ ap (λ (n : ℕ). held_in xs (scope.Area n)) found.1
at_place xs areas scope.As k place =
    let last : length areas ≡ k = cc in
    ap (λ (n : ℕ). get_or (databases_in xs areas) n empty) (sym last) ∙ last_at (λ (a : AreaConfig). held_in xs (scope.Area a.id)) areas (held_in xs scope.As) empty

length_in : (xs : List (Scope × Lsa)) (areas : List AreaConfig) → length (databases_in xs areas) ≡ length areas + 1
length_in xs areas = front_long (λ (a : AreaConfig). held_in xs (scope.Area a.id)) areas (held_in xs scope.As)

-- where no two areas have one Area ID, each place belongs to a scope
scope_there : (areas : List AreaConfig) (j : ℕ) → AreAreasApart areas → j < length areas + 1 → (at : Scope) × (place_of areas at ≡ Some j)
scope_there areas j apart lt = elim (cases_lt j (length areas)) [
  | inl inside ↦ (scope.Area (get_or areas j no_area).id, place_at areas j no_area apart inside)
  | inr past ↦ (scope.As, ap Some (let last : length areas ≡ j = omega (arith, lt, past) in last))
]

other_scope : (areas : List AreaConfig) (at other : Scope) (k j : ℕ) → place_of areas at ≡ Some k → place_of areas other ≡ Some j → j ≢ k → is_scope other at ≡ false
other_scope areas at other k j here there apart =
    elim (is_scope other at) as (λ b. is_scope other at ≡ b → b ≡ false) [
      | true ↦ λ e. absurd (apart (let same : ◌≡◌ {A = Option ℕ} (Some j) (Some k) = sym there ∙ ap (place_of areas) (same_scope other at e) ∙ here in cc))
      | false ↦ λ e. refl
    ] refl

databases_push : (areas : List AreaConfig) (xs : List (Scope × Lsa)) (at : Scope) (l : Lsa) (k : ℕ) → AreAreasApart areas → place_of areas at ≡ Some k → find key_cmp (key_of l) (keyed (lsas_under xs at)) ≡ None
    → set (databases_in xs areas) k (insert (held_in xs at) (key_of l) l) ≡ databases_in (xs ++ (at, l) ∷ []) areas
databases_push areas xs at l k apart place none =
    let old = databases_in xs areas in
    let new = databases_in (xs ++ (at, l) ∷ []) areas in
    let d = insert (held_in xs at) (key_of l) l in
    let nothing : Database = empty in
    let within : k < length old = omega (arith, place_within areas at k place, length_in xs areas) in
    same_lists (set old k d) new nothing (length-set old k d ∙ length_in xs areas ∙ sym (length_in (xs ++ (at, l) ∷ []) areas)) (λ j lt.
    elim (cases_eq j k) [
      | inl same ↦
          ap (λ (n : ℕ). get_or (set old k d) n nothing) same ∙ get_or-set_same old k d nothing within ∙ sym (held_push xs at l none)
          ∙ sym (at_place (xs ++ (at, l) ∷ []) areas at k place) ∙ ap (λ (n : ℕ). get_or new n nothing) (sym same)
      | inr differs ↦
          let there = scope_there areas j apart (omega (arith, lt, length-set old k d, length_in xs areas)) in
          get_or-set_other old k j d nothing differs ∙ at_place xs areas there.0 j there.1
          ∙ sym (held_past xs there.0 at l (other_scope areas at there.0 k j place there.1 differs)) ∙ sym (at_place (xs ++ (at, l) ∷ []) areas there.0 j there.1)
    ])

module _ (limits : Limits) (b : Base) (h : IsFaultless limits b) (i : ℕ) (at : Scope) (l : Lsa) (k : ℕ) (lt : i < length b.lsas) (is : (at, l) ≡ get_or b.lsas i (at, l)) (place : place_of b.config.areas at ≡ Some k) where
  new_key : find key_cmp (key_of l) (keyed (lsas_under (take i b.lsas) at)) ≡ None
  new_key = not_found (take i b.lsas) at l (unlike_before is_same_place b.lsas i (at, l) lt is h.places)

  -- the LSA fits in its database
  fits : install_refusal_of (held_in (take i b.lsas) at) (limit_of limits at) l ≡ None
  fits =
      let before = take i b.lsas in
      let fewer = fewer_before before (drop (i + 1) b.lsas) (at, l) in
      let whole : length (lsas_under (before ++ (at, l) ∷ drop (i + 1) b.lsas) at) ≡ length (lsas_under b.lsas at) = ap (λ (xs : List (Scope × Lsa)). length (lsas_under xs at)) (sym (parts_at b.lsas i (at, l) lt is)) in
      let small : len (held_in before at) < limit_of limits at =
      omega (arith, few_entries (keyed (lsas_under before at)), length_keyed (lsas_under before at), fewer, whole, within_limit limits b h at k place) in
      not_refused (held_in before at) (limit_of limits at) l (get-from_entries key_total (keyed (lsas_under before at)) (key_of l) ∙ new_key) small

  module _ (ds : List DatabaseValue) (filled : AreFilled b.config limits (take i b.lsas) ds) where
    here_held : get_or (lsas_in ds) k empty ≡ held_in (take i b.lsas) at
    here_held = ap (λ (list : List Database). get_or list k empty) filled.lsas ∙ at_place (take i b.lsas) b.config.areas at k place

    room_here : install_refusal_of (get_or (lsas_in ds) k empty) (get_or (limits_in ds) k 0) l ≡ None
    room_here = (λ j. install_refusal_of (here_held j) (filled.held.limited at k place j) l) ∙ fits

    pub put_fits : install_refusal_of (get_or ds k no_database).lsas (get_or ds k no_database).limit l ≡ None
    put_fits = sym (λ j. install_refusal_of (lsas_at ds k j) (limit_at ds k j) l) ∙ room_here

    pub put_within : k < length (lsas_in ds)
    put_within = omega (arith, place_within b.config.areas at k place, filled.held.kept.places)

    -- and then it is among those of the base
    pub filled_more : (new : List DatabaseValue) → IsLegal l → IsChange ds new k (λ d. insert d (key_of l) l) → AreFilled b.config limits (take (i + 1) b.lsas) new
    filled_more new legal change =
        let old : Database = get_or (lsas_in ds) k empty in
        let placed : is_out_of_scope at l.header.kind ≡ false = none_passes (λ (x : Scope × Lsa). is_out_of_scope x.0 x.1.header.kind) b.lsas (at, l) h.placed (contains_at b.lsas i (at, l) lt is) in
        let lsas : lsas_in new ≡ set (lsas_in ds) k (insert old (key_of l) l) = change.lsas ∙ ap (λ (d : Database). set (lsas_in ds) k (insert d (key_of l) l)) (sym (lsas_at ds k)) in
        let one : take (i + 1) b.lsas ≡ take i b.lsas ++ (at, l) ∷ [] = take_more b.lsas i (at, l) lt ∙ ap (λ (x : Scope × Lsa). take i b.lsas ++ x ∷ []) (sym is) in
        record {
          held = held_change b.config limits ds new at k (λ d. insert d (key_of l) l) filled.held place (λ fit. fit_insert at old (key_of l) l fit (record { own = refl; legal = legal; placed = placed }))
              (insert_small old (get_or (limits_in ds) k 0) l room_here (filled.held.within k)) lsas change.limits;
          lsas = lsas ∙ (λ j. set (filled.lsas j) k (insert (here_held j) (key_of l) l)) ∙ databases_push b.config.areas (take i b.lsas) at l k (sound_apart b.config h.config) place new_key
              ∙ ap (λ (xs : List (Scope × Lsa)). databases_in xs b.config.areas) (sym one);
        }

-- ---- the interfaces

eq_numbers : (x y : ℕ) → (x == y) ≡ false → eq_by_cmp nat_cmp y x ≡ false
eq_numbers x y e = sym (unsigned_ties y x) ∙ back (eqb_tells x y) (eqb_tells y x)
  where
    back : ((x == y) ≡ true × (x ≡ y)) ⊎ ((x == y) ≡ false × (x ≢ y)) → ((y == x) ≡ true × (y ≡ x)) ⊎ ((y == x) ≡ false × (y ≢ x)) → (y == x) ≡ false
    back one (inr two) = two.0
    back (inr one) (inl two) = absurd (one.1 (sym two.1))
    back (inl one) (inl two) = absurd (let wrong : true ≡ false = sym one.0 ∙ e in cc)

no_id : (xs : List (ℕ × Interface)) (x : ℕ × Interface) → list_any (λ y. is_same_id y x) xs ≡ false → find nat_cmp x.0 xs ≡ None
no_id [] x none = refl
no_id (y ∷ xs) x none =
    let parts = or_parts (is_same_id y x) (list_any (λ z. is_same_id z x) xs) none in
    ap (λ (b : Bool). cond b (Some y.1) (find nat_cmp x.0 xs)) (eq_numbers y.0 x.0 parts.0) ∙ no_id xs x parts.1

-- one interface more
pub interfaces_more : (xs : List (ℕ × Interface)) (i : ℕ) (x : ℕ × Interface) → i < length xs → x ≡ get_or xs i x → has_twice is_same_id xs ≡ false → interfaces_in (take (i + 1) xs) ≡ insert (interfaces_in (take i xs)) x.0 x.1
interfaces_more xs i x lt is none =
    ap interfaces_in (take_more xs i x lt ∙ ap (λ (y : ℕ × Interface). take i xs ++ y ∷ []) (sym is))
    ∙ from_entries_push nat_cmp_total nat_cmp-IsAntisymmetric (take i xs) x.0 x.1 (no_id (take i xs) x (unlike_before is_same_id xs i x lt is none))

found_listed : (xs : List (ℕ × Interface)) (id : ℕ) (x : Interface) → find nat_cmp id xs ≡ Some x → Contains xs (id, x)
found_listed [] id x e = absurd cc
found_listed (y ∷ xs) id x e =
    elim (eq_by_cmp nat_cmp id y.0) as (λ b. eq_by_cmp nat_cmp id y.0 ≡ b → cond b (Some y.1) (find nat_cmp id xs) ≡ Some x → Contains (y ∷ xs) (id, x)) [
      | true ↦ λ t found.
          let number : id ≡ y.0 = elim (eqb_tells id y.0) [ inl s ↦ s.1 | inr s ↦ absurd (let wrong : true ≡ false = sym (unsigned_ties id y.0 ∙ t) ∙ s.0 in cc) ] in
          let value : y.1 ≡ x = cc in
          subst (λ (z : ℕ × Interface). Contains (y ∷ xs) z) (λ i. (sym number i, value i)) (first_element y xs)
      | false ↦ λ t found. later_element y (id, x) xs (found_listed xs id x found)
    ] refl e

-- two of a list that are alike, at different ids, make it have two that are alike
two_alike : (xs : List (ℕ × Interface)) (x y : ℕ × Interface) → Contains xs x → Contains xs y → x.0 ≢ y.0 → is_same_address x y ≡ true → is_same_address y x ≡ true → has_twice is_same_address xs ≡ false → ⊥
two_alike [] x y one two apart alike back none = no_element x one
two_alike (z ∷ xs) x y one two apart alike back none =
    let parts = or_parts (list_any (is_same_address z) xs) (has_twice is_same_address xs) none in
    elim (first_or_later z x xs one) [
      | inl first ↦ elim (first_or_later z y xs two) [
        | inl other ↦ apart (ap (λ (w : ℕ × Interface). w.0) (first ∙ sym other))
        | inr later ↦ let wrong : true ≡ false = sym (ap (λ (w : ℕ × Interface). is_same_address w y) (sym first) ∙ alike) ∙ none_passes (is_same_address z) xs y parts.0 later in absurd cc
      ]
      | inr earlier ↦ elim (first_or_later z y xs two) [
        | inl other ↦ let wrong : true ≡ false = sym (ap (λ (w : ℕ × Interface). is_same_address w x) (sym other) ∙ back) ∙ none_passes (is_same_address z) xs x parts.0 earlier in absurd cc
        | inr later ↦ two_alike xs x y earlier later apart alike back parts.1
      ]
    ]

eq_itself : (a b : ℕ) → a ≡ b → (a == b) ≡ true
eq_itself a b e = elim (eqb_tells a b) [ inl t ↦ t.0 | inr t ↦ absurd (t.1 e) ]

both_up : (x y : ℕ × Interface) → x.1.up ≡ true → y.1.up ≡ true → x.1.address ≡ y.1.address → is_same_address x y ≡ true
both_up x y one two same = λ i. one i && (two i && eq_itself x.1.address y.1.address same i)

there_is : {X : Type 0} (o : Option X) → is_none o ≡ false → IsSome o
there_is None e = absurd cc
there_is (Some x) e = refl

-- the interfaces of a base without faults belong to a state
pub interfaces_of_base : (limits : Limits) (b : Base) → IsFaultless limits b → AreInterfaces b.config.areas (interfaces_in b.interfaces)
interfaces_of_base limits b h =
    let listed : (id : ℕ) (x : Interface) → get (interfaces_in b.interfaces) id ≡ Some x → Contains b.interfaces (id, x) = λ id x e. found_listed b.interfaces id x (sym (get-from_entries nat_cmp_total b.interfaces id) ∙ e) in
    record {
      placed = λ id x e. there_is (place_of b.config.areas (scope.Area x.area)) (none_passes (λ (y : ℕ × Interface). is_none (place_of b.config.areas (scope.Area y.1.area))) b.interfaces (id, x) h.areas (listed id x e));
      apart = λ id other x y e f up too same. elim (cases_eq id other) [
        | inl one ↦ one
        | inr two ↦ absurd (two_alike b.interfaces (id, x) (other, y) (listed id x e) (listed other y f) two (both_up (id, x) (other, y) up too same) (both_up (other, y) (id, x) too up (sym same)) h.addresses)
      ];
    }

put_cases : (m : FinMap nat_cmp Interface) (id : ℕ) (x : Interface) (q : ℕ) (y : Interface) → get (insert m id x) q ≡ Some y → ((q ≡ id) × (x ≡ y)) ⊎ (get m q ≡ Some y)
put_cases m id x q y e =
    elim (cases_eq q id) [
      | inl same ↦
          let here : cond (eq_by_cmp nat_cmp q id) (Some x) (get m q) ≡ Some y = sym (get-insert nat_cmp_total m id x q) ∙ e in
          let tied : eq_by_cmp nat_cmp q id ≡ true = sym (unsigned_ties q id) ∙ eq_itself q id same in
          let value : ◌≡◌ {A = Option Interface} (Some x) (Some y) = sym (ap (λ (b : Bool). cond b (Some x) (get m q)) tied) ∙ here in
          inl (same, cc)
      | inr differs ↦
          let apart : eq_by_cmp nat_cmp q id ≡ false = sym (unsigned_ties q id) ∙ elim (eqb_tells q id) [ inl t ↦ absurd (differs t.1) | inr t ↦ t.0 ] in
          inr (sym (get-insert nat_cmp_total m id x q ∙ ap (λ (b : Bool). cond b (Some x) (get m q)) apart) ∙ e)
    ]

-- an interface that an event puts in place
pub interfaces_put : (areas : List AreaConfig) (m : FinMap nat_cmp Interface) (id : ℕ) (x : Interface) → AreInterfaces areas m → is_none (place_of areas (scope.Area x.area)) ≡ false
    → (x.up ≡ true → (other : ℕ) (y : Interface) → get m other ≡ Some y → y.up ≡ true → y.address ≡ x.address → other ≡ id) → AreInterfaces areas (insert m id x)
interfaces_put areas m id x h there alone = record {
  placed = λ q y e. elim (put_cases m id x q y e) [
    | inl new ↦ subst (λ (z : Interface). IsSome (place_of areas (scope.Area z.area))) new.1 (there_is (place_of areas (scope.Area x.area)) there)
    | inr old ↦ h.placed q y old
  ];
  apart = λ q r y z e f up too same. elim (put_cases m id x q y e) [
    | inl one ↦ elim (put_cases m id x r z f) [
      | inl two ↦ one.0 ∙ sym two.0
      | inr two ↦
          let new = sym one.1 in
          one.0 ∙ sym (alone (sym (ap (λ (w : Interface). w.up) new) ∙ up) r z two too (sym same ∙ ap (λ (w : Interface). w.address) new))
    ]
    | inr one ↦ elim (put_cases m id x r z f) [
      | inl two ↦
          let new = sym two.1 in
          alone (sym (ap (λ (w : Interface). w.up) new) ∙ too) q y one up (same ∙ ap (λ (w : Interface). w.address) new) ∙ sym two.0
      | inr two ↦ h.apart q r y z one two up too same
    ]
  ];
}

-- what is at an address of an interface that no test finds
none_with : (m : FinMap nat_cmp Interface) (id address : ℕ) → list_any (has_address id address) (entries m) ≡ false → (other : ℕ) (y : Interface) → get m other ≡ Some y → y.up ≡ true → y.address ≡ address → other ≡ id
none_with m id address none other y e up same =
    elim (cases_eq other id) [
      | inl one ↦ one
      | inr two ↦
          let fails = none_passes (has_address id address) (entries m) (other, y) none (value_at m other y nat_cmp-IsAntisymmetric e) in
          let apart : (other == id) ≡ false = elim (eqb_tells other id) [ inl t ↦ absurd (two t.1) | inr t ↦ t.0 ] in
          let passes : has_address id address (other, y) ≡ true = λ i. not (apart i) && (up i && eq_itself y.address address same i) in
          absurd (let wrong : true ≡ false = sym passes ∙ fails in cc)
    ]

-- the interfaces after an event, whether it is done or memory was refused
pub interfaces_after : (s : State) (id : ℕ) (x : Interface) → IsAccepted s (event.Interface id x.area x.address x.peer x.up) → AreInterfaces s.config.areas s.interfaces → (r : Result Bool Memory) (old new : BTreeMap ℕ Interface)
    → from_entries {R = nat_cmp} old.entries ≡ s.interfaces → OnErr r (new.entries ≡ old.entries) → OnOk r (from_entries {R = nat_cmp} new.entries ≡ insert s.interfaces id x) → AreInterfaces s.config.areas (from_entries {R = nat_cmp} new.entries)
interfaces_after s id x taken h (Err e) old new is kept done = subst (AreInterfaces s.config.areas) (sym (ap (from_entries {R = nat_cmp}) kept ∙ is)) h
interfaces_after s id x taken h (Ok changed) old new is kept done =
    let alone : x.up ≡ true → list_any (has_address id x.address) (entries s.interfaces) ≡ false = λ up. sym (ap (λ (b : Bool). b && list_any (has_address id x.address) (entries s.interfaces)) up) ∙ taken.apart in
    subst (AreInterfaces s.config.areas) (sym done) (interfaces_put s.config.areas s.interfaces id x h taken.area (λ up. none_with s.interfaces id x.address (alone up)))

pub no_interfaces_in : interfaces_in [] ≡ empty
no_interfaces_in = same_map nat_cmp_total nat_cmp-IsAntisymmetric (from_entries {R = nat_cmp} (let none : List (ℕ × Interface) = [] in none)) empty (λ q. get-from_entries nat_cmp_total [] q ∙ sym (get-empty nat_cmp q))

pub interfaces_none : (areas : List AreaConfig) → AreInterfaces areas empty
interfaces_none areas =
    let none : (id : ℕ) (x : Interface) → get empty id ≡ Some x → ⊥ = λ id x e. (let wrong : ◌≡◌ {A = Option Interface} None (Some x) = sym (get-empty nat_cmp id) ∙ e in absurd cc) in
    record { placed = λ id x e. absurd (none id x e); apart = λ id other x y e f up too same. absurd (none id x e) }

-- a Vec whose databases were filled
pub filled_items : (config : Config) (limits : Limits) (v : Vec DatabaseValue) (new : List DatabaseValue) (lsas : List (Scope × Lsa)) → v.items ≡ empty_values config.areas limits → AreFilled config limits lsas new → (with_items v new).items ≡ new
filled_items config limits v new lsas empty filled =
    let first = filled_new config limits v.items empty in
    items_of_slice v new (omega (arith, filled.held.kept.places, first.held.kept.places, length-map new (λ (d : DatabaseValue). d.lsas), length-map v.items (λ (d : DatabaseValue). d.lsas)))

-- the scope of an LSA that is listed is configured
pub scope_listed : (limits : Limits) (b : Base) → IsFaultless limits b → (i : ℕ) (x : Scope × Lsa) → i < length b.lsas → x ≡ get_or b.lsas i x → place_of b.config.areas x.0 ≡ None → ⊥
scope_listed limits b h i x lt is none =
    let there : is_none (place_of b.config.areas x.0) ≡ false = none_passes (λ (y : Scope × Lsa). is_none (place_of b.config.areas y.0)) b.lsas x h.scopes (contains_at b.lsas i x lt is) in
    let wrong : true ≡ false = sym (ap is_none none) ∙ there in absurd cc

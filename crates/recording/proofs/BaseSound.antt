-- A base that gains an interface or an LSA stays without a fault.
use Rattle.std.proofs.Common.{ℕ, ◌≡◌, ◌+◌, ◌==◌, ◌++◌, ◌&&◌, Bool, true, false, cond, nat_lt, nat_le, List, [], ◌∷◌, length, map, Option, Some, None, Ordering, refl, sym, ap, subst, ◌∙◌, arith, eqb-true, eq-eqb, length-append}
use Rattle.std.specs.Prelude.{◌↔◌, IsTrue, is_none, filter}
use Rattle.std.specs.List.{list_any, AllByRecursion}
use Rattle.std.specs.List.Sorted.{IsStrictlySortedBy}
use Rattle.std.specs.Ordering.{nat_cmp, is_eq, ordering_then}
use Rattle.std.specs.Cmp.{nat_cmp_is}
use Rattle.std.specs.declared.cmp.Ordering.TheVariants.{Less, Equal, Greater}
use Rattle.std.proofs.lemmas.Bool.{both_ways, or_from, or_parts, false_from_ne_true}
use Rattle.std.proofs.lemmas.Bool.Decides.{nat_tests}
use Rattle.std.proofs.lemmas.List.Elements.{filter-append}
use Rattle.std.proofs.lemmas.List.Folds.{list_any-append}
use Rattle.ospf_types.specs.FirstOf.{first_of}
use Rattle.ospf_types.specs.declared.config.AreaConfig.{AreaConfig}
use Rattle.ospf_types.specs.declared.config.Interface.{Interface}
use Rattle.ospf_types.specs.declared.key.Scope.{Scope}
use Rattle.ospf_types.specs.declared.key.Scope.TheVariants as scope
use Rattle.ospf_types.specs.Keys.{key_cmp, scope_cmp}
use Rattle.ospf_types.specs.Lsa.{Lsa, key_of}
use Rattle.ospf_types.specs.Configs.{config_fault_of}
use Rattle.ospf_types.specs.declared.fault.ConfigFault.{ConfigFault}
use Rattle.event_state.specs.declared.base.Base.{Base}
use Rattle.event_state.specs.declared.base_fault.BaseFault.{BaseFault}
use Rattle.event_state.specs.declared.base_fault.EntryFault.{EntryFault}
use Rattle.event_state.specs.declared.base_fault.EntryFault.TheVariants as unfit
use Rattle.event_state.specs.Bases.{is_scope, lsas_under}
use Rattle.event_state.specs.BaseFaults.{base_fault_of, unfit_of, after_config, after_doubled, unfit_fault, has_twice, is_same_id, is_same_place, is_same_address, is_doubled, lacks_an_area, has_misplaced, is_overfull, has_shared_address}
use Rattle.event_state.specs.States.{place_of}
use Rattle.event_state.specs.Steps.{is_out_of_scope, standard_limits}
use Rattle.recording.specs.Places.{lsa_place, most_in, place_cmp, unfit_interface, unfit_lsa}
use Rattle.recording.specs.Progress.{IsBare}
use Rattle.recording.specs.Recordings.{AreByIds, AreByPlaces, IsBaseOrdered, IsConfigOrdered}

-- ---- tables of tests

four_none : {X : Type 0} (a b c d : Bool) (p q r s : X) → a ≡ false → b ≡ false → c ≡ false → d ≡ false → first_of ((a, p) ∷ (b, q) ∷ (c, r) ∷ (d, s) ∷ []) ≡ None
four_none a b c d p q r s one two three four = rw (one, two, three, four) refl

pub record AllFour (a b c d : Bool) : Type 0 where
  first : a ≡ false
  second : b ≡ false
  third : c ≡ false
  fourth : d ≡ false

four_parts : {X : Type 0} (a b c d : Bool) (p q r s : X) → first_of ((a, p) ∷ (b, q) ∷ (c, r) ∷ (d, s) ∷ []) ≡ None → AllFour a b c d
four_parts true b c d p q r s e = absurd cc
four_parts false true c d p q r s e = absurd cc
four_parts false false true d p q r s e = absurd cc
four_parts false false false true p q r s e = absurd cc
four_parts false false false false p q r s e = record { first = refl; second = refl; third = refl; fourth = refl }

three_parts : {X : Type 0} (a b c : Bool) (p q r : X) → first_of ((a, p) ∷ (b, q) ∷ (c, r) ∷ []) ≡ None → (a ≡ false) × (b ≡ false) × (c ≡ false)
three_parts true b c p q r e = absurd cc
three_parts false true c p q r e = absurd cc
three_parts false false true p q r e = absurd cc
three_parts false false false p q r e = (refl, refl, refl)

two_parts : {X : Type 0} (a b : Bool) (p q : X) → first_of ((a, p) ∷ (b, q) ∷ []) ≡ None → (a ≡ false) × (b ≡ false)
two_parts true b p q e = absurd cc
two_parts false true p q e = absurd cc
two_parts false false p q e = (refl, refl)

unfit_none : (o : Option EntryFault) → unfit_fault o ≡ None → o ≡ None
unfit_none None e = refl
unfit_none (Some u) e = cc

doubled_parts : (d : Bool) (o : Option EntryFault) → after_doubled d (unfit_fault o) ≡ None → o ≡ None
doubled_parts true o e = absurd cc
doubled_parts false o e = unfit_none o e

config_parts : (f : Option ConfigFault) (others : Option BaseFault) → after_config f others ≡ None → (f ≡ None) × (others ≡ None)
config_parts None others e = (refl, e)
config_parts (Some f) others e = absurd cc

-- what a base without a fault has not
pub base_parts : (b : Base) → base_fault_of standard_limits b ≡ None → (config_fault_of b.config ≡ None) × (unfit_of standard_limits b ≡ None)
base_parts b sound =
    let two = config_parts (config_fault_of b.config) (after_doubled (is_doubled b) (unfit_fault (unfit_of standard_limits b))) sound in
    (two.0, doubled_parts (is_doubled b) (unfit_of standard_limits b) two.1)

-- ---- nothing in order is listed twice

module _ {X K : Type 0} (R : K → K → Ordering) (key : X → K) (same : X → X → Bool) (apart : (x y : X) → R (key x) (key y) ≡ Less → same x y ≡ false) where
  none_same : (x : X) (xs : List X) → AllByRecursion (λ k. R (key x) k ≡ Less) (map key xs) → list_any (same x) xs ≡ false
  none_same x [] all = refl
  none_same x (y ∷ xs) all = or_from _ _ (apart x y all.0) (none_same x xs all.1)

  none_twice : (xs : List X) → IsStrictlySortedBy R (map key xs) → has_twice same xs ≡ false
  unfolding IsStrictlySortedBy
  none_twice [] sorted = refl
  none_twice (x ∷ xs) sorted = or_from _ _ (none_same x xs sorted.0) (none_twice xs sorted.1)

nat_equal : (a b : ℕ) → a ≡ b → nat_cmp a b ≡ Equal
nat_equal a b same = sym (nat_cmp_is a b Equal same)

less_not_same : (a b : ℕ) → nat_cmp a b ≡ Less → (a == b) ≡ false
less_not_same a b less = false_from_ne_true (a == b) (λ h. let both : Equal ≡ Less = sym (nat_equal a b (eqb-true a b h)) ∙ less in cc)

pub scope_same : (at other : Scope) → is_scope at other ≡ true → at ≡ other
scope_same (scope.Area a) (scope.Area b) h = ap scope.Area (eqb-true a b h)
scope_same (scope.Area a) scope.As h = cc
scope_same scope.As (scope.Area b) h = cc
scope_same scope.As scope.As h = refl

pub scope_itself : (at : Scope) → is_scope at at ≡ true
scope_itself (scope.Area a) = eq-eqb a a refl
scope_itself scope.As = refl

pub scope_equal : (at other : Scope) → is_scope at other ≡ true → scope_cmp at other ≡ Equal
scope_equal (scope.Area a) (scope.Area b) h = nat_equal a b (eqb-true a b h)
scope_equal (scope.Area a) scope.As h = cc
scope_equal scope.As (scope.Area b) h = cc
scope_equal scope.As scope.As h = refl

key_not_same : (o k : Ordering) → o ≡ Equal → ordering_then o k ≡ Less → is_eq k ≡ false
key_not_same Equal Less e less = refl
key_not_same Equal Equal e less = cc
key_not_same Equal Greater e less = cc
key_not_same Less k e less = cc
key_not_same Greater k e less = cc

place_apart : (x y : Scope × Lsa) → place_cmp (lsa_place x) (lsa_place y) ≡ Less → is_same_place x y ≡ false
place_apart x y less =
    let k : Ordering = key_cmp (key_of x.1) (key_of y.1) in
    elim (is_scope x.0 y.0) as (λ b. is_scope x.0 y.0 ≡ b → (b && is_eq k) ≡ false) [
      | true ↦ λ h. key_not_same (scope_cmp x.0 y.0) k (scope_equal x.0 y.0 h) less
      | false ↦ λ h. refl
    ] refl

-- what is in order has nothing twice
pub none_doubled : (b : Base) → IsBaseOrdered b → is_doubled b ≡ false
none_doubled b ordered =
    or_from _ _
    (none_twice nat_cmp (λ (x : ℕ × Interface). x.0) is_same_id (λ x y less. less_not_same x.0 y.0 less) b.interfaces ordered.interfaces)
    (none_twice place_cmp lsa_place is_same_place place_apart b.lsas ordered.lsas)

-- a base in order has no fault where its configuration has none and it is fit
pub ordered_sound : (b : Base) → IsBaseOrdered b → config_fault_of b.config ≡ None → unfit_of standard_limits b ≡ None → base_fault_of standard_limits b ≡ None
ordered_sound b ordered config fit =
    ap (λ (f : Option ConfigFault). after_config f (after_doubled (is_doubled b) (unfit_fault (unfit_of standard_limits b)))) config
    ∙ ap (λ (d : Bool). after_doubled d (unfit_fault (unfit_of standard_limits b))) (none_doubled b ordered)
    ∙ ap unfit_fault fit

none_is : {X : Type 0} (o : Option X) → is_none o ≡ true → o ≡ None
none_is None h = refl
none_is (Some x) h = cc

-- the results of two tests of a base in order
pub sound_told : (b : Base) → IsBaseOrdered b → is_none (config_fault_of b.config) ≡ true → (r : Bool) → r ≡ is_none (unfit_of standard_limits b) → IsTrue r ↔ (base_fault_of standard_limits b ≡ None)
sound_told b ordered config r told = (
  λ here. ordered_sound b ordered (none_is (config_fault_of b.config) config) (none_is (unfit_of standard_limits b) (sym told ∙ here)),
  λ sound. told ∙ ap is_none (base_parts b sound).1,
)

pub not_sound : (b : Base) → is_none (config_fault_of b.config) ≡ false → base_fault_of standard_limits b ≡ None → ⊥
not_sound b some sound = let none : is_none (config_fault_of b.config) ≡ true = ap is_none (base_parts b sound).0 in both_ways (is_none (config_fault_of b.config)) some none

-- ---- the parts of what is fit

pub record IsFit (b : Base) : Type 0 where
  pub interface_areas : list_any (λ x. is_none (place_of b.config.areas (scope.Area x.1.area))) b.interfaces ≡ false
  pub lsa_areas : list_any (λ x. is_none (place_of b.config.areas x.0)) b.lsas ≡ false
  pub scopes : has_misplaced b ≡ false
  pub areas_full : list_any (λ (a : AreaConfig). nat_lt standard_limits.area_lsas (length (lsas_under b.lsas (scope.Area a.id)))) b.config.areas ≡ false
  pub as_full : nat_lt standard_limits.externals (length (lsas_under b.lsas scope.As)) ≡ false
  pub addresses : has_shared_address b ≡ false

fit_from : (b : Base) → unfit_of standard_limits b ≡ None → IsFit b
fit_from b fit =
    let four = four_parts (lacks_an_area b) (has_misplaced b) (is_overfull standard_limits b) (has_shared_address b) unfit.NoArea unfit.Scope unfit.Full unfit.AddressTaken fit in
    let areas = or_parts _ _ four.first in
    let full = or_parts _ _ four.third in
    record { interface_areas = areas.0; lsa_areas = areas.1; scopes = four.second; areas_full = full.0; as_full = full.1; addresses = four.fourth }

fit_to : (b : Base) → IsFit b → unfit_of standard_limits b ≡ None
fit_to b h =
    four_none (lacks_an_area b) (has_misplaced b) (is_overfull standard_limits b) (has_shared_address b) unfit.NoArea unfit.Scope unfit.Full unfit.AddressTaken
    (or_from _ _ h.interface_areas h.lsa_areas) h.scopes (or_from _ _ h.areas_full h.as_full) h.addresses

-- ---- one more at the end

one_more : {X : Type 0} (p : X → Bool) (xs : List X) (x : X) → list_any p xs ≡ false → p x ≡ false → list_any p (xs ++ x ∷ []) ≡ false
one_more p xs x none here = list_any-append p xs (x ∷ []) ∙ or_from _ _ none (or_from _ _ here refl)

one_more_apart : {X : Type 0} (same : X → X → Bool) (xs : List X) (x : X) → has_twice same xs ≡ false → list_any (λ y. same y x) xs ≡ false → has_twice same (xs ++ x ∷ []) ≡ false
one_more_apart same [] x none apart = refl
one_more_apart same (y ∷ xs) x none apart =
    let old = or_parts (list_any (same y) xs) (has_twice same xs) none in
    let new = or_parts (same y x) (list_any (λ z. same z x) xs) apart in
    or_from _ _ (one_more (same y) xs x old.0 new.0) (one_more_apart same xs x old.1 new.1)

abbrev one_if : Bool → ℕ
one_if b = cond b 1 0

filter_one : {X : Type 0} (p : X → Bool) (x : X) → length (filter p (x ∷ [])) ≡ one_if (p x)
filter_one p x = elim (p x) as (λ b. length (cond b (x ∷ []) []) ≡ one_if b) [ true ↦ refl | false ↦ refl ]

pub count_more : (lsas : List (Scope × Lsa)) (x : Scope × Lsa) (at : Scope) → length (lsas_under (lsas ++ x ∷ []) at) ≡ length (lsas_under lsas at) + one_if (is_scope at x.0)
count_more lsas x at =
    let p : Scope × Lsa → Bool = λ y. is_scope at y.0 in
    ap length (filter-append p lsas (x ∷ [])) ∙ length-append (filter p lsas) (filter p (x ∷ [])) ∙ ap (λ (n : ℕ). length (lsas_under lsas at) + n) (filter_one p x)

room_left : (n limit : ℕ) (b : Bool) → nat_lt limit n ≡ false → (b ≡ true → nat_le limit n ≡ false) → nat_lt limit (n + one_if b) ≡ false
room_left n limit true old new = let more = new refl in grind (arith, nat_tests)
room_left n limit false old new = grind (arith, nat_tests)

-- a scope with one more LSA is not past its limit
more_fits : (lsas : List (Scope × Lsa)) (x : Scope × Lsa) (at : Scope) → nat_lt (most_in standard_limits at) (length (lsas_under lsas at)) ≡ false → nat_le (most_in standard_limits x.0) (length (lsas_under lsas x.0)) ≡ false
    → nat_lt (most_in standard_limits at) (length (lsas_under (lsas ++ x ∷ []) at)) ≡ false
more_fits lsas x at old new =
    let full : Scope → Bool = λ s. nat_le (most_in standard_limits s) (length (lsas_under lsas s)) in
    ap (λ (n : ℕ). nat_lt (most_in standard_limits at) n) (count_more lsas x at)
    ∙ room_left (length (lsas_under lsas at)) (most_in standard_limits at) (is_scope at x.0) old (λ same. ap full (scope_same at x.0 same) ∙ new)

none_of_weaker : {X : Type 0} (p q : X → Bool) → ((x : X) → p x ≡ false → q x ≡ false) → (xs : List X) → list_any p xs ≡ false → list_any q xs ≡ false
none_of_weaker p q weaker [] none = refl
none_of_weaker p q weaker (x ∷ xs) none =
    let two = or_parts (p x) (list_any p xs) none in or_from _ _ (weaker x two.0) (none_of_weaker p q weaker xs two.1)

-- ---- a base with an interface or an LSA more

-- the base has no fault but, it may be, of order
pub record IsUsable (b : Base) : Type 0 where
  pub config : config_fault_of b.config ≡ None
  pub fit : IsFit b

pub usable_from : (b : Base) → base_fault_of standard_limits b ≡ None → IsUsable b
usable_from b sound = let two = base_parts b sound in record { config = two.0; fit = fit_from b two.1 }

pub usable_to : (b : Base) → IsBaseOrdered b → IsUsable b → base_fault_of standard_limits b ≡ None
usable_to b ordered h = ordered_sound b ordered h.config (fit_to b h.fit)

pub interface_fits : (b : Base) (x : ℕ × Interface) → IsUsable b → unfit_interface b.config.areas b.interfaces x.1 ≡ None → IsUsable (record b { interfaces = b.interfaces ++ x ∷ [] })
interface_fits b x h fit =
    let two = two_parts (is_none (place_of b.config.areas (scope.Area x.1.area))) (list_any (λ y. is_same_address y x) b.interfaces) unfit.NoArea unfit.AddressTaken fit in
    record {
      config = h.config;
      fit = record {
        interface_areas = one_more (λ y. is_none (place_of b.config.areas (scope.Area y.1.area))) b.interfaces x h.fit.interface_areas two.0;
        lsa_areas = h.fit.lsa_areas;
        scopes = h.fit.scopes;
        areas_full = h.fit.areas_full;
        as_full = h.fit.as_full;
        addresses = one_more_apart is_same_address b.interfaces x h.fit.addresses two.1;
      };
    }

pub lsa_fits : (b : Base) (x : Scope × Lsa) → IsUsable b → unfit_lsa b.config.areas b.lsas x ≡ None → IsUsable (record b { lsas = b.lsas ++ x ∷ [] })
lsa_fits b x h fit =
    let full : Bool = nat_le (most_in standard_limits x.0) (length (lsas_under b.lsas x.0)) in
    let three = three_parts (is_none (place_of b.config.areas x.0)) (is_out_of_scope x.0 (key_of x.1).kind) full unfit.NoArea unfit.Scope unfit.Full fit in
    record {
      config = h.config;
      fit = record {
        interface_areas = h.fit.interface_areas;
        lsa_areas = one_more (λ y. is_none (place_of b.config.areas y.0)) b.lsas x h.fit.lsa_areas three.0;
        scopes = one_more (λ y. is_out_of_scope y.0 y.1.header.kind) b.lsas x h.fit.scopes three.1;
        areas_full = none_of_weaker _ _ (λ a old. more_fits b.lsas x (scope.Area a.id) old three.2) b.config.areas h.fit.areas_full;
        as_full = more_fits b.lsas x scope.As h.fit.as_full three.2;
        addresses = h.fit.addresses;
      };
    }

-- ---- a configuration alone

none_full : (areas : List AreaConfig) → list_any (λ (a : AreaConfig). nat_lt standard_limits.area_lsas (length (lsas_under [] (scope.Area a.id)))) areas ≡ false
none_full [] = refl
none_full (a ∷ areas) = none_full areas

bare_usable : (b : Base) → b.interfaces ≡ [] → b.lsas ≡ [] → config_fault_of b.config ≡ None → IsUsable b
bare_usable b interfaces lsas config = record {
  config = config;
  fit = record {
    interface_areas = ap (list_any (λ (x : ℕ × Interface). is_none (place_of b.config.areas (scope.Area x.1.area)))) interfaces;
    lsa_areas = ap (list_any (λ (x : Scope × Lsa). is_none (place_of b.config.areas x.0))) lsas;
    scopes = ap (list_any (λ (x : Scope × Lsa). is_out_of_scope x.0 x.1.header.kind)) lsas;
    areas_full =
        ap (λ (ls : List (Scope × Lsa)). list_any (λ (a : AreaConfig). nat_lt standard_limits.area_lsas (length (lsas_under ls (scope.Area a.id)))) b.config.areas) lsas
        ∙ none_full b.config.areas;
    as_full = ap (λ (ls : List (Scope × Lsa)). nat_lt standard_limits.externals (length (lsas_under ls scope.As))) lsas;
    addresses = ap (has_twice is_same_address) interfaces;
  };
}

pub no_ids : AreByIds []
unfolding IsStrictlySortedBy
no_ids = tt

pub no_places : AreByPlaces []
unfolding IsStrictlySortedBy
no_places = tt

-- a base of which the header is read is in order
pub bare_ordered : (b : Base) → IsBare b → IsConfigOrdered b.config.areas → IsBaseOrdered b
bare_ordered b bare ordered = record {
  areas = ordered;
  interfaces = subst AreByIds (sym bare.interfaces) no_ids;
  lsas = subst AreByPlaces (sym bare.lsas) no_places;
}

pub bare_sound : (b : Base) → IsBare b → IsConfigOrdered b.config.areas → config_fault_of b.config ≡ None → base_fault_of standard_limits b ≡ None
bare_sound b bare ordered config = usable_to b (bare_ordered b bare ordered) (bare_usable b bare.interfaces bare.lsas config)

-- Facts of a base without a fault.
use Rattle.std.proofs.Common.{◌≡◌, ℕ, ◌+◌, ◌<◌, ◌≤◌, Bool, true, false, cond, List, [], ◌∷◌, ◌++◌, length, get_or, Option, Some, None, refl, sym, ap, subst, ◌∙◌, arith, inl, inr, length-append}
use Rattle.std.specs.Prelude.{◌==◌, ◌&&◌, nat_lt, nat_le, is_none, is_some}
use Rattle.std.specs.List.{list_any}
use Rattle.std.specs.Ordering.{eq_by_cmp, is_eq}
use Rattle.std.specs.declared.cmp.Ordering.{Ordering}
use Rattle.std.specs.declared.cmp.Ordering.TheVariants.{Less, Equal, Greater}
use Rattle.std.specs.Cmp.{tied_itself}
use Rattle.std.specs.FinMap.{find, get, insert, len, from_entries, from_entries_push, len-insert, len-empty}
use Rattle.std.proofs.lemmas.Bool.{or_parts, or_from}
use Rattle.std.proofs.lemmas.Bool.Decides.{nat_tests, eqb_tells}
use Rattle.std.proofs.lemmas.List.{map-append}
use Rattle.std.proofs.lemmas.List.Elements.{filter-append, Contains-get_or}
use Rattle.ospf_types.specs.FirstOf.{first_of}
use Rattle.ospf_types.specs.declared.config.AreaConfig.{AreaConfig}
use Rattle.ospf_types.specs.declared.config.Interface.{Interface}
use Rattle.ospf_types.specs.declared.key.Key.{Key}
use Rattle.ospf_types.specs.declared.key.Scope.{Scope}
use Rattle.ospf_types.specs.declared.key.Scope.TheVariants as scope
use Rattle.ospf_types.specs.Keys.{key_cmp}
use Rattle.ospf_types.specs.Lsa.{Lsa, key_of}
use Rattle.ospf_types.proofs.Orders.{key_total, key_exact}
use Rattle.ospf_types.specs.Configs.{config_fault_of}
use Rattle.ospf_types.specs.declared.fault.ConfigFault.{ConfigFault}
use Rattle.lsdb.specs.Databases.{Database, install_refusal_of, is_older_than, is_same_as, is_full_for}
use Rattle.lsdb.specs.declared.refusal.InstallRefusal.TheVariants as install
use Rattle.event_state.specs.declared.base.Base.{Base}
use Rattle.event_state.specs.declared.base_fault.EntryFault.{EntryFault}
use Rattle.event_state.specs.declared.base_fault.EntryFault.TheVariants as unfit
use Rattle.event_state.specs.declared.limits.Limits.{Limits}
use Rattle.event_state.specs.Bases.{is_scope, keyed, lsas_under, held_in}
use Rattle.event_state.specs.BaseFaults.{base_fault_of, after_config, after_doubled, unfit_fault, unfit_of, has_twice, is_same_id, is_same_place, is_doubled, lacks_an_area, has_misplaced, is_overfull, has_shared_address}
use Rattle.event_state.specs.States.{place_of}
use Rattle.event_state.specs.Steps.{limit_of}
use Rattle.event_state.proofs.Places.{area_at, no_area}
use Rattle.event_state.proofs.Twice.{none_passes}

-- no test of the table holds
pub record IsFaultless (limits : Limits) (b : Base) : Type 0 where
  pub config : config_fault_of b.config ≡ None
  pub ids : has_twice is_same_id b.interfaces ≡ false
  pub places : has_twice is_same_place b.lsas ≡ false
  pub areas : list_any (λ x. is_none (place_of b.config.areas (scope.Area x.1.area))) b.interfaces ≡ false
  pub scopes : list_any (λ x. is_none (place_of b.config.areas x.0)) b.lsas ≡ false
  pub placed : has_misplaced b ≡ false
  pub room : list_any (λ (a : AreaConfig). nat_lt limits.area_lsas (length (lsas_under b.lsas (scope.Area a.id)))) b.config.areas ≡ false
  pub externals : nat_lt limits.externals (length (lsas_under b.lsas scope.As)) ≡ false
  pub addresses : has_shared_address b ≡ false

parts_of : (o : Option ConfigFault) (doubled : Bool) (u : Option EntryFault) → after_config o (after_doubled doubled (unfit_fault u)) ≡ None → (o ≡ None) × (doubled ≡ false) × (u ≡ None)
parts_of (Some f) doubled u e = absurd cc
parts_of None true u e = absurd cc
parts_of None false (Some u) e = absurd cc
parts_of None false None e = (refl, refl, refl)

-- where the configuration has no fault and nothing is listed twice, a fault is one that no
-- event could have made
pub only_unfit : (limits : Limits) (b : Base) → config_fault_of b.config ≡ None → is_doubled b ≡ false → unfit_fault (unfit_of limits b) ≡ base_fault_of limits b
only_unfit limits b sound once = λ i. after_config (sym sound i) (after_doubled (sym once i) (unfit_fault (unfit_of limits b)))

passed : {X : Type 0} (test : Bool) (x : X) (rest : List (Bool × X)) → first_of ((test, x) ∷ rest) ≡ None → (test ≡ false) × (first_of rest ≡ None)
passed true x rest e = absurd cc
passed false x rest e = (refl, e)

pub faultless : (limits : Limits) (b : Base) → base_fault_of limits b ≡ None → IsFaultless limits b
faultless limits b none =
    let parts = parts_of (config_fault_of b.config) (is_doubled b) (unfit_of limits b) none in
    let twice = or_parts (has_twice is_same_id b.interfaces) (has_twice is_same_place b.lsas) parts.1 in
    let outside = passed (lacks_an_area b) unfit.NoArea ((has_misplaced b, unfit.Scope) ∷ (is_overfull limits b, unfit.Full) ∷ (has_shared_address b, unfit.AddressTaken) ∷ []) parts.2 in
    let misplaced = passed (has_misplaced b) unfit.Scope ((is_overfull limits b, unfit.Full) ∷ (has_shared_address b, unfit.AddressTaken) ∷ []) outside.1 in
    let full = passed (is_overfull limits b) unfit.Full ((has_shared_address b, unfit.AddressTaken) ∷ []) misplaced.1 in
    let shared = passed (has_shared_address b) unfit.AddressTaken [] full.1 in
    let areas = or_parts (list_any (λ (x : ℕ × Interface). is_none (place_of b.config.areas (scope.Area x.1.area))) b.interfaces) (list_any (λ (x : Scope × Lsa). is_none (place_of b.config.areas x.0)) b.lsas) outside.0 in
    let room = or_parts (list_any (λ (a : AreaConfig). nat_lt limits.area_lsas (length (lsas_under b.lsas (scope.Area a.id)))) b.config.areas) (nat_lt limits.externals (length (lsas_under b.lsas scope.As))) full.0 in
    record { config = parts.0; ids = twice.0; places = twice.1; areas = areas.0; scopes = areas.1; placed = misplaced.0; room = room.0; externals = room.1; addresses = shared.0 }

-- and where no test of the table holds, there is no fault
pub no_fault : (limits : Limits) (b : Base) → IsFaultless limits b → base_fault_of limits b ≡ None
no_fault limits b h =
    let doubled : is_doubled b ≡ false = or_from (has_twice is_same_id b.interfaces) (has_twice is_same_place b.lsas) h.ids h.places in
    let outside : lacks_an_area b ≡ false = or_from (list_any (λ (x : ℕ × Interface). is_none (place_of b.config.areas (scope.Area x.1.area))) b.interfaces) (list_any (λ (x : Scope × Lsa). is_none (place_of b.config.areas x.0)) b.lsas) h.areas h.scopes in
    let full : is_overfull limits b ≡ false = or_from (list_any (λ (a : AreaConfig). nat_lt limits.area_lsas (length (lsas_under b.lsas (scope.Area a.id)))) b.config.areas) (nat_lt limits.externals (length (lsas_under b.lsas scope.As))) h.room h.externals in
    (λ i. after_config (h.config i) (after_doubled (doubled i) (unfit_fault (first_of ((outside i, unfit.NoArea) ∷ (h.placed i, unfit.Scope) ∷ (full i, unfit.Full) ∷ (h.addresses i, unfit.AddressTaken) ∷ [])))))

-- ---- scopes and keys

pub is_same_scope : (at : Scope) → is_scope at at ≡ true
is_same_scope (scope.Area a) = grind (arith, nat_tests)
is_same_scope scope.As = refl

same_number : (a b : ℕ) → (a == b) ≡ true → a ≡ b
same_number a b h = elim (eqb_tells a b) [ inl t ↦ t.1 | inr t ↦ absurd cc ]

pub same_scope : (a b : Scope) → is_scope a b ≡ true → a ≡ b
same_scope (scope.Area a) (scope.Area b) e = ap scope.Area (same_number a b e)
same_scope (scope.Area a) scope.As e = absurd cc
same_scope scope.As (scope.Area b) e = absurd cc
same_scope scope.As scope.As e = refl

key_itself : (k : Key) → eq_by_cmp key_cmp k k ≡ true
key_itself k = ap is_eq (tied_itself key_total k)

same_key : (j k : Key) → eq_by_cmp key_cmp j k ≡ true → j ≡ k
same_key j k e = key_exact j k (tied (key_cmp j k) e)
  where
    tied : (o : Ordering) → is_eq o ≡ true → o ≡ Equal
    tied Less e = absurd cc
    tied Equal e = refl
    tied Greater e = absurd cc

same_place_itself : (x : Scope × Lsa) → is_same_place x x ≡ true
same_place_itself x = λ i. is_same_scope x.0 i && key_itself (key_of x.1) i

-- ---- what is found in the LSAs of a scope

-- where no LSA has the scope and the key, none is found
pub not_found : (xs : List (Scope × Lsa)) (at : Scope) (l : Lsa) → list_any (λ y. is_same_place y (at, l)) xs ≡ false → find key_cmp (key_of l) (keyed (lsas_under xs at)) ≡ None
not_found [] at l none = refl
not_found (y ∷ xs) at l none =
    let parts = or_parts (is_same_place y (at, l)) (list_any (λ z. is_same_place z (at, l)) xs) none in
    let rest = not_found xs at l parts.1 in
    elim (is_scope at y.0) as (λ b. is_scope at y.0 ≡ b → find key_cmp (key_of l) (keyed (cond b (y ∷ lsas_under xs at) (lsas_under xs at))) ≡ None) [
      | false ↦ λ e. rest
      | true ↦ λ e. elim (eq_by_cmp key_cmp (key_of l) (key_of y.1)) as (λ b. eq_by_cmp key_cmp (key_of l) (key_of y.1) ≡ b → cond b (Some y.1) (find key_cmp (key_of l) (keyed (lsas_under xs at))) ≡ None) [
        | false ↦ λ f. rest
        | true ↦ λ f.
            let here : is_same_place y (at, l) ≡ true =
            (λ i. is_scope y.0 (same_scope at y.0 e i) && eq_by_cmp key_cmp (key_of y.1) (same_key (key_of l) (key_of y.1) f i)) ∙ same_place_itself y in
            absurd (let wrong : true ≡ false = sym here ∙ parts.0 in cc)
      ] refl
    ] refl

pub under_append : (xs ys : List (Scope × Lsa)) (at : Scope) → lsas_under (xs ++ ys) at ≡ lsas_under xs at ++ lsas_under ys at
under_append xs ys at = filter-append (λ (x : Scope × Lsa). is_scope at x.0) xs ys

-- one more LSA of the scope, under a new key
pub held_push : (xs : List (Scope × Lsa)) (at : Scope) (l : Lsa) → find key_cmp (key_of l) (keyed (lsas_under xs at)) ≡ None → held_in (xs ++ (at, l) ∷ []) at ≡ insert (held_in xs at) (key_of l) l
held_push xs at l none =
    let one : lsas_under ((at, l) ∷ []) at ≡ (at, l) ∷ [] = ap (λ (b : Bool). let none : List (Scope × Lsa) = [] in cond b ((at, l) ∷ none) none) (is_same_scope at) in
    ap from_entries (ap keyed (under_append xs ((at, l) ∷ []) at ∙ ap (λ (ys : List (Scope × Lsa)). lsas_under xs at ++ ys) one) ∙ map-append (λ (x : Scope × Lsa). (key_of x.1, x.1)) (lsas_under xs at) ((at, l) ∷ []))
    ∙ from_entries_push key_total key_exact (keyed (lsas_under xs at)) (key_of l) l none

-- and of another scope
pub held_past : (xs : List (Scope × Lsa)) (at other : Scope) (l : Lsa) → is_scope at other ≡ false → held_in (xs ++ (other, l) ∷ []) at ≡ held_in xs at
held_past xs at other l apart =
    let none : lsas_under ((other, l) ∷ []) at ≡ [] = ap (λ (b : Bool). let none : List (Scope × Lsa) = [] in cond b ((other, l) ∷ none) none) apart in
    ap (λ (ys : List (Scope × Lsa)). from_entries (keyed ys)) (under_append xs ((other, l) ∷ []) at ∙ ap (λ (ys : List (Scope × Lsa)). lsas_under xs at ++ ys) none ∙ append_none (lsas_under xs at))
  where
    append_none : {X : Type 0} (ys : List X) → ys ++ [] ≡ ys
    append_none [] = refl
    append_none (y ∷ ys) = ap (λ zs. y ∷ zs) (append_none ys)

-- ---- how many there are

more_or_less : (b : Bool) (n m : ℕ) → n ≤ m → cond b n (n + 1) ≤ m + 1
more_or_less true n m le = omega (arith, le)
more_or_less false n m le = omega (arith, le)

pub few_entries : (es : List (Key × Lsa)) → len (from_entries {R = key_cmp} es) ≤ length es
few_entries [] = omega (arith, len-empty key_cmp Lsa)
few_entries (e ∷ es) =
    let more : len (insert (from_entries {R = key_cmp} es) e.0 e.1) ≤ length es + 1 =
    subst (λ (n : ℕ). n ≤ length es + 1) (sym (len-insert key_total (from_entries es) e.0 e.1)) (more_or_less (is_some (get (from_entries {R = key_cmp} es) e.0)) (len (from_entries {R = key_cmp} es)) (length es) (few_entries es)) in
    omega (arith, more)

pub length_keyed : (xs : List (Scope × Lsa)) → length (keyed xs) ≡ length xs
length_keyed [] = refl
length_keyed (x ∷ xs) = omega (arith, length_keyed xs)

at_most : (m n : ℕ) → nat_lt m n ≡ false → n ≤ m
at_most m n e = grind (arith, nat_tests)

below : (n m : ℕ) → n < m → nat_le m n ≡ false
below n m lt = grind (arith, nat_tests)

-- an LSA in its place has fewer of its scope before it than the scope has
pub fewer_before : (xs ys : List (Scope × Lsa)) (x : Scope × Lsa) → length (lsas_under xs x.0) < length (lsas_under (xs ++ x ∷ ys) x.0)
fewer_before xs ys x =
    let here : lsas_under (x ∷ ys) x.0 ≡ x ∷ lsas_under ys x.0 = ap (λ (b : Bool). cond b (x ∷ lsas_under ys x.0) (lsas_under ys x.0)) (is_same_scope x.0) in
    omega (arith, ap length (under_append xs (x ∷ ys) x.0), length-append (lsas_under xs x.0) (lsas_under (x ∷ ys) x.0), ap length here)

refused_by_none : (a b c : Bool) → a ≡ false → b ≡ false → c ≡ false → first_of ((a, install.Older) ∷ (b, install.Same) ∷ (c, install.Full) ∷ []) ≡ None
refused_by_none true b c e f g = absurd cc
refused_by_none false true c e f g = absurd cc
refused_by_none false false true e f g = absurd cc
refused_by_none false false false e f g = refl

no_held : (l : Lsa) (o : Option Lsa) → o ≡ None → (is_older_than l o ≡ false) × (is_same_as l o ≡ false)
no_held l o e = (ap (is_older_than l) e, ap (is_same_as l) e)

-- an LSA under a new key is not refused where there is room
pub not_refused : (d : Database) (limit : ℕ) (l : Lsa) → get d (key_of l) ≡ None → len d < limit → install_refusal_of d limit l ≡ None
not_refused d limit l none room =
    let held = no_held l (get d (key_of l)) none in
    refused_by_none (is_older_than l (get d (key_of l))) (is_same_as l (get d (key_of l))) (is_full_for d limit l) held.0 held.1
    (λ i. is_none (none i) && below (len d) limit room i)

-- ---- each of its LSAs fits in the database of those before

module _ (limits : Limits) (b : Base) (h : IsFaultless limits b) where
  -- no scope has more than it may
  pub within_limit : (at : Scope) (k : ℕ) → place_of b.config.areas at ≡ Some k → length (lsas_under b.lsas at) ≤ limit_of limits at
  within_limit (scope.Area id) k place =
      let found = area_at b.config.areas id k place in
      let fails = none_passes (λ (a : AreaConfig). nat_lt limits.area_lsas (length (lsas_under b.lsas (scope.Area a.id)))) b.config.areas (get_or b.config.areas k no_area) h.room (Contains-get_or b.config.areas k no_area found.0) in
      subst (λ (n : ℕ). length (lsas_under b.lsas (scope.Area n)) ≤ limits.area_lsas) found.1 (at_most limits.area_lsas (length (lsas_under b.lsas (scope.Area (get_or b.config.areas k no_area).id))) fails)
  within_limit scope.As k place = at_most limits.externals (length (lsas_under b.lsas scope.As)) h.externals

-- The lines of a base that has no fault are taken, one after the other.
use Rattle.std.proofs.Common.{ℕ, ◌≡◌, ◌+◌, ◌==◌, ◌++◌, Bool, true, false, cond, nat_lt, nat_le, List, [], ◌∷◌, length, Option, Some, None, Ordering, refl, sym, ap, subst, ◌∙◌, arith, eqb-true, length-append}
use Rattle.std.specs.Prelude.{◌||◌, filter, is_none, not}
use Rattle.std.specs.List.{list_any, position_from}
use Rattle.std.specs.Ordering.{nat_cmp, ordering_reverse, ordering_then}
use Rattle.std.specs.declared.cmp.Ordering.TheVariants.{Less, Equal, Greater}
use Rattle.std.proofs.lemmas.Bool.{and_from, or_parts}
use Rattle.std.proofs.lemmas.Bool.Decides.{nat_tests}
use Rattle.std.proofs.lemmas.List.Elements.{filter-append}
use Rattle.std.proofs.lemmas.Iterator.Adapters.{position_from-zero}
use Rattle.std.proofs.lemmas.List.Folds.{list_any-append}
use Rattle.ospf_types.specs.FirstOf.{first_of}
use Rattle.ospf_types.specs.declared.config.AreaConfig.{AreaConfig}
use Rattle.ospf_types.specs.declared.config.Interface.{Interface}
use Rattle.ospf_types.specs.declared.key.Scope.{Scope}
use Rattle.ospf_types.specs.declared.key.Scope.TheVariants as scope
use Rattle.ospf_types.specs.Keys.{key_cmp, scope_cmp}
use Rattle.ospf_types.specs.Lsa.{Lsa, key_of}
use Rattle.ospf_types.proofs.Orders.{scope_total}
use Rattle.lsa_codec.specs.Decoding.{lsa_of}
use Rattle.lsa_codec.specs.Spelling.{spelling}
use Rattle.event_state.specs.declared.base.Base.{Base}
use Rattle.event_state.specs.declared.base_fault.EntryFault.TheVariants as unfit
use Rattle.event_state.specs.Bases.{is_scope, lsas_under}
use Rattle.event_state.specs.BaseFaults.{has_twice, is_same_address}
use Rattle.event_state.specs.States.{place_of}
use Rattle.event_state.specs.Steps.{is_out_of_scope, standard_limits}
use Rattle.recording.specs.Places.{based, is_less, is_next, is_past_id, is_past_place, is_past_scope, last_of, lsa_place, most_in, place_cmp, unfit_interface, unfit_lsa}
use Rattle.recording.specs.Recordings.{AreByIds, AreByPlaces, IsBaseOrdered, interface_form, lsa_form}
use Rattle.recording.proofs.Areas.{nat_of_less}
use Rattle.recording.proofs.BaseSound.{IsFit, scope_itself}
use Rattle.recording.proofs.Sorting.{sorted_next_by}

-- ---- one of a list

any_at : {X : Type 0} (p : X → Bool) (xs : List X) (x : X) (ys : List X) → list_any p (xs ++ x ∷ ys) ≡ false → p x ≡ false
any_at p xs x ys none =
    let two = or_parts (list_any p xs) (list_any p (x ∷ ys)) (sym (list_any-append p xs (x ∷ ys)) ∙ none) in
    (or_parts (p x) (list_any p ys) two.1).0

none_before : {X : Type 0} (same : X → X → Bool) (xs : List X) (x : X) (ys : List X) → has_twice same (xs ++ x ∷ ys) ≡ false → list_any (λ y. same y x) xs ≡ false
none_before same [] x ys none = refl
none_before same (y ∷ xs) x ys none =
    let two = or_parts (list_any (same y) (xs ++ x ∷ ys)) (has_twice same (xs ++ x ∷ ys)) none in
    ap (λ (b : Bool). b || list_any (λ z. same z x) xs) (any_at (same y) xs x ys two.0) ∙ none_before same xs x ys two.1

two_none : {X : Type 0} (a b : Bool) (p q : X) → a ≡ false → b ≡ false → first_of ((a, p) ∷ (b, q) ∷ []) ≡ None
two_none a b p q one two = rw (one, two) refl

three_none : {X : Type 0} (a b c : Bool) (p q r : X) → a ≡ false → b ≡ false → c ≡ false → first_of ((a, p) ∷ (b, q) ∷ (c, r) ∷ []) ≡ None
three_none a b c p q r one two three = rw (one, two, three) refl

-- ---- what fits in a base that fits

pub interface_fitted : (b : Base) → IsFit b → (xs : List (ℕ × Interface)) (x : ℕ × Interface) (ys : List (ℕ × Interface)) → b.interfaces ≡ xs ++ x ∷ ys → unfit_interface b.config.areas xs x.1 ≡ None
interface_fitted b fit xs x ys is =
    let area : ℕ × Interface → Bool = λ y. is_none (place_of b.config.areas (scope.Area y.1.area)) in
    two_none (area x) (list_any (λ y. is_same_address y x) xs) unfit.NoArea unfit.AddressTaken
    (any_at area xs x ys (subst (λ (t : List (ℕ × Interface)). list_any area t ≡ false) is fit.interface_areas))
    (none_before is_same_address xs x ys (subst (λ (t : List (ℕ × Interface)). has_twice is_same_address t ≡ false) is fit.addresses))

found_from : (areas : List AreaConfig) (id k : ℕ) (q : ℕ → Bool) → is_none (position_from (λ (a : AreaConfig). a.id == id) k areas) ≡ false → list_any (λ (a : AreaConfig). q a.id) areas ≡ false → q id ≡ false
found_from [] id k q some none = cc
found_from (a ∷ areas) id k q some none =
    let two = or_parts (q a.id) (list_any (λ (x : AreaConfig). q x.id) areas) none in
    elim (a.id == id) as (λ b. (a.id == id) ≡ b → is_none (cond b (Some k) (position_from (λ (x : AreaConfig). x.id == id) (k + 1) areas)) ≡ false → q id ≡ false) [
      | true ↦ λ here s. subst (λ i. q i ≡ false) (eqb-true a.id id here) two.0
      | false ↦ λ other s. found_from areas id (k + 1) q s two.1
    ] refl some

found_area : (areas : List AreaConfig) (id : ℕ) (q : ℕ → Bool) → is_none (place_of areas (scope.Area id)) ≡ false → list_any (λ (a : AreaConfig). q a.id) areas ≡ false → q id ≡ false
found_area areas id q some none = found_from areas id 0 q (ap is_none (sym (position_from-zero (λ (a : AreaConfig). a.id == id) areas)) ∙ some) none

counted_here : (lsas : List (Scope × Lsa)) (x : Scope × Lsa) (rest : List (Scope × Lsa)) → length (lsas_under (lsas ++ x ∷ rest) x.0) ≡ length (lsas_under lsas x.0) + (length (lsas_under rest x.0) + 1)
counted_here lsas x rest =
    let p : Scope × Lsa → Bool = λ y. is_scope x.0 y.0 in
    let more : length (filter p (x ∷ rest)) ≡ length (lsas_under rest x.0) + 1 = ap (λ (b : Bool). length (cond b (x ∷ filter p rest) (filter p rest))) (scope_itself x.0) ∙ (omega arith) in
    ap length (filter-append p lsas (x ∷ rest)) ∙ length-append (filter p lsas) (filter p (x ∷ rest)) ∙ ap (λ (n : ℕ). length (lsas_under lsas x.0) + n) more

room_there : (n m limit : ℕ) → nat_lt limit (n + (m + 1)) ≡ false → nat_le limit n ≡ false
room_there n m limit fits = grind (arith, nat_tests)

within_limit : (b : Base) → IsFit b → (at : Scope) → is_none (place_of b.config.areas at) ≡ false → nat_lt (most_in standard_limits at) (length (lsas_under b.lsas at)) ≡ false
within_limit b fit (scope.Area id) some = found_area b.config.areas id (λ i. nat_lt standard_limits.area_lsas (length (lsas_under b.lsas (scope.Area i)))) some fit.areas_full
within_limit b fit scope.As some = fit.as_full

pub lsa_fitted : (b : Base) → IsFit b → (xs : List (Scope × Lsa)) (x : Scope × Lsa) (ys : List (Scope × Lsa)) → b.lsas ≡ xs ++ x ∷ ys → unfit_lsa b.config.areas xs x ≡ None
lsa_fitted b fit xs x ys is =
    let area : Scope × Lsa → Bool = λ y. is_none (place_of b.config.areas y.0) in
    let other : Scope × Lsa → Bool = λ y. is_out_of_scope y.0 y.1.header.kind in
    let limit : ℕ = most_in standard_limits x.0 in
    let known : area x ≡ false = any_at area xs x ys (subst (λ (t : List (Scope × Lsa)). list_any area t ≡ false) is fit.lsa_areas) in
    let fits : nat_lt limit (length (lsas_under xs x.0) + (length (lsas_under ys x.0) + 1)) ≡ false =
    ap (nat_lt limit) (sym (counted_here xs x ys)) ∙ ap (λ (t : List (Scope × Lsa)). nat_lt limit (length (lsas_under t x.0))) (sym is) ∙ within_limit b fit x.0 known in
    three_none (area x) (other x) (nat_le limit (length (lsas_under xs x.0))) unfit.NoArea unfit.Scope unfit.Full
    known
    (any_at other xs x ys (subst (λ (t : List (Scope × Lsa)). list_any other t ≡ false) is fit.scopes))
    (room_there (length (lsas_under xs x.0)) (length (lsas_under ys x.0)) limit fits)

-- ---- what is next in a base in order

id_past : (o : Option (ℕ × Interface)) (id : ℕ) → ((x : ℕ × Interface) → o ≡ Some x → nat_cmp x.0 id ≡ Less) → is_past_id o id ≡ true
id_past None id less = refl
id_past (Some x) id less = nat_of_less x.0 id (nat_lt x.0 id) refl (less x refl)

greater_first : (o k : Ordering) → o ≡ Greater → ordering_then o k ≡ Less → ⊥
greater_first Greater k e less = cc
greater_first Less k e less = cc
greater_first Equal k e less = cc

pub interface_next : (b : Base) → IsBaseOrdered b → (xs : List (ℕ × Interface)) (x : ℕ × Interface) (ys : List (ℕ × Interface)) → b.interfaces ≡ xs ++ x ∷ ys
    → is_next (based (record { config = b.config; serial = b.serial; interfaces = xs; lsas = [] })) (interface_form x) ≡ true
interface_next b ordered xs x ys is =
    id_past (last_of xs) x.0 (sorted_next_by nat_cmp (λ (y : ℕ × Interface). y.0) xs x ys (subst AreByIds is ordered.interfaces))

place_past : (o : Option (Scope × Lsa)) (x : Scope × Lsa) → ((y : Scope × Lsa) → o ≡ Some y → place_cmp (lsa_place y) (lsa_place x) ≡ Less) → is_past_place o (lsa_place x) ≡ true
place_past None x less = refl
place_past (Some y) x less = ap is_less (less y refl)

not_less_back : (o k p : Ordering) → o ≡ ordering_reverse p → ordering_then o k ≡ Less → not (is_less p) ≡ true
not_less_back o k Equal back less = refl
not_less_back o k Greater back less = refl
not_less_back o k Less back less = absurd (greater_first o k back less)

scope_past : (o : Option (Scope × Lsa)) (x : Scope × Lsa) → ((y : Scope × Lsa) → o ≡ Some y → place_cmp (lsa_place y) (lsa_place x) ≡ Less) → is_past_scope o x.0 ≡ true
scope_past None x less = refl
scope_past (Some y) x less = not_less_back (scope_cmp y.0 x.0) (key_cmp (key_of y.1) (key_of x.1)) (scope_cmp x.0 y.0) (scope_total.antisymm y.0 x.0) (less y refl)

either_is : (a b : Bool) → b ≡ true → (a || b) ≡ true
either_is true b is = refl
either_is false b is = is

pub lsa_next : (b : Base) → IsBaseOrdered b → (xs : List (Scope × Lsa)) (x : Scope × Lsa) (ys : List (Scope × Lsa)) → b.lsas ≡ xs ++ x ∷ ys → lsa_of (spelling x.1) ≡ x.1
    → is_next (based (record { config = b.config; serial = b.serial; interfaces = b.interfaces; lsas = xs })) (lsa_form x) ≡ true
lsa_next b ordered xs x ys is again =
    let less = sorted_next_by place_cmp lsa_place xs x ys (subst AreByPlaces is ordered.lsas) in
    let past : is_past_place (last_of xs) (lsa_place (x.0, lsa_of (spelling x.1))) ≡ true = ap (λ (l : Lsa). is_past_place (last_of xs) (lsa_place (x.0, l))) again ∙ place_past (last_of xs) x less in
    and_from _ _ (scope_past (last_of xs) x less) (either_is _ _ past)

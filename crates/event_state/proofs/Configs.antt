-- Facts of a configuration without a fault.
use Rattle.std.proofs.Common.{◌≡◌, ◌≢◌, ℕ, zero, suc, ◌<◌, ◌≤◌, Bool, true, false, List, [], ◌∷◌, length, get_or, None, refl, sym, arith, inl, inr}
use Rattle.std.specs.Prelude.{◌==◌, ◌||◌, nat_lt}
use Rattle.std.specs.List.{list_any}
use Rattle.std.proofs.lemmas.Bool.Decides.{eqb_tells, nat_tests}
use Rattle.ospf_types.specs.declared.config.Config.{Config}
use Rattle.ospf_types.specs.declared.config.AreaConfig.{AreaConfig}
use Rattle.ospf_types.specs.declared.fault.ConfigFault.{ConfigFault}
use Rattle.ospf_types.specs.declared.fault.ConfigFault.TheVariants as fault
use Rattle.ospf_types.specs.FirstOf.{first_of}
use Rattle.event_state.specs.States.{AreAreasApart}
use Rattle.ospf_types.specs.Configs.{config_fault_of, has_alike, has_overlap, has_wrong_areas, is_costly, is_stub_backbone}

-- where no line of the table holds, its first does not
first_false : (a : Bool) (x : ConfigFault) (more : List (Bool × ConfigFault)) → first_of ((a, x) ∷ more) ≡ None → a ≡ false
first_false true x more e = absurd cc
first_false false x more e = refl

no_wrong_areas : (config : Config) → config_fault_of config ≡ None → has_wrong_areas config.areas ≡ false
no_wrong_areas config e = first_false (has_wrong_areas config.areas) fault.Areas (
    (list_any (λ a. has_overlap a.ranges) config.areas, fault.RangesOverlap)
    ∷ (list_any is_stub_backbone config.areas, fault.BackboneStub)
    ∷ (list_any (λ a. is_costly a.stub) config.areas, fault.Cost)
    ∷ (list_any (λ a. nat_lt 32 (length a.ranges)) config.areas, fault.RangeCount)
    ∷ []) e

left_false : (a b : Bool) → (a || b) ≡ false → (a ≡ false) × (b ≡ false)
left_false true b e = absurd cc
left_false false b e = (refl, e)

-- no item passes a test that none of the list does
fails_at : {X : Type 0} (p : X → Bool) (xs : List X) (k : ℕ) (d : X) → list_any p xs ≡ false → k < length xs → p (get_or xs k d) ≡ false
fails_at p [] k d e lt = absurd (omega arith)
fails_at p (x ∷ xs) zero d e lt = (left_false (p x) (list_any p xs) e).0
fails_at p (x ∷ xs) (suc k) d e lt = fails_at p xs k d (left_false (p x) (list_any p xs) e).1 (omega arith)

differs : (x y : ℕ) → (x == y) ≡ false → x ≢ y
differs x y e same = elim (eqb_tells x y) [ inl t ↦ absurd (cc t.0) | inr t ↦ absurd (t.1 same) ]

apart_from_alike : (areas : List AreaConfig) → has_alike areas ≡ false → AreAreasApart areas
apart_from_alike [] e i j d lt in' = absurd (omega arith)
apart_from_alike (a ∷ areas) e zero zero d lt in' = absurd (omega arith)
apart_from_alike (a ∷ areas) e zero (suc j) d lt in' =
    let h = left_false (list_any (λ (b : AreaConfig). b.id == a.id) areas) (has_alike areas) e in
    λ same. differs (get_or areas j d).id a.id (fails_at (λ (b : AreaConfig). b.id == a.id) areas j d h.0 (omega arith)) (sym same)
apart_from_alike (a ∷ areas) e (suc i) zero d lt in' = absurd (omega arith)
apart_from_alike (a ∷ areas) e (suc i) (suc j) d lt in' =
    let h = left_false (list_any (λ (b : AreaConfig). b.id == a.id) areas) (has_alike areas) e in
    apart_from_alike areas h.1 i j d (omega arith) (omega arith)

-- no two areas have one Area ID
pub sound_apart : (config : Config) → config_fault_of config ≡ None → AreAreasApart config.areas
sound_apart config e =
    let h = left_false (length config.areas == 0) (nat_lt 16 (length config.areas) || has_alike config.areas) (no_wrong_areas config e) in
    apart_from_alike config.areas (left_false (nat_lt 16 (length config.areas)) (has_alike config.areas) h.1).1

at_most : (m n : ℕ) → nat_lt m n ≡ false → n ≤ m
at_most m n e = grind (arith, nat_tests)

-- and there are at most 16 of them
pub sound_few : (config : Config) → config_fault_of config ≡ None → length config.areas ≤ 16
sound_few config e =
    let h = left_false (length config.areas == 0) (nat_lt 16 (length config.areas) || has_alike config.areas) (no_wrong_areas config e) in
    at_most 16 (length config.areas) (left_false (nat_lt 16 (length config.areas)) (has_alike config.areas) h.1).0

-- Where the ranges of an area change, the areas have no fault that they did not have before.
use Rattle.std.proofs.Common.{◌≡◌, ℕ, ◌+◌, ◌≤◌, Bool, true, false, cond, List, [], ◌∷◌, length, None, refl, sym, ap, subst, ◌∙◌, arith, inl, inr}
use Rattle.std.specs.Prelude.{◌==◌, ◌&&◌, ◌||◌, not, nat_lt, nat_le}
use Rattle.std.specs.List.{list_any}
use Rattle.std.proofs.lemmas.Bool.{or_parts, or_from}
use Rattle.std.proofs.lemmas.Bool.Decides.{eqb_tells, nat_tests}
use Rattle.ospf_types.specs.FirstOf.{first_of}
use Rattle.ospf_types.specs.declared.config.AreaConfig.{AreaConfig}
use Rattle.ospf_types.specs.declared.config.Range.{Range}
use Rattle.ospf_types.specs.declared.prefix.Prefix.{Prefix}
use Rattle.ospf_types.specs.RangeChanges.{has_range, set_range, drop_range, with_others, with_ranges, areas_without_ranges}
use Rattle.ospf_types.proofs.RangeChanges.{others_kept}
use Rattle.ospf_types.specs.Configs.{areas_fault_of, has_alike, has_wrong_areas, has_overlap, is_stub_backbone, is_costly}
use Rattle.ospf_types.specs.declared.fault.ConfigFault.TheVariants as fault
use Rattle.ospf_types.specs.Overlaps.{overlaps_another}
use Rattle.ospf_types.proofs.RangeFaults.{overlap_set, overlap_dropped, long_set, long_dropped}
use Rattle.event_state.specs.RangeEvents.{most_ranges, ranges_of, is_one_too_many}
use Rattle.event_state.proofs.SamePlaces.{long_same}

-- ---- the table of faults

pub record HaveNoFault (areas : List AreaConfig) : Type 0 where
  pub wrong : has_wrong_areas areas ≡ false
  pub overlap : list_any (λ a. has_overlap a.ranges) areas ≡ false
  pub backbone : list_any is_stub_backbone areas ≡ false
  pub costly : list_any (λ a. is_costly a.stub) areas ≡ false
  pub crowded : list_any (λ a. nat_lt 32 (length a.ranges)) areas ≡ false

passed : {X : Type 0} (test : Bool) (x : X) (rest : List (Bool × X)) → first_of ((test, x) ∷ rest) ≡ None → (test ≡ false) × (first_of rest ≡ None)
passed true x rest e = absurd cc
passed false x rest e = (refl, e)

no_fault_parts : (areas : List AreaConfig) → areas_fault_of areas ≡ None → HaveNoFault areas
no_fault_parts areas none =
    let crowded = (list_any (λ (a : AreaConfig). nat_lt 32 (length a.ranges)) areas, fault.RangeCount) ∷ [] in
    let costly = (list_any (λ (a : AreaConfig). is_costly a.stub) areas, fault.Cost) ∷ crowded in
    let backbone = (list_any is_stub_backbone areas, fault.BackboneStub) ∷ costly in
    let overlap = (list_any (λ (a : AreaConfig). has_overlap a.ranges) areas, fault.RangesOverlap) ∷ backbone in
    let first = passed (has_wrong_areas areas) fault.Areas overlap none in
    let second = passed (list_any (λ (a : AreaConfig). has_overlap a.ranges) areas) fault.RangesOverlap backbone first.1 in
    let third = passed (list_any is_stub_backbone areas) fault.BackboneStub costly second.1 in
    let fourth = passed (list_any (λ (a : AreaConfig). is_costly a.stub) areas) fault.Cost crowded third.1 in
    let fifth = passed (list_any (λ (a : AreaConfig). nat_lt 32 (length a.ranges)) areas) fault.RangeCount [] fourth.1 in
    record { wrong = first.0; overlap = second.0; backbone = third.0; costly = fourth.0; crowded = fifth.0 }

no_fault_from : (areas : List AreaConfig) → HaveNoFault areas → areas_fault_of areas ≡ None
no_fault_from areas h = λ i. first_of ((h.wrong i, fault.Areas) ∷ (h.overlap i, fault.RangesOverlap) ∷ (h.backbone i, fault.BackboneStub) ∷ (h.costly i, fault.Cost) ∷ (h.crowded i, fault.RangeCount) ∷ [])

-- ---- what does not rest on ranges

any_bare : (test : AreaConfig → Bool) → ((a : AreaConfig) → test (with_others a []) ≡ test a) → (areas : List AreaConfig) → list_any test (areas_without_ranges areas) ≡ list_any test areas
any_bare test same [] = refl
any_bare test same (a ∷ areas) = λ i. same a i || any_bare test same areas i

any_same : (test : AreaConfig → Bool) → ((a : AreaConfig) → test (with_others a []) ≡ test a) → (areas others : List AreaConfig) → areas_without_ranges areas ≡ areas_without_ranges others → list_any test areas ≡ list_any test others
any_same test alike areas others same = sym (any_bare test alike areas) ∙ ap (list_any test) same ∙ any_bare test alike others

alike_bare : (areas : List AreaConfig) → has_alike (areas_without_ranges areas) ≡ has_alike areas
alike_bare [] = refl
alike_bare (a ∷ areas) = λ i. any_bare (λ (b : AreaConfig). b.id == a.id) (λ b. refl) areas i || alike_bare areas i

wrong_same : (areas others : List AreaConfig) → areas_without_ranges areas ≡ areas_without_ranges others → has_wrong_areas areas ≡ has_wrong_areas others
wrong_same areas others same =
    let long = long_same areas others same in
    let alike : has_alike areas ≡ has_alike others = sym (alike_bare areas) ∙ ap has_alike same ∙ alike_bare others in
    λ i. (long i == 0) || (nat_lt 16 (long i) || alike i)

-- ---- what rests on the ranges of each area

same_number : (x y : ℕ) → (x == y) ≡ true → x ≡ y
same_number x y h = elim (eqb_tells x y) [ inl t ↦ t.1 | inr t ↦ absurd cc ]

module _ (test : List Range → Bool) (id : ℕ) (change : List Range → List Range) where
  none_else : (areas : List AreaConfig) → list_any (λ a. a.id == id) areas ≡ false → with_ranges areas id change ≡ areas
  none_else [] none = refl
  none_else (a ∷ areas) none =
      let parts = or_parts (a.id == id) (list_any (λ (b : AreaConfig). b.id == id) areas) none in
      λ i. cond (parts.0 i) (with_others a (change a.ranges)) a ∷ none_else areas parts.1 i

  still_none : (areas : List AreaConfig) → has_alike areas ≡ false → (test (ranges_of areas id) ≡ false → test (change (ranges_of areas id)) ≡ false) → list_any (λ a. test a.ranges) areas ≡ false
      → list_any (λ a. test a.ranges) (with_ranges areas id change) ≡ false
  still_none [] apart keeps none = refl
  still_none (a ∷ areas) apart keeps none =
      let tests : List AreaConfig → Bool = list_any (λ (b : AreaConfig). test b.ranges) in
      let parts = or_parts (test a.ranges) (tests areas) none in
      let others = or_parts (list_any (λ (b : AreaConfig). b.id == a.id) areas) (has_alike areas) apart in
      elim (a.id == id) as (λ b. (a.id == id) ≡ b → (test (cond b a.ranges (ranges_of areas id)) ≡ false → test (change (cond b a.ranges (ranges_of areas id))) ≡ false)
      → (test (cond b (with_others a (change a.ranges)) a).ranges || tests (with_ranges areas id change)) ≡ false) [
        | true ↦ λ e here.
            let rest : with_ranges areas id change ≡ areas = none_else areas (subst (λ (n : ℕ). list_any (λ (b : AreaConfig). b.id == n) areas ≡ false) (same_number a.id id e) others.0) in
            or_from (test (change a.ranges)) (tests (with_ranges areas id change)) (here parts.0) (ap tests rest ∙ parts.1)
        | false ↦ λ e later. or_from (test a.ranges) (tests (with_ranges areas id change)) parts.0 (still_none areas others.1 later parts.1)
      ] refl keeps

-- ---- a change

at_most : (m n : ℕ) → nat_lt m n ≡ false → n ≤ m
at_most m n e = grind (arith, nat_tests)

not_above : (m n : ℕ) → n ≤ m → nat_lt m n ≡ false
not_above m n le = grind (arith, nat_tests)

sound_change : (areas : List AreaConfig) (id : ℕ) (change : List Range → List Range) → areas_fault_of areas ≡ None
    → (has_overlap (ranges_of areas id) ≡ false → has_overlap (change (ranges_of areas id)) ≡ false)
    → (length (ranges_of areas id) ≤ 32 → length (change (ranges_of areas id)) ≤ 32) → areas_fault_of (with_ranges areas id change) ≡ None
sound_change areas id change none clear few =
    let h = no_fault_parts areas none in
    let same = others_kept areas id change in
    let apart : has_alike areas ≡ false = (or_parts (nat_lt 16 (length areas)) (has_alike areas) (or_parts (length areas == 0) (nat_lt 16 (length areas) || has_alike areas) h.wrong).1).1 in
    no_fault_from (with_ranges areas id change) (record {
      wrong = wrong_same (with_ranges areas id change) areas same ∙ h.wrong;
      overlap = still_none has_overlap id change areas apart clear h.overlap;
      backbone = any_same is_stub_backbone (λ a. refl) (with_ranges areas id change) areas same ∙ h.backbone;
      costly = any_same (λ (a : AreaConfig). is_costly a.stub) (λ a. refl) (with_ranges areas id change) areas same ∙ h.costly;
      crowded = still_none (λ (rs : List Range). nat_lt 32 (length rs)) id change areas apart (λ e. not_above 32 (length (change (ranges_of areas id))) (few (at_most 32 (length (ranges_of areas id)) e))) h.crowded;
    })

room_for : (b : Bool) (n : ℕ) → (not b && nat_le most_ranges n) ≡ false → b ≡ false → n + 1 ≤ 32
room_for true n none absent = absurd cc
room_for false n none absent = grind (arith, nat_tests)

-- a range is set that no test refuses
pub sound_set : (areas : List AreaConfig) (id : ℕ) (r : Range) → areas_fault_of areas ≡ None → overlaps_another r (ranges_of areas id) ≡ false → is_one_too_many r.prefix (ranges_of areas id) ≡ false
    → areas_fault_of (with_ranges areas id (set_range r)) ≡ None
sound_set areas id r none clear few =
    let rs = ranges_of areas id in
    sound_change areas id (set_range r) none (overlap_set r rs clear) (long_set r rs 32 (λ absent. room_for (has_range r.prefix rs) (length rs) few absent))

-- a range is dropped
pub sound_drop : (areas : List AreaConfig) (id : ℕ) (p : Prefix) → areas_fault_of areas ≡ None → areas_fault_of (with_ranges areas id (drop_range p)) ≡ None
sound_drop areas id p none = sound_change areas id (drop_range p) none (overlap_dropped p (ranges_of areas id)) (long_dropped p (ranges_of areas id) 32)

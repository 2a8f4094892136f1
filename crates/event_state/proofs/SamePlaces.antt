-- Where only ranges differ, each scope has its place, and what holds of databases and interfaces
-- goes on to hold.
use Rattle.std.proofs.Common.{◌≡◌, ℕ, ◌+◌, ◌<◌, zero, suc, Bool, true, false, cond, List, [], ◌∷◌, length, get_or, Some, None, refl, sym, ap, subst, ◌∙◌, arith, inl, inr}
use Rattle.std.specs.Prelude.{◌==◌, not, nat_lt, IsSome}
use Rattle.std.specs.List.{position_or_len}
use Rattle.std.specs.Ordering.{nat_cmp}
use Rattle.std.specs.FinMap.{FinMap}
use Rattle.std.proofs.lemmas.List.{length-map}
use Rattle.std.proofs.lemmas.List.Quantifiers.{position-Some}
use Rattle.ospf_types.specs.declared.config.AreaConfig.{AreaConfig}
use Rattle.ospf_types.specs.declared.config.Config.{Config}
use Rattle.ospf_types.specs.declared.config.Interface.{Interface}
use Rattle.ospf_types.specs.declared.config.Range.{Range}
use Rattle.ospf_types.specs.declared.key.Scope.{Scope}
use Rattle.ospf_types.specs.declared.key.Scope.TheVariants as scope
use Rattle.ospf_types.specs.RangeChanges.{with_others, with_ranges, areas_without_ranges}
use Rattle.ospf_types.proofs.RangeChanges.{others_kept}
use Rattle.lsdb.specs.Databases.{Database, DatabaseValue}
use Rattle.event_state.specs.declared.limits.Limits.{Limits}
use Rattle.event_state.specs.States.{place_of}
use Rattle.event_state.specs.RangeEvents.{ranges_of}
use Rattle.event_state.specs.Held.{AreKept, AreInterfaces, IsHeld}

abbrev bare : AreaConfig → AreaConfig
bare a = with_others a []

bare_position : (areas : List AreaConfig) (id : ℕ) → position_or_len (λ (a : AreaConfig). a.id == id) (areas_without_ranges areas) ≡ position_or_len (λ (a : AreaConfig). a.id == id) areas
bare_position [] id = refl
bare_position (a ∷ areas) id = ap (λ (n : ℕ). cond (not (a.id == id)) (1 + n) 0) (bare_position areas id)

bare_place : (areas : List AreaConfig) (at : Scope) → place_of (areas_without_ranges areas) at ≡ place_of areas at
bare_place areas (scope.Area id) =
    let first = bare_position areas id in
    let long = length-map areas bare in
    λ i. cond (nat_lt (first i) (long i)) (Some (first i)) None
bare_place areas scope.As = ap Some (length-map areas bare)

module _ (areas others : List AreaConfig) (same : areas_without_ranges areas ≡ areas_without_ranges others) where
  pub places_same : (at : Scope) → place_of areas at ≡ place_of others at
  places_same at = sym (bare_place areas at) ∙ ap (λ (list : List AreaConfig). place_of list at) same ∙ bare_place others at

  pub long_same : length areas ≡ length others
  long_same = sym (length-map areas bare) ∙ ap length same ∙ length-map others bare

  kept_same : (ds : List Database) → AreKept areas ds → AreKept others ds
  kept_same ds h = record {
    places = h.places ∙ ap (λ (n : ℕ). n + 1) long_same;
    fit = λ at k e. h.fit at k (places_same at ∙ e);
    reached = λ k lt. elim (h.reached k lt) [
      | inl there ↦ inl (there.0, sym (places_same there.0) ∙ there.1)
      | inr none ↦ inr none
    ];
  }

  pub interfaces_same : (m : FinMap nat_cmp Interface) → AreInterfaces areas m → AreInterfaces others m
  interfaces_same m h = record { placed = λ id x e. subst IsSome (places_same (scope.Area x.area)) (h.placed id x e); apart = h.apart }

pub held_same : (c d : Config) (limits : Limits) (ds : List DatabaseValue) → areas_without_ranges c.areas ≡ areas_without_ranges d.areas → IsHeld c limits ds → IsHeld d limits ds
held_same c d limits ds same h = record {
  kept = kept_same c.areas d.areas same _ h.kept;
  limited = λ at k e. h.limited at k (places_same c.areas d.areas same at ∙ e);
  within = h.within;
}

pub places_kept : (areas : List AreaConfig) (id : ℕ) (change : List Range → List Range) (at : Scope) → place_of (with_ranges areas id change) at ≡ place_of areas at
places_kept areas id change at = places_same (with_ranges areas id change) areas (others_kept areas id change) at

-- ---- the ranges of an area at its place

first_ranges : (areas : List AreaConfig) (id k : ℕ) (d : AreaConfig) → k < length areas → ((get_or areas k d).id == id) ≡ true → ((j : ℕ) → j < k → ((get_or areas j d).id == id) ≡ false) → (get_or areas k d).ranges ≡ ranges_of areas id
first_ranges [] id k d lt here before = absurd (omega arith)
first_ranges (a ∷ areas) id zero d lt here before = sym (ap (λ (b : Bool). cond b a.ranges (ranges_of areas id)) here)
first_ranges (a ∷ areas) id (suc k) d lt here before =
    first_ranges areas id k d (omega arith) here (λ j below. before (suc j) (omega arith)) ∙ sym (ap (λ (b : Bool). cond b a.ranges (ranges_of areas id)) (before zero (omega arith)))

pub ranges_at : (areas : List AreaConfig) (id k : ℕ) (d : AreaConfig) → place_of areas (scope.Area id) ≡ Some k → (get_or areas k d).ranges ≡ ranges_of areas id
ranges_at areas id k d place =
    let is = position-Some (λ (a : AreaConfig). a.id == id) areas k d place in
    first_ranges areas id k d is.0 is.1 is.2

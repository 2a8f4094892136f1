-- The sum of the works of an event is never cut.
use Rattle.std.proofs.Common.{◌≡◌, ℕ, suc, ◌*◌, ◌≤◌, List, [], ◌∷◌, length, sym, ap, ◌∙◌, ⊎_elim, subst, refl, arith}
use Rattle.std.specs.Prelude.{min, None}
use Rattle.std.specs.List.{Contains, sum_by}
use Rattle.std.proofs.lemmas.List.Elements.{All-weaker, All-contains_itself}
use Rattle.std.proofs.lemmas.List.Sums.{sum_by-le}
use Rattle.std.proofs.Math.Nat.{min-eq_left}
use Rattle.ospf_types.specs.declared.config.AreaConfig.{AreaConfig}
use Rattle.ospf_types.specs.declared.entry.Vertex.TheVariants.{Router}
use Rattle.ospf_types.specs.Links.{IsVertex}
use Rattle.ospf_types.proofs.Elements.{no_element, first_or_later}
use Rattle.spf.specs.Touched.{Touched}
use Rattle.area_trees.specs.Areas.{AreaTreeValue}
use Rattle.event_state.specs.Held.{AreFit}
use Rattle.event_state.specs.States.{State, inputs_of}
use Rattle.calculation.specs.Calculations.{CalculationValue, IsCalculationOf}
use Rattle.calculation.specs.Totals.{IsBuildWork}
use Rattle.calculation.specs.Trees.{AreTreesOf}
use Rattle.calculation.specs.Works.{area_of, AreWorksOf, AreWorksForAll, IsEventWork, IsTotal, most_count}
use Rattle.calculation.proofs.InputsAre.{area_is}
use Rattle.ospf_types.specs.Configs.{config_fault_of}
use Rattle.event_core.proofs.SmallWorks.{small_area, change_small, build_small}
use Rattle.event_core.specs.Sums.{IsSum, IsFollowingWork, IsBuildingWork}
use Rattle.event_state.proofs.Configs.{sound_few}

-- each of these works is small
abbrev AreSmall : List Touched → Type 0
AreSmall works = (w : Touched) → Contains works w → (w.taken ≤ 4 * 4294967296) × (w.hop_sets ≤ 4 * 4294967296)

none_small : AreSmall []
none_small w c = absurd (no_element w c)

more_small : (x : Touched) (works : List Touched) → (x.taken ≤ 4 * 4294967296) × (x.hop_sets ≤ 4 * 4294967296) → AreSmall works → AreSmall (x ∷ works)
more_small x works first rest w c =
    ⊎_elim
    (λ (same : w ≡ x). subst (λ (y : Touched). (y.taken ≤ 4 * 4294967296) × (y.hop_sets ≤ 4 * 4294967296)) (sym same) first)
    (λ (later : Contains works w). rest w later)
    (first_or_later x w works c)

-- where they are few and small, their sum can be counted
uncut_by : (f : Touched → ℕ) (works : List Touched) (n : ℕ) → length works ≤ 16 → ((w : Touched) → Contains works w → f w ≤ 4 * 4294967296) → n ≡ min (sum_by f works) most_count → n ≡ sum_by f works
uncut_by f works n few each is =
    let most : sum_by f works ≤ length works * (4 * 4294967296) = sum_by-le f (4 * 4294967296) works (All-weaker (Contains works) (λ w. f w ≤ 4 * 4294967296) each works (All-contains_itself works)) in
    is ∙ min-eq_left (omega (arith, most, few))

uncut : (works : List Touched) (w : Touched) → length works ≤ 16 → AreSmall works → IsTotal works w → IsSum works w
uncut works w few each total = (
  uncut_by (λ (x : Touched). x.taken) works w.taken few (λ x c. (each x c).0) total.0,
  uncut_by (λ (x : Touched). x.hop_sets) works w.hop_sets few (λ x c. (each x c).1) total.1,
)

module _ (s : State) (fit : AreFit s.config.areas s.databases) where
  -- the works of a build
  builds_small : (areas : List AreaConfig) (trees : List AreaTreeValue) (works : List Touched) → AreTreesOf s areas trees → AreWorksForAll trees works → AreSmall works × (length works ≡ length areas)
  builds_small [] [] [] are done = (none_small, refl)
  builds_small [] [] (w ∷ works) are done = absurd done
  builds_small [] (t ∷ trees) works are done = absurd are
  builds_small (a ∷ areas) [] works are done = absurd are
  builds_small (a ∷ areas) (t ∷ trees) [] are done = absurd done
  builds_small (a ∷ areas) (t ∷ trees) (w ∷ works) are done =
      let area = area_is s fit a are.0.0 are.0.1 in
      let rest = builds_small areas trees works are.1 done.1 in
      let small = small_area (inputs_of s) (area_of s a) _ are.0.0 area in (
        more_small w works (build_small 4294967296 (inputs_of s) (area_of s a) _ are.0.0 t w.taken w.hop_sets small area are.0.2 done.0) rest.0,
        ap (λ (n : ℕ). suc n) rest.1,
      )

module _ (s t : State) (fit : AreFit s.config.areas s.databases) (other_fit : AreFit t.config.areas t.databases) where
  -- the works of an event
  changes_small : (areas areas_after : List AreaConfig) (trees other_trees : List AreaTreeValue) (works : List Touched) → AreTreesOf s areas trees → AreTreesOf t areas_after other_trees → AreWorksOf s t areas areas_after works
      → AreSmall works × (length works ≡ length areas)
  changes_small [] [] trees others [] one two done = (none_small, refl)
  changes_small [] [] trees others (w ∷ works) one two done = absurd done
  changes_small [] (b ∷ after) trees others works one two done = absurd done
  changes_small (a ∷ areas) [] trees others works one two done = absurd done
  changes_small (a ∷ areas) (b ∷ after) trees others [] one two done = absurd done
  changes_small (a ∷ areas) (b ∷ after) [] others (w ∷ works) one two done = absurd one
  changes_small (a ∷ areas) (b ∷ after) (x ∷ trees) [] (w ∷ works) one two done = absurd two
  changes_small (a ∷ areas) (b ∷ after) (x ∷ trees) (y ∷ others) (w ∷ works) one two done =
      let before = small_area (inputs_of s) (area_of s a) _ one.0.0 (area_is s fit a one.0.0 one.0.1) in
      let small_after = small_area (inputs_of t) (area_of t b) _ two.0.0 (area_is t other_fit b two.0.0 two.0.1) in
      let rest = changes_small areas after trees others works one.1 two.1 done.1 in (
        more_small w works
            (change_small 4294967296 s.config.router (inputs_of s) (inputs_of t) (area_of s a) (area_of t b) (IsVertex (area_of s a) (Router s.config.router)) (IsVertex (area_of t b) (Router t.config.router)) w.taken w.hop_sets before small_after done.0)
            rest.0,
        ap (λ (n : ℕ). suc n) rest.1,
      )

-- the sum of a build is whole
pub build_uncut : (s : State) (w : Touched) → config_fault_of s.config ≡ None → IsBuildWork s w → IsBuildingWork s w
build_uncut s w sound work =
    let c = work.0 in
    let is = work.1 in
    let done = work.2 in
    let small = builds_small s is.fit s.config.areas c.trees done.0 is.trees done.1 in
    (c, is, (done.0, done.1, uncut done.0 w (omega (arith, small.1, sound_few s.config sound)) small.0 done.2))

-- and so belongs to an event
pub event_uncut : (s t : State) (c d : CalculationValue) (w : Touched) → config_fault_of s.config ≡ None → IsCalculationOf s c → IsCalculationOf t d → IsEventWork s t w → IsFollowingWork s t w
event_uncut s t c d w sound one two work =
    let small = changes_small s t one.fit two.fit s.config.areas t.config.areas c.trees d.trees work.0 one.trees two.trees work.1 in
    (work.0, work.1, uncut work.0 w (omega (arith, small.1, sound_few s.config sound)) small.0 work.2)

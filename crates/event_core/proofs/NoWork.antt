-- No work is due between states whose areas have the same trees.
use Rattle.std.proofs.Common.{◌≡◌, ◌≤◌, ℕ, List, [], ◌∷◌, length, map, refl, sym, ap, inl, inr, arith}
use Rattle.std.specs.Prelude.{◌↔◌, min}
use Rattle.std.specs.List.{Contains, sum_by}
use Rattle.ospf_types.specs.declared.config.AreaConfig.{AreaConfig}
use Rattle.ospf_types.specs.declared.entry.Vertex.{Vertex}
use Rattle.ospf_types.specs.declared.entry.Vertex.TheVariants.{Router}
use Rattle.ospf_types.specs.Distances.{Links}
use Rattle.ospf_types.specs.Links.{IsLink, IsVertex}
use Rattle.ospf_types.proofs.Elements.{no_element, first_element}
use Rattle.spf.specs.Touched.{Touched}
use Rattle.spf.specs.Changes.{SameLinks, link_value}
use Rattle.spf.proofs.Counting.{no_doubles_nil}
use Rattle.spf.proofs.SameLinks.{distance_same, hop_same}
use Rattle.area_trees.specs.Areas.{AreaTreeValue}
use Rattle.area_trees.specs.Work.{IsWorkOf, HasNewDistance, HasOtherHops}
use Rattle.area_trees.proofs.Inside.{links_in, root_in}
use Rattle.event_state.specs.Held.{AreFit}
use Rattle.event_state.specs.States.{State, inputs_of}
use Rattle.calculation.specs.Calculations.{CalculationValue, IsCalculationOf}
use Rattle.calculation.specs.Trees.{AreTreesOf}
use Rattle.calculation.specs.Works.{area_of, AreWorksOf, IsEventWork, most_count}
use Rattle.event_core.specs.Following.{no_work}
use Rattle.calculation.proofs.InputsAre.{area_is}

-- a list without elements is empty
none_in : {X : Type 0} (xs : List X) → ((x : X) → Contains xs x → ⊥) → length xs ≤ 0
none_in [] none = omega arith
none_in (x ∷ xs) none = absurd (none x (first_element x xs))

module _ (root : ℕ) (A B : Links) (had has : Type 0) (same : SameLinks A B) (rooted : had ↔ has) where
  not_new : (v : Vertex) → HasNewDistance root A B had has v → ⊥
  not_new v w = w.1.2 ((distance_same root same rooted v w.1.0).1 w.1.1)

  not_other : (v : Vertex) → HasOtherHops root A B had has v → ⊥
  not_other v other = other (λ h. let is = hop_same root same rooted v h in (is.1, is.0))

  -- over the same links there is nothing to do
  nothing_due : IsWorkOf root A B had has 0 0
  nothing_due = record {
    gone = [];
    come = [];
    exact = record {
      went = λ from to cost label. (λ h. absurd (no_element (link_value from to cost label) h), λ h. absurd (h.1 ((same from to cost label).0 h.0)));
      came = λ from to cost label. (λ h. absurd (no_element (link_value from to cost label) h), λ h. absurd (h.1 ((same from to cost label).1 h.0)));
    };
    taken_most = λ first second heads first_out second_out owed. omega arith;
    sets_most = λ first second heads first_out second_out owed. omega arith;
    taken_least = λ moved differing moved_once differing_once each each_differs. omega (
      arith,
      none_in moved (λ v c. not_new v (each v c)),
      none_in differing (λ v c. elim (each_differs v c) [ inl new ↦ not_new v new | inr other ↦ not_other v other.2 ]),
    );
    taken_twice_most = λ reached all. omega arith;
    written = [];
    written_apart = no_doubles_nil;
    written_exact = λ v. (λ c. absurd (no_element v c), λ other. absurd (not_other v other));
    sets_are = refl;
  }

-- no work for each of the areas
abbrev idle : List AreaConfig → List Touched
idle areas = map (λ (a : AreaConfig). no_work) areas

none_taken : (areas : List AreaConfig) → sum_by (λ (x : Touched). x.taken) (idle areas) ≡ 0
none_taken [] = refl
none_taken (a ∷ areas) = none_taken areas

none_set : (areas : List AreaConfig) → sum_by (λ (x : Touched). x.hop_sets) (idle areas) ≡ 0
none_set [] = refl
none_set (a ∷ areas) = none_set areas

module _ (s t : State) (fit : AreFit s.config.areas s.databases) (other_fit : AreFit t.config.areas t.databases) where
  are_idle : (areas others : List AreaConfig) (trees : List AreaTreeValue) → AreTreesOf s areas trees → AreTreesOf t others trees → AreWorksOf s t areas others (idle areas)
  are_idle [] [] trees one two = tt
  are_idle [] (b ∷ others) [] one two = absurd two
  are_idle [] (b ∷ others) (x ∷ trees) one two = absurd one
  are_idle (a ∷ areas) others [] one two = absurd one
  are_idle (a ∷ areas) [] (x ∷ trees) one two = absurd two
  are_idle (a ∷ areas) (b ∷ others) (x ∷ trees) one two =
      let before = area_is s fit a one.0.0 one.0.1 in
      let after = area_is t other_fit b two.0.0 two.0.1 in
      let same : SameLinks (IsLink (inputs_of s) (area_of s a)) (IsLink (inputs_of t) (area_of t b)) = λ from to cost label.
      let p = links_in before one.0.2 from to cost label in
      let q = links_in after two.0.2 from to cost label in
      (λ l. q.0 (p.1 l), λ l. p.0 (q.1 l)) in
      let p = root_in before one.0.2 in
      let q = root_in after two.0.2 in
      let rooted : IsVertex (area_of s a) (Router s.config.router) ↔ IsVertex (area_of t b) (Router t.config.router) = (λ h. q.0 (p.1 h), λ h. p.0 (q.1 h)) in (
        nothing_due s.config.router (IsLink (inputs_of s) (area_of s a)) (IsLink (inputs_of t) (area_of t b)) (IsVertex (area_of s a) (Router s.config.router)) (IsVertex (area_of t b) (Router t.config.router)) same rooted,
        are_idle areas others trees one.1 two.1,
      )

-- where the same is kept of both
pub no_event_work : (s t : State) (c : CalculationValue) → AreFit s.config.areas s.databases → AreFit t.config.areas t.databases → IsCalculationOf s c → IsCalculationOf t c → IsEventWork s t no_work
no_event_work s t c fit other_fit one two =
    let areas = s.config.areas in (
      idle areas,
      are_idle s t fit other_fit areas t.config.areas c.trees one.trees two.trees,
      (ap (λ (n : ℕ). min n most_count) (sym (none_taken areas)), ap (λ (n : ℕ). min n most_count) (sym (none_set areas))),
    )

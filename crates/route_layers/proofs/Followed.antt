-- The meaning of a step in which the trees of all areas have followed a state.
--   followed_long: there are as many as before
--   followed_trees: they are the trees of the state
--   followed_inputs: what routes are calculated from differs in no more than is named
--   followed_work: the work belongs to the event
use Rattle.std.proofs.Common.{◌≡◌, ℕ, true, List, length, map, sym, ap, subst, ◌∙◌}
use Rattle.std.proofs.lemmas.List.{length-map}
use Rattle.ospf_types.specs.declared.config.AreaConfig.{AreaConfig}
use Rattle.ospf_types.specs.declared.entry.Vertex.{Vertex}
use Rattle.ospf_types.specs.declared.key.Key.{Key}
use Rattle.ospf_types.specs.declared.key.Scope.{Scope}
use Rattle.ospf_types.proofs.RangeChanges.{areas_kept}
use Rattle.spf.specs.Touched.{Touched}
use Rattle.area_trees.specs.Areas.{AreaTreeValue}
use Rattle.intra.specs.Inputs.{AreaValue}
use Rattle.intra.specs.Changes.{AreasDifferAmong, InputsDifferAmong}
use Rattle.event_state.specs.States.{State}
use Rattle.event_state.specs.Held.{AreFit}
use Rattle.route_layers.specs.Trees.{areas_with, inputs_with, AreTreesOf, StatesDifferAmong}
use Rattle.route_layers.specs.Turns.{Turn, AreFollowed}
use Rattle.route_layers.specs.Works.{AreWorksOf, IsEventWork}
use Rattle.route_layers.proofs.Follows.{router_kept, interface_kept}
use Rattle.route_layers.proofs.OtherRanges.{inputs_kept}
use Rattle.route_layers.proofs.Turns.{trees_followed, works_followed, areas_followed}

module _ (t : State) (areas : List AreaConfig) (old new : List AreaTreeValue) (vertices : List (ℕ × Vertex)) (w : Touched) (all : AreFollowed t areas old new vertices w) where
  pub followed_long : length new ≡ length old
  followed_long = sym (ap length all.new_are) ∙ length-map all.turns (λ (x : Turn). x.new) ∙ sym (length-map all.turns (λ (x : Turn). x.old)) ∙ ap length all.old_are

  pub followed_trees : AreTreesOf t areas new
  followed_trees =
      subst (λ (list : List AreaConfig). AreTreesOf t list new) all.areas_are
      (subst (λ (list : List AreaTreeValue). AreTreesOf t (map (λ (x : Turn). x.area) all.turns) list) all.new_are (trees_followed t vertices all.turns all.each))

module _ (s t : State) (keys : List (Scope × Key)) (ids : List ℕ) (differ : StatesDifferAmong keys ids true s t) (old new : List AreaTreeValue) (vertices : List (ℕ × Vertex)) (w : Touched)
    (all : AreFollowed t t.config.areas old new vertices w) where
  areas_differ : AreasDifferAmong keys vertices (areas_with s s.config.areas old) (areas_with t t.config.areas new)
  areas_differ =
      subst (λ (list : List AreaValue). AreasDifferAmong keys vertices list (areas_with t t.config.areas new)) (inputs_kept s t.config.areas s.config.areas (areas_kept t.config s.config differ.areas) old)
      (subst (λ (list : List AreaConfig). AreasDifferAmong keys vertices (areas_with s list old) (areas_with t t.config.areas new)) all.areas_are
      (subst (λ (list : List AreaConfig). AreasDifferAmong keys vertices (areas_with s (map (λ (x : Turn). x.area) all.turns) old) (areas_with t list new)) all.areas_are
      (subst (λ (list : List AreaTreeValue). AreasDifferAmong keys vertices (areas_with s (map (λ (x : Turn). x.area) all.turns) list) (areas_with t (map (λ (x : Turn). x.area) all.turns) new)) all.old_are
      (subst (λ (list : List AreaTreeValue). AreasDifferAmong keys vertices (areas_with s (map (λ (x : Turn). x.area) all.turns) (map (λ (x : Turn). x.old) all.turns)) (areas_with t (map (λ (x : Turn). x.area) all.turns) list)) all.new_are
      (areas_followed s t keys ids vertices differ all.turns all.each)))))

  pub followed_inputs : InputsDifferAmong keys vertices ids (inputs_with s old) (inputs_with t new)
  followed_inputs = record { root = router_kept s t keys ids differ; areas = areas_differ; interfaces = interface_kept s t keys ids differ }

  pub followed_work : AreFit s.config.areas s.databases → AreFit t.config.areas t.databases → AreTreesOf s s.config.areas old → IsEventWork s t w
  followed_work fit fit_after trees =
      let works : List Touched = map (λ (x : Turn). x.work) all.turns in
      let before : AreTreesOf s s.config.areas (map (λ (x : Turn). x.old) all.turns) = subst (λ (list : List AreaTreeValue). AreTreesOf s s.config.areas list) (sym all.old_are) trees in (
        works,
        subst (λ (list : List AreaConfig). AreWorksOf s t s.config.areas list works) all.areas_are (works_followed s t fit fit_after (router_kept s t keys ids differ) vertices s.config.areas all.turns all.each before),
        all.total,
      )

-- The trees of the areas, followed from one state to another.
use Rattle.std.specs.Prelude.{ℕ, ◌≡◌, List, [], ◌∷◌, Contains, map, take, drop}
use Rattle.std.specs.FinMap.{get}
use Rattle.ospf_types.specs.declared.config.AreaConfig.{AreaConfig}
use Rattle.ospf_types.specs.declared.entry.Vertex.{Vertex}
use Rattle.spf.specs.Touched.{Touched}
use Rattle.spf.specs.TreeValues.{IsWorkDone, listed_hops}
use Rattle.area_trees.specs.Areas.{AreaTreeValue, IsWorkBounded}
use Rattle.event_state.specs.States.{State}
use Rattle.route_layers.specs.Trees.{IsTreeFor, AreTreesOf}
use Rattle.route_layers.specs.Works.{AreWorksForAll, IsTotal}

-- these trees of the areas were built, by this work
pub record AreBuilt (s : State) (areas : List AreaConfig) (trees : List AreaTreeValue) (w : Touched) : Type 0 where
  pub trees_are : AreTreesOf s areas trees
  pub works : List Touched
  pub done : AreWorksForAll trees works
  pub total : IsTotal works w

-- an area, its tree before and after, and the work between the two
pub record Turn : Type 0 where
  pub area : AreaConfig
  pub old : AreaTreeValue
  pub new : AreaTreeValue
  pub work : Touched

-- each vertex that is not named with the Area ID has its distance and its next hops still
abbrev pub AreOthersStill : List (ℕ × Vertex) → ℕ → AreaTreeValue → AreaTreeValue → Type 0
AreOthersStill vertices area old new = (v : Vertex) → (Contains vertices (area, v) → ⊥)
    → (get new.tree.distances v ≡ get old.tree.distances v) × (listed_hops (get new.tree.hops v) ≡ listed_hops (get old.tree.hops v))

-- the tree has followed the state
pub record IsTurn (s : State) (vertices : List (ℕ × Vertex)) (x : Turn) : Type 0 where
  pub right : IsTreeFor s x.area.id x.new
  pub others : AreOthersStill vertices x.area.id x.old x.new
  pub bounded : IsWorkBounded x.old x.new x.work.taken x.work.hop_sets
  pub done : IsWorkDone x.new.area.graph x.old.tree x.new.tree x.work.taken x.work.hop_sets

abbrev pub AreTurns : State → List (ℕ × Vertex) → List Turn → Type 0
AreTurns s vertices [] = Unit {0}
AreTurns s vertices (x ∷ xs) = IsTurn s vertices x × AreTurns s vertices xs

-- the trees of these areas have followed the state
pub record AreFollowed (s : State) (areas : List AreaConfig) (old new : List AreaTreeValue) (vertices : List (ℕ × Vertex)) (w : Touched) : Type 0 where
  pub turns : List Turn
  pub areas_are : map (λ (x : Turn). x.area) turns ≡ areas
  pub old_are : map (λ (x : Turn). x.old) turns ≡ old
  pub new_are : map (λ (x : Turn). x.new) turns ≡ new
  pub each : AreTurns s vertices turns
  pub total : IsTotal (map (λ (x : Turn). x.work) turns) w

-- this many of the trees have followed the state, and the others are unchanged
pub record AreFollowedTo (s : State) (areas : List AreaConfig) (old new : List AreaTreeValue) (vertices : List (ℕ × Vertex)) (w : Touched) (i : ℕ) : Type 0 where
  pub first : AreFollowed s (take i areas) (take i old) (take i new) vertices w
  pub rest : drop i new ≡ drop i old

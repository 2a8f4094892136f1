-- The work of an event, area by area.
use Rattle.std.specs.Prelude.{ℕ, ◌≡◌, List, [], ◌∷◌, min}
use Rattle.std.specs.List.{sum_by}
use Rattle.ospf_types.specs.declared.config.AreaConfig.{AreaConfig}
use Rattle.ospf_types.specs.declared.entry.Vertex.TheVariants.{Router}
use Rattle.ospf_types.specs.declared.key.Scope.TheVariants.{Area as area_scope}
use Rattle.ospf_types.specs.Inputs.{Area}
use Rattle.ospf_types.specs.Links.{IsLink, IsVertex}
use Rattle.spf.specs.Touched.{Touched}
use Rattle.spf.specs.TreeValues.{IsWorkForAll}
use Rattle.area_trees.specs.Areas.{AreaTreeValue}
use Rattle.area_trees.specs.Work.{IsWorkOf}
use Rattle.event_state.specs.States.{State, database_of, lsas_of, inputs_of}

-- a configured area, with its LSAs
abbrev pub area_of : State → AreaConfig → Area
area_of s a = record { id = a.id; stub = a.stub; ranges = a.ranges; lsas = lsas_of (database_of s (area_scope a.id)) }

-- the work that was done in each of these areas, as they are configured before and after, is
-- bounded by what differs between the states
abbrev pub AreWorksOf : State → State → List AreaConfig → List AreaConfig → List Touched → Type 0
AreWorksOf s t [] [] [] = Unit {0}
AreWorksOf s t (a ∷ areas) (b ∷ others) (w ∷ works) =
    IsWorkOf s.config.router (IsLink (inputs_of s) (area_of s a)) (IsLink (inputs_of t) (area_of t b)) (IsVertex (area_of s a) (Router s.config.router)) (IsVertex (area_of t b) (Router t.config.router)) w.taken w.hop_sets
    × AreWorksOf s t areas others works
AreWorksOf s t [] [] (w ∷ works) = ⊥
AreWorksOf s t [] (b ∷ others) works = ⊥
AreWorksOf s t (a ∷ areas) [] works = ⊥
AreWorksOf s t (a ∷ areas) (b ∷ others) [] = ⊥

-- the work of building each of these trees, by what is reached
abbrev pub AreWorksForAll : List AreaTreeValue → List Touched → Type 0
AreWorksForAll [] [] = Unit {0}
AreWorksForAll (t ∷ trees) (w ∷ works) = IsWorkForAll t.area.graph t.tree w.taken w.hop_sets × AreWorksForAll trees works
AreWorksForAll [] (w ∷ works) = ⊥
AreWorksForAll (t ∷ trees) [] = ⊥

-- the greatest count
abbrev pub most_count : ℕ
most_count = 18446744073709551615

-- the sum of the works, as far as it can be counted
abbrev pub IsTotal : List Touched → Touched → Type 0
IsTotal works w = (w.taken ≡ min (sum_by (λ (x : Touched). x.taken) works) most_count) × (w.hop_sets ≡ min (sum_by (λ (x : Touched). x.hop_sets) works) most_count)

-- the work of an event
abbrev pub IsEventWork : State → State → Touched → Type 0
IsEventWork s t w = (works : List Touched) × AreWorksOf s t s.config.areas t.config.areas works × IsTotal works w

-- The inputs of explanations: a state, the results calculated from it, and its areas with their
-- databases and trees.
use Rattle.std.specs.Prelude.{ℕ, ◌≡◌, ◌⊎◌, ◌==◌, Bool, false, List, [], ◌∷◌, Contains, Option, Some, None}
use Rattle.std.specs.FinMap.{get}
use Rattle.ospf_types.specs.declared.entry.Vertex.{Vertex}
use Rattle.ospf_types.specs.Lsa.{Body}
use Rattle.ospf_types.specs.declared.entry.Entry.{Entry}
use Rattle.ospf_types.specs.declared.key.Key.{Key}
use Rattle.ospf_types.specs.declared.key.Dest.TheVariants.{Net}
use Rattle.ospf_types.specs.declared.prefix.Prefix.{Prefix}
use Rattle.area_trees.specs.Areas.{IsStanding, IsStandingKey}
use Rattle.intra.specs.Inputs.{AreaValue, HasTree, distance_at}
use Rattle.event_state.specs.States.{State}
use Rattle.route_layers.specs.Trees.{areas_with}
use Rattle.calculation.specs.Calculations.{CalculationValue, IsCalculationOf, entry_else}

-- the results belong to the state, and so do the areas
pub record AreLayers (s : State) (c : CalculationValue) (areas : List AreaValue) : Type 0 where
  pub right : IsCalculationOf s c
  pub areas_are : areas ≡ areas_with s s.config.areas c.trees

-- each area has the tree of its database
abbrev pub HaveTrees : List AreaValue → Type 0
HaveTrees areas = (a : AreaValue) → Contains areas a → HasTree a

-- and no two have one Area ID
pub record AreAreas (areas : List AreaValue) : Type 0 where
  pub trees : HaveTrees areas
  pub once : (a b : AreaValue) → Contains areas a → Contains areas b → a.id ≡ b.id → a ≡ b

-- one of the areas has this Area ID
abbrev pub HasArea : List AreaValue → ℕ → AreaValue → Type 0
HasArea areas id a = Contains areas a × (a.id ≡ id)

abbrev pub LacksArea : List AreaValue → ℕ → Type 0
LacksArea areas id = (a : AreaValue) → Contains areas a → a.id ≡ id → ⊥

-- the distance of the vertex in the area with this Area ID, or `None` if there is no such area
abbrev pub IsDistanceOf : List AreaValue → ℕ → Vertex → Option ℕ → Type 0
IsDistanceOf areas id v distance = ((a : AreaValue) × HasArea areas id a × (distance ≡ distance_at a v)) ⊎ (LacksArea areas id × (distance ≡ None))

-- the key of the LSA that describes the vertex in the area with this Area ID, or `None` if no LSA
-- does
abbrev pub IsKeyIn : AreaValue → Vertex → Option Key → Type 0
IsKeyIn a v None = IsStanding a.lsas v None
IsKeyIn a v (Some key) = IsStandingKey a.lsas v key × ((body : Body) × IsStanding a.lsas v (Some body))

abbrev pub IsKeyStanding : List AreaValue → ℕ → Vertex → Option Key → Type 0
IsKeyStanding areas id v key = ((a : AreaValue) × HasArea areas id a × IsKeyIn a v key) ⊎ (LacksArea areas id × (key ≡ None))

-- the intra-area entry of the network, else its inter-area one
abbrev pub internal_at : CalculationValue → Prefix → Option Entry
internal_at c p = entry_else (get c.intra.entries p) (get c.inter.entries (Net p))

-- True if the summary-LSAs of this area are examined, with these areas active: the only one, or the
-- backbone (16.2).
abbrev pub is_examined : List ℕ → ℕ → Bool
is_examined [] area = false
is_examined (only ∷ []) area = only == area
is_examined (a ∷ b ∷ more) area = area == 0

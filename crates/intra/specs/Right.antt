-- When intra-area routes are as defined.
use Rattle.std.specs.Prelude.{ℕ, ◌≡◌, ◌⊎◌, ◌↔◌, List, [], ◌∷◌}
use Rattle.std.specs.FinMap.{get}
use Rattle.ospf_types.specs.declared.hop.NextHop.{NextHop}
use Rattle.ospf_types.specs.declared.prefix.Prefix.{Prefix}
use Rattle.ospf_types.specs.Inputs.{Inputs, Area}
use Rattle.ospf_types.specs.Intra.{IntraOffers, ReachesWith, B, E}
use Rattle.vertex_graph.specs.Up.{Up}
use Rattle.area_trees.specs.Areas.{IsAreaOf, IsAreaTree}
use Rattle.intra.specs.Inputs.{AreaValue, InputsValue}
use Rattle.intra.specs.Intras.{AreaIntraValue, IntraValue, IsEntryFor}
use Rattle.intra.specs.ReachedRouter.{HandsOut}

-- the area has this database, and the tree belongs to it and to the area's interfaces that are up
pub record IsInputOf (s : Inputs) (b : Area) (root : ℕ) (a : AreaValue) : Type 0 where
  pub id : b.id ≡ a.id
  pub ups : List Up
  pub area : IsAreaOf s b a.lsas ups
  pub tree : IsAreaTree root a.lsas ups a.tree

abbrev pub AreInputAreas : Inputs → ℕ → List Area → List AreaValue → Type 0
AreInputAreas s root [] [] = Unit {0}
AreInputAreas s root (b ∷ bs) (a ∷ rest) = IsInputOf s b root a × AreInputAreas s root bs rest
AreInputAreas s root [] (a ∷ rest) = ⊥
AreInputAreas s root (b ∷ bs) [] = ⊥

-- what the routes are calculated from is what the definitions speak of
pub record AreInputsOf (s : Inputs) (v : InputsValue) : Type 0 where
  pub router : v.root ≡ s.router
  pub areas : AreInputAreas s s.router s.areas v.areas
  pub interfaces : v.interfaces ≡ s.interfaces

-- of each router, in each area, what the definitions say of border routers and of boundary routers
abbrev pub AreRoutersRight : Inputs → List Area → List AreaIntraValue → Type 0
AreRoutersRight s [] [] = Unit {0}
AreRoutersRight s (b ∷ bs) (i ∷ is) = (b.id ≡ i.id)
    × ((flag router distance : ℕ) (h : NextHop) → (flag ≡ B) ⊎ (flag ≡ E) → ReachesWith flag s b router distance h ↔ HandsOut flag (get i.reached router) distance h)
    × AreRoutersRight s bs is
AreRoutersRight s [] (i ∷ is) = ⊥
AreRoutersRight s (b ∷ bs) [] = ⊥

-- each network has the entry that the definitions give, and each border router and boundary router
-- what they say of it
pub record IsRightFor (s : Inputs) (w : IntraValue) : Type 0 where
  pub entries : (p : Prefix) → IsEntryFor (IntraOffers s p) (get w.entries p)
  pub routers : AreRoutersRight s s.areas w.areas

-- the routes are right wherever the inputs are as defined
abbrev pub IsRightWherever : InputsValue → IntraValue → Type 0
IsRightWherever v w = (s : Inputs) → AreInputsOf s v → IsRightFor s w

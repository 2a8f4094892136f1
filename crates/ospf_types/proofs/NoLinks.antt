-- Where there are no links, only the root is reached, and no vertex has a next hop.
use Rattle.std.proofs.Common.{◌≡◌, ℕ, List, [], ◌∷◌, refl, subst}
use Rattle.ospf_types.specs.declared.entry.Vertex.{Vertex}
use Rattle.ospf_types.specs.declared.entry.Vertex.TheVariants.{Router}
use Rattle.ospf_types.specs.declared.hop.NextHop.{NextHop}
use Rattle.ospf_types.specs.declared.label.Label.{Label}
use Rattle.ospf_types.specs.Distances.{Links, TakenLink, Leads, IsFirst, IsHop}

module _ (link : Links) (none : (from to : Vertex) (cost : ℕ) (label : Label) → link from to cost label → ⊥) where
  -- the empty path is the only one
  pub only_empty : (root : ℕ) (from to : Vertex) (way : List TakenLink) → Leads link root from way to → (way ≡ []) × (from ≡ to)
  only_empty root from to [] leads = (refl, leads)
  only_empty root from to (taken ∷ way) leads = absurd (none from taken.to taken.cost taken.label leads.0)

  pub no_hop : (root : ℕ) (has_root : Type 0) (to : Vertex) (h : NextHop) → IsHop link root has_root to h → ⊥
  no_hop root has_root to h hop =
      subst (λ (way : List TakenLink). IsFirst way h) (only_empty root (Router root) to hop.path.0 hop.path.1.1).0 hop.path.3

-- The next hops of a path that goes on are what its last link passes on of those before it.
use Rattle.std.proofs.Common.{◌≡◌, ℕ, List, [], ◌∷◌, ◌++◌, refl, sym, subst}
use Rattle.ospf_types.specs.declared.entry.Vertex.{Vertex}
use Rattle.ospf_types.specs.declared.entry.Vertex.TheVariants.{Router, Network}
use Rattle.ospf_types.specs.declared.hop.NextHop.{NextHop}
use Rattle.ospf_types.specs.declared.hop.NextHop.TheVariants as hop
use Rattle.ospf_types.specs.declared.label.Label.{Label}
use Rattle.ospf_types.specs.declared.label.Label.TheVariants.{Over, At, Plain}
use Rattle.ospf_types.specs.Distances.{Links, TakenLink, Leads, FirstOnly, FirstOf, IsFirst}
use Rattle.spf.specs.Trees.{AreLinks, HaveAddresses, HandsOn}

-- a path of one step that goes on, and back
second_step : (v : Vertex) (l next : Label) (h : NextHop) → FirstOf v l next h → (g : NextHop) × FirstOnly v l g × HandsOn g next h
second_step (Router r) (Over i) next h first = (hop.Peer i, refl, first)
second_step (Network n) (Over i) (At addresses) h first = (hop.Direct i, refl, first)
second_step _ _ _ h first = absurd first

-- a hop passed on from the hop of one step is the hop of two
from_first_step : (v : Vertex) (l next : Label) (g h : NextHop) → FirstOnly v l g → HandsOn g next h → FirstOf v l next h
from_first_step (Router r) (Over i) next g h first hands = subst (λ (x : NextHop). HandsOn x next h) first hands
from_first_step (Network n) (Over i) (At addresses) g h first hands = subst (λ (x : NextHop). HandsOn x (At addresses) h) first hands
from_first_step (Network n) (Over i) (Over other) g h first hands = subst (λ (x : NextHop). HandsOn x (Over other) h) first hands
from_first_step (Network n) (Over i) Plain g h first hands = subst (λ (x : NextHop). HandsOn x Plain h) first hands
from_first_step _ _ next g h first hands = absurd first

-- after the second step the next hops stay
handed_on_itself : (v : Vertex) (l next label : Label) (h : NextHop) → FirstOf v l next h → HandsOn h label h
handed_on_itself (Router r) (Over i) next label h first = subst (λ (x : NextHop). HandsOn x label x) (sym first) refl
handed_on_itself (Network n) (Over i) (At addresses) label h first = subst (λ (x : NextHop). HandsOn x label x) (sym first.2) refl
handed_on_itself _ _ _ label h first = absurd first

-- a hop passed on later is the same hop
same_handed_on : (v : Vertex) (l next label : Label) (g h : NextHop) → FirstOf v l next g → HandsOn g label h → h ≡ g
same_handed_on (Router r) (Over i) next label g h first hands = let is : h ≡ hop.Peer i = subst (λ (x : NextHop). HandsOn x label h) first hands in cc
same_handed_on (Network n) (Over i) (At addresses) label g h first hands =
    let is : h ≡ hop.Router i first.0 = subst (λ (x : NextHop). HandsOn x label h) first.2 hands in
    let was : g ≡ hop.Router i first.0 = first.2 in
    cc
same_handed_on _ _ _ label g h first hands = absurd first

-- A next hop of a path that goes on by one step is passed on by that step, from a next hop of the
-- path before it.
pub first_before : (step last : TakenLink) (way : List TakenLink) (h : NextHop) → IsFirst ((step ∷ way) ++ last ∷ []) h → (g : NextHop) × IsFirst (step ∷ way) g × HandsOn g last.label h
first_before step last [] h first = second_step step.to step.label last.label h first
first_before step last (next ∷ way) h first = (h, first, handed_on_itself step.to step.label next.label last.label h first)

-- And what the step passes on is a next hop of the longer path.
pub first_after : (step last : TakenLink) (way : List TakenLink) (g h : NextHop) → IsFirst (step ∷ way) g → HandsOn g last.label h → IsFirst ((step ∷ way) ++ last ∷ []) h
first_after step last [] g h first hands = from_first_step step.to step.label last.label g h first hands
first_after step last (next ∷ way) g h first hands =
    subst (λ (x : NextHop). FirstOf step.to step.label next.label x) (sym (same_handed_on step.to step.label next.label last.label g h first hands)) first

module _ {link : Links} {root : ℕ} {has_root : Type 0} (are : AreLinks link root has_root) (have : HaveAddresses link) where
  -- a link over an interface has a next hop
  only_hop : (v : Vertex) (i : ℕ) → (h : NextHop) × FirstOnly v (Over i) h
  only_hop (Router r) i = (hop.Peer i, refl)
  only_hop (Network n) i = (hop.Direct i, refl)

  -- and so has one that is followed by another link
  first_hop : (v w : Vertex) (i cost : ℕ) (label : Label) → link v w cost label → (h : NextHop) × FirstOf v (Over i) label h
  first_hop (Router r) w i cost label taken = (hop.Peer i, refl)
  first_hop (Network n) w i cost label taken =
      let onto = are.out_of_network n w cost label taken in
      let found = have.address n w cost onto.addresses (subst (λ (l : Label). link (Network n) w cost l) onto.labelled taken) in
      (hop.Router i found.0, subst (λ (l : Label). FirstOf (Network n) (Over i) l (hop.Router i found.0)) (sym onto.labelled) (found.0, found.1, refl))

  -- each path from the root that is not empty has a next hop
  pub has_first : (to : Vertex) (step : TakenLink) (way : List TakenLink) → Leads link root (Router root) (step ∷ way) to → (h : NextHop) × IsFirst (step ∷ way) h
  has_first to step [] leads =
      let over = are.out_of_root step.to step.cost step.label leads.0 in
      subst (λ (l : Label). (h : NextHop) × FirstOnly step.to l h) (sym over.labelled) (only_hop step.to over.interface)
  has_first to step (next ∷ way) leads =
      let over = are.out_of_root step.to step.cost step.label leads.0 in
      subst (λ (l : Label). (h : NextHop) × FirstOf step.to l next.label h) (sym over.labelled) (first_hop step.to next.to over.interface next.cost next.label leads.2.0)

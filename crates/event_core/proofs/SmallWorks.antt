-- The work in an area is small: each vertex that a link leads to has a number below 2^32, and a
-- repair or a build takes and writes each vertex so often at most.
use Rattle.std.proofs.Common.{◌≡◌, ◌≢◌, ℕ, zero, suc, ◌*◌, ◌<◌, ◌≤◌, List, [], ◌∷◌, length, refl, sym, ap, subst, ◌∙◌, ◌⊎◌, inl, inr, arith}
use Rattle.std.specs.List.{Contains}
use Rattle.std.proofs.lemmas.Bool.{cases_lt}
use Rattle.ospf_types.specs.declared.entry.Vertex.{Vertex}
use Rattle.ospf_types.specs.declared.entry.Vertex.TheVariants.{Router, Network}
use Rattle.ospf_types.specs.declared.hop.NextHop.{NextHop}
use Rattle.ospf_types.specs.declared.label.Label.{Label}
use Rattle.ospf_types.specs.Distances.{Links, TakenLink, Leads, IsPath, IsFirst, IsHop}
use Rattle.ospf_types.specs.Inputs.{Inputs, Area}
use Rattle.ospf_types.specs.Links.{IsRouter, IsNetwork, IsLink}
use Rattle.ospf_types.specs.Lsa.{Lsa, RouterLink}
use Rattle.ospf_types.proofs.Elements.{first_element, later_element}
use Rattle.lsdb.specs.Databases.{Database}
use Rattle.vertex_graph.specs.Graphs.{number_of}
use Rattle.vertex_graph.specs.Up.{Up}
use Rattle.spf.specs.TreeValues.{IsWorkForAll}
use Rattle.spf.proofs.Counting.{no_longer}
use Rattle.area_trees.specs.Areas.{AreaTreeValue, IsAreaTree, IsAreaOf}
use Rattle.area_trees.specs.Work.{IsWorkOf}
use Rattle.area_trees.proofs.Held.{under_key}
use Rattle.area_trees.proofs.Inside.{distance_in}

-- the vertices with a number below this one
below : ℕ → List Vertex
below zero = []
below (suc n) = Router n ∷ Network n ∷ below n

twice : (n : ℕ) → length (below n) ≡ 2 * n
unfolding below
twice zero = refl
twice (suc n) = omega (arith, twice n)

last_below : (n : ℕ) (v : Vertex) → number_of v ≡ n → Contains (Router n ∷ Network n ∷ below n) v
last_below n (Router r) is = subst (λ (m : ℕ). Contains (Router m ∷ Network m ∷ below m) (Router r)) is (first_element (Router r) (Network r ∷ below r))
last_below n (Network r) is =
    subst (λ (m : ℕ). Contains (Router m ∷ Network m ∷ below m) (Network r)) is (later_element (Router r) (Network r) (Network r ∷ below r) (first_element (Network r) (below r)))

is_below : (n : ℕ) (v : Vertex) → number_of v < n → Contains (below n) v
unfolding below
is_below zero v lt = absurd (omega (arith, lt))
is_below (suc n) v lt = elim (cases_lt (number_of v) n) [
  | inl less ↦ later_element (Router n) v (Network n ∷ below n) (later_element (Network n) v (below n) (is_below n v less))
  | inr more ↦ last_below n v (omega (arith, lt, more))
]

-- where a path leads, a link leads, if the path has one
led_to : (link : Links) (root : ℕ) (from : Vertex) (way : List TakenLink) (to : Vertex) → Leads link root from way to
    → (from ≡ to) ⊎ ((x : Vertex) × (cost : ℕ) × (label : Label) × link x to cost label)
led_to link root from [] to leads = inl leads
led_to link root from (taken ∷ way) to leads = elim (led_to link root taken.to way to leads.2) [
  | inl same ↦ inr (from, taken.cost, taken.label, subst (λ (v : Vertex). link from v taken.cost taken.label) same leads.0)
  | inr found ↦ inr found
]

-- the numbers of its LSAs are below this one
abbrev pub IsSmall : ℕ → Area → Type 0
IsSmall n a = (l : Lsa) → Contains a.lsas l → (l.header.id < n) × (l.header.router < n)

-- those of a database are such
pub small_area : (s : Inputs) (a : Area) (d : Database) (ups : List Up) → IsAreaOf s a d ups → IsSmall 4294967296 a
small_area s a d ups area l c =
    let w = under_key d l (subst (λ (ls : List Lsa). Contains ls l) area.lsas c) in
    let legal = area.sound.legal w.0 l w.1 in
    (legal.id, legal.router)

module _ (n : ℕ) (s : Inputs) (a : Area) (small : IsSmall n a) where
  router_small : (r flags : ℕ) (links : List RouterLink) → IsRouter a r flags links → r < n
  router_small r flags links is = subst (λ (m : ℕ). m < n) is.lsa.2 (small is.lsa.0 is.lsa.1.held).1

  network_small : (id mask : ℕ) (routers : List ℕ) → IsNetwork a id mask routers → id < n
  network_small id mask routers is = let l = is.chosen.1 in subst (λ (m : ℕ). m < n) l.lsa.2 (small l.lsa.0 l.lsa.1.held).0

  -- a link leads to a vertex with a number below
  head_small : (x y : Vertex) (cost : ℕ) (label : Label) → IsLink s a x y cost label → number_of y < n
  head_small (Router from) (Router to) cost label l = let named = l.10 in router_small to named.0 named.1 named.3
  head_small (Router from) (Network to) cost label l = let lists = l.10 in network_small to lists.0 lists.1 lists.2
  head_small (Network from) (Router to) cost label l = router_small to l.0 l.1 l.5
  head_small (Network from) (Network to) cost label l = absurd l

  path_small : (root : ℕ) (has : Type 0) (v : Vertex) (way : List TakenLink) → v ≢ Router root → IsPath (IsLink s a) root has way v → number_of v < n
  path_small root has v way other path = elim (led_to (IsLink s a) root (Router root) way v path.1) [
    | inl same ↦ absurd (other (sym same))
    | inr l ↦ head_small l.0 v l.1 l.2 l.3
  ]

  first_small : (root : ℕ) (has : Type 0) (v : Vertex) (h : NextHop) (way : List TakenLink) → IsPath (IsLink s a) root has way v → IsFirst way h → number_of v < n
  first_small root has v h [] path first = absurd first
  first_small root has v h (taken ∷ way) path first = elim (led_to (IsLink s a) root taken.to way v path.1.2) [
    | inl same ↦ head_small (Router root) v taken.cost taken.label (subst (λ (u : Vertex). IsLink s a (Router root) u taken.cost taken.label) same path.1.0)
    | inr l ↦ head_small l.0 v l.1 l.2 l.3
  ]

  -- and so is one that has a next hop
  hop_small : (root : ℕ) (has : Type 0) (v : Vertex) (h : NextHop) → IsHop (IsLink s a) root has v h → number_of v < n
  hop_small root has v h is = first_small root has v h is.path.0 is.path.1 is.path.3

-- the work of a change
pub change_small : (n root : ℕ) (s t : Inputs) (a b : Area) (had has : Type 0) (taken sets : ℕ) → IsSmall n a → IsSmall n b
    → IsWorkOf root (IsLink s a) (IsLink t b) had has taken sets → (taken ≤ 4 * n) × (sets ≤ 4 * n)
change_small n root s t a b had has taken sets small other_small work =
    let written : (v : Vertex) → Contains work.written v → Contains (below n) v = λ v c. elim (cases_lt (number_of v) n) [
      | inl less ↦ is_below n v less
      | inr more ↦ absurd ((work.written_exact v).0 c (λ h. (
        λ after. absurd (omega (arith, more, hop_small n t b other_small root has v h after)),
        λ before. absurd (omega (arith, more, hop_small n s a small root had v h before)),
      )))
    ] in (
      omega (arith, twice n, work.taken_twice_most (below n) (λ v d other distance. is_below n v (path_small n t b other_small root has v distance.reached.0 other distance.reached.1))),
      omega (arith, twice n, work.sets_are, no_longer work.written (below n) work.written_apart written),
    )

-- the work of a build
pub build_small : (n : ℕ) (s : Inputs) (a : Area) (d : Database) (ups : List Up) (t : AreaTreeValue) (taken sets : ℕ) → IsSmall n a → IsAreaOf s a d ups → IsAreaTree s.router d ups t
    → IsWorkForAll t.area.graph t.tree taken sets → (taken ≤ 4 * n) × (sets ≤ 4 * n)
build_small n s a d ups t taken sets small area is work =
    let reached : (v : Vertex) → Contains work.reached v → Contains (below n) v = λ v c.
    let w = (work.reached_exact v).0 c in
    let distance = (distance_in area is v w.0.0).1 w.0.1 in
    let other : v ≢ Router s.router = λ same. w.1 (same ∙ ap Router (sym is.root_is)) in
    is_below n v (path_small n s a small s.router _ v distance.reached.0 other distance.reached.1) in
    let few = no_longer work.reached (below n) work.reached_apart reached in
    (omega (arith, twice n, work.taken_are, few), omega (arith, twice n, work.sets_are, few))

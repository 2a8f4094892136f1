-- What links give, as lists of next hops.
use Rattle.std.proofs.Common.{◌≡◌, ◌≢◌, ℕ, List, [], ◌∷◌, sym, inl, inr}
use Rattle.std.specs.Prelude.{◌↔◌}
use Rattle.std.specs.List.{Contains, flat_map}
use Rattle.std.proofs.lemmas.List.Elements.{Contains-append_left, Contains-append_right, Contains-append_cases}
use Rattle.std.proofs.lemmas.List.Concat.{flat_map-cons}
use Rattle.ospf_types.specs.declared.entry.Vertex.{Vertex}
use Rattle.ospf_types.specs.declared.entry.Vertex.TheVariants.{Router, Network}
use Rattle.ospf_types.specs.declared.hop.NextHop.{NextHop}
use Rattle.ospf_types.specs.declared.hop.NextHop.TheVariants as hop
use Rattle.ospf_types.specs.declared.label.Label.{Label}
use Rattle.ospf_types.specs.declared.label.Label.TheVariants.{Over, At, Plain}
use Rattle.ospf_types.specs.Distances.{FirstOnly}
use Rattle.ospf_types.proofs.Elements.{no_element, first_element, later_element, first_or_later, mapped_element, mapped_from}
use Rattle.spf.specs.Trees.{HandsOn, GivesHop, first_hops, handed_on}

-- the one element of a list
pub only_element : {X : Type 0} (x y : X) → Contains (x ∷ []) y ↔ (y ≡ x)
only_element x y = (
  λ c. elim (first_or_later x y [] c) [ inl same ↦ same | inr none ↦ absurd (no_element y none) ],
  λ same. rw same (first_element x []),
)

-- what the lists of some elements contain
pub contains_flat_map : {X Y : Type 0} (f : X → List Y) (xs : List X) (y : Y) → Contains (flat_map f xs) y ↔ ((x : X) × Contains xs x × Contains (f x) y)
contains_flat_map f [] y = (λ none. absurd (no_element y none), λ w. absurd (no_element w.0 w.1))
contains_flat_map f (x ∷ xs) y = (
  λ c. elim (Contains-append_cases (f x) (flat_map f xs) y (rw flat_map-cons at c)) [
    | inl here ↦ (x, first_element x xs, here)
    | inr rest ↦ let w = (contains_flat_map f xs y).0 rest in (w.0, later_element x w.0 xs w.1, w.2)
  ],
  λ w. rw (flat_map-cons f x xs) (elim (first_or_later x w.0 xs w.1) [
    | inl same ↦ Contains-append_left (f x) (flat_map f xs) y (rw (sym same) w.2)
    | inr later ↦ Contains-append_right (f x) (flat_map f xs) y ((contains_flat_map f xs y).1 (w.0, later, w.2))
  ]),
)

-- the list of the next hop of one step
pub first_hops_are : (v : Vertex) (l : Label) (h : NextHop) → Contains (first_hops v l) h ↔ FirstOnly v l h
first_hops_are (Router r) (Over i) h = only_element (hop.Peer i) h
first_hops_are (Network n) (Over i) h = only_element (hop.Direct i) h
first_hops_are (Router r) (At addresses) h = (no_element h, λ none. absurd none)
first_hops_are (Network n) (At addresses) h = (no_element h, λ none. absurd none)
first_hops_are (Router r) Plain h = (no_element h, λ none. absurd none)
first_hops_are (Network n) Plain h = (no_element h, λ none. absurd none)

-- the list of the hops that are passed on
pub handed_on_is : (g : NextHop) (l : Label) (h : NextHop) → Contains (handed_on g l) h ↔ HandsOn g l h
handed_on_is (hop.Direct i) (At addresses) h = (
  λ c. let w = mapped_from (λ a. hop.Router i a) addresses h c in (w.0, w.1, sym w.2),
  λ w. rw w.2 (mapped_element (λ a. hop.Router i a) addresses w.0 w.1),
)
handed_on_is (hop.Direct i) (Over other) h = (no_element h, λ none. absurd none)
handed_on_is (hop.Direct i) Plain h = (no_element h, λ none. absurd none)
handed_on_is (hop.Peer i) l h = only_element (hop.Peer i) h
handed_on_is (hop.Router i a) l h = only_element (hop.Router i a) h

module _ (root : ℕ) (sets : Vertex → List NextHop) (from to : Vertex) (label : Label) (h : NextHop) where
  -- what a link out of the root gives
  pub gives_from_root : from ≡ Router root → Contains (first_hops to label) h ↔ GivesHop root (λ v g. Contains (sets v) g) from to label h
  gives_from_root is_root = (
    λ c. inl (is_root, (first_hops_are to label h).0 c),
    λ given. elim given [ inl w ↦ (first_hops_are to label h).1 w.1 | inr w ↦ absurd (w.0 is_root) ],
  )

  -- what another link gives
  pub gives_from_other : from ≢ Router root → Contains (flat_map (λ g. handed_on g label) (sets from)) h ↔ GivesHop root (λ v g. Contains (sets v) g) from to label h
  gives_from_other other = (
    λ c. let w = (contains_flat_map (λ g. handed_on g label) (sets from) h).0 c in inr (other, w.0, w.1, (handed_on_is w.0 label h).0 w.2),
    λ given. elim given [
      | inl w ↦ absurd (other w.0)
      | inr w ↦ (contains_flat_map (λ g. handed_on g label) (sets from) h).1 (w.1, w.2, (handed_on_is w.1 label h).1 w.3)
    ],
  )

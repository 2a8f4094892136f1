-- Sets of next hops to which what is given is added, part by part.
use Rattle.std.proofs.Common.{◌≡◌, ◌≢◌, ℕ, ◌+◌, ◌<◌, ◌≤◌, List, [], ◌∷◌, length, take, get_or, refl, sym, ap, subst, ◌∙◌, arith, Option, Some, ◌⊎◌, inl, inr}
use Rattle.std.specs.Prelude.{◌↔◌}
use Rattle.std.specs.List.{Contains}
use Rattle.std.proofs.lemmas.List.{get_or_default}
use Rattle.ospf_types.specs.declared.entry.Vertex.{Vertex}
use Rattle.ospf_types.specs.declared.hop.NextHop.{NextHop}
use Rattle.ospf_types.specs.declared.hop.NextHop.TheVariants as hop
use Rattle.ospf_types.specs.declared.label.Label.{Label}
use Rattle.ospf_types.specs.declared.label.Label.TheVariants.{Over, At, Plain}
use Rattle.ospf_types.specs.Distances.{FirstOnly}
use Rattle.std.specs.FinMap.{get}
use Rattle.std.specs.List.Sorted.{IsStrictlySortedBy}
use Rattle.ospf_types.specs.declared.entry.Vertex.TheVariants.{Router}
use Rattle.ospf_types.specs.Distances.{Links}
use Rattle.ospf_types.specs.Hops.{hop_cmp}
use Rattle.ospf_types.proofs.Elements.{no_element, first_element}
use Rattle.ospf_types.proofs.OneBest.{same_list}
use Rattle.ospf_types.proofs.Orders.{hop_total, hop_exact}
use Rattle.vertex_graph.specs.Labels.{addresses_of}
use Rattle.vertex_graph.specs.GraphLink.{GraphLink}
use Rattle.vertex_queue.specs.Maps.{HopMap}
use Rattle.spf.specs.Changes.{link_value}
use Rattle.spf.specs.Parts.{hops_of}
use Rattle.spf.specs.HandedOn.{IsOfSome, IsLeastLink, IsGivenOver, IsHandedOn, IsUnion}
use Rattle.spf.specs.Trees.{HandsOn, IsGiven, first_hops}
use Rattle.spf.proofs.Lists.{only_element, first_hops_are}
use Rattle.spf.proofs.OfSome.{of_none, of_more, of_all}

-- where nothing is given, the set stays
pub union_none : (old : List NextHop) (Given : NextHop → Type 0) → ((h : NextHop) → Given h → ⊥) → IsUnion old old Given
union_none old Given none = record { union = λ h. (λ c. inl c, λ w. elim w [ inl c ↦ c | inr given ↦ absurd (none h given) ]) }

-- what is given, under another name
pub union_same : (old new : List NextHop) (P Q : NextHop → Type 0) → ((h : NextHop) → P h ↔ Q h) → IsUnion old new P → IsUnion old new Q
union_same old new P Q same u = record {
  union = λ h. (
    λ c. elim ((u.union h).0 c) [ inl was ↦ inl was | inr given ↦ inr ((same h).0 given) ],
    λ w. (u.union h).1 (elim w [ inl was ↦ inl was | inr given ↦ inr ((same h).1 given) ]),
  );
}

-- what is given in two parts
pub union_both : (old mid new : List NextHop) (P Q : NextHop → Type 0) → IsUnion old mid P → IsUnion mid new Q → IsUnion old new (λ h. P h ⊎ Q h)
union_both old mid new P Q first second = record {
  union = λ h. (
    λ c. elim ((second.union h).0 c) [ inr given ↦ inr (inr given) | inl was ↦ elim ((first.union h).0 was) [ inl earlier ↦ inl earlier | inr given ↦ inr (inl given) ] ],
    λ w. (second.union h).1 (elim w [ inl earlier ↦ inl ((first.union h).1 (inl earlier)) | inr (inl given) ↦ inl ((first.union h).1 (inr given)) | inr (inr given) ↦ inr given ]),
  );
}

-- one next hop is given
pub union_one : (old new : List NextHop) (hop : NextHop) → ((h : NextHop) → Contains new h ↔ (Contains old h ⊎ (h ≡ hop))) → IsUnion old new (λ h. h ≡ hop)
union_one old new hop added = record { union = added }

module _ {A : Type 0} (P : A → NextHop → Type 0) where
  -- what no element gives
  pub union_start : (xs : List A) (old : List NextHop) → IsUnion old old (IsOfSome (take 0 xs) P)
  union_start xs old = union_none old (IsOfSome (take 0 xs) P) (λ h w. of_none P h w)

  -- what one more element gives
  pub union_more : (xs : List A) (i : ℕ) (x : A) (old mid new : List NextHop) → i < length xs → x ≡ get_or xs i x → IsUnion old mid (IsOfSome (take i xs) P) → IsUnion mid new (P x) → IsUnion old new (IsOfSome (take (i + 1) xs) P)
  union_more xs i x old mid new lt is before here =
      union_same old new (λ h. IsOfSome (take i xs) P h ⊎ P x h) (IsOfSome (take (i + 1) xs) P) (λ h. let m = of_more P xs i x h lt is in (m.1, m.0)) (union_both old mid new (IsOfSome (take i xs) P) (P x) before here)

  -- one element more, where it is read with a default
  pub union_turn : (xs : List A) (i : ℕ) (d : A) (old mid new : List NextHop) → i < length xs → IsUnion old mid (IsOfSome (take i xs) P) → IsUnion mid new (P (get_or xs i d)) → IsUnion old new (IsOfSome (take (i + 1) xs) P)
  union_turn xs i d old mid new lt before here = union_more xs i (get_or xs i d) old mid new lt (get_or_default xs i d (get_or xs i d) lt) before here

  -- what all elements give
  pub union_end : (xs : List A) (i : ℕ) (old new : List NextHop) → length xs ≤ i → IsUnion old new (IsOfSome (take i xs) P) → IsUnion old new (IsOfSome xs P)
  union_end xs i old new past u = union_same old new (IsOfSome (take i xs) P) (IsOfSome xs P) (λ h. of_all P xs i h past) u

-- the next hop of a path that is one link
pub union_first : (old new : List NextHop) (hop : NextHop) (to : Vertex) (label : Label) → hop ∷ [] ≡ first_hops to label → ((h : NextHop) → Contains new h ↔ (Contains old h ⊎ (h ≡ hop))) → IsUnion old new (FirstOnly to label)
union_first old new hop to label is added =
    union_same old new (λ h. h ≡ hop) (FirstOnly to label) (λ h.
    let one = only_element hop h in
    let first = first_hops_are to label h in
    (λ same. first.0 (subst (λ (hs : List NextHop). Contains hs h) is (one.1 same)), λ given. one.0 (subst (λ (hs : List NextHop). Contains hs h) (sym is) (first.1 given)))) (union_one old new hop added)

-- where the label has no next hop
pub no_first : (old : List NextHop) (to : Vertex) (label : Label) → [] ≡ first_hops to label → IsUnion old old (FirstOnly to label)
no_first old to label is = union_none old (FirstOnly to label) (λ h given. no_element h (subst (λ (hs : List NextHop). Contains hs h) (sym is) ((first_hops_are to label h).1 given)))

-- a network is not attached at these, so they stay
pub handed_on_whole : (tail : List NextHop) (label : Label) (h : NextHop) → ((interface : ℕ) → Contains tail (hop.Direct interface) → ⊥) → Contains tail h ↔ IsOfSome tail (IsHandedOn label) h
handed_on_whole tail label h none = (
  λ c. (h, c, stays h c),
  λ w. subst (λ (g : NextHop). Contains tail g) (same w.0 w.1 h w.2) w.1,
)
  where
    stays : (g : NextHop) → Contains tail g → HandsOn g label g
    stays (hop.Direct i) c = absurd (none i c)
    stays (hop.Peer i) c = refl
    stays (hop.Router i a) c = refl

    same : (g : NextHop) → Contains tail g → (k : NextHop) → HandsOn g label k → g ≡ k
    same (hop.Direct i) c k handed_on = absurd (none i c)
    same (hop.Peer i) c k handed_on = sym handed_on
    same (hop.Router i a) c k handed_on = sym handed_on

-- so they are added as they are
pub union_whole : (tail : List NextHop) (label : Label) (old new : List NextHop) → ((interface : ℕ) → Contains tail (hop.Direct interface) → ⊥) → ((h : NextHop) → Contains new h ↔ (Contains old h ⊎ Contains tail h))
    → IsUnion old new (IsOfSome tail (IsHandedOn label))
union_whole tail label old new none united = union_same old new (Contains tail) (IsOfSome tail (IsHandedOn label)) (λ h. handed_on_whole tail label h none) (record { union = united })

-- a next hop other than that of a network that is attached stays
pub union_stays : (old new : List NextHop) (g : NextHop) (label : Label) → ((x : ℕ) × (g ≡ hop.Peer x)) ⊎ ((x : ℕ) × (y : ℕ) × (g ≡ hop.Router x y)) → ((h : NextHop) → Contains new h ↔ (Contains old h ⊎ (h ≡ g))) → IsUnion old new (HandsOn g label)
union_stays old new (hop.Peer i) label is added = union_one old new (hop.Peer i) added
union_stays old new (hop.Router i a) label is added = union_one old new (hop.Router i a) added
union_stays old new (hop.Direct i) label (inl peer) added = let e : hop.Direct i ≡ hop.Peer peer.0 = peer.1 in absurd cc
union_stays old new (hop.Direct i) label (inr router) added = let e : hop.Direct i ≡ hop.Router router.0 router.1 = router.2 in absurd cc

-- ---- what one link gives

module _ (root : ℕ) (distance : Vertex → Option ℕ) (hops : HopMap) (l : GraphLink) (least : IsLeastLink distance l) (old new : List NextHop) where
  -- a least link out of the root
  pub union_from_root : l.from ≡ Router root → IsUnion old new (FirstOnly l.to l.label) → IsUnion old new (IsGivenOver root distance (hops_of hops) l)
  union_from_root is_root = union_same old new (FirstOnly l.to l.label) (IsGivenOver root distance (hops_of hops) l) (λ h. (
    λ first. (least, inl (is_root, first)),
    λ given. elim given.1 [ inl w ↦ w.1 | inr w ↦ absurd (w.0 is_root) ],
  ))

  -- a least link out of another vertex that has next hops
  pub union_from_other : (tail : List NextHop) → l.from ≢ Router root → get hops l.from ≡ Some tail → IsUnion old new (IsOfSome tail (IsHandedOn l.label)) → IsUnion old new (IsGivenOver root distance (hops_of hops) l)
  union_from_other tail other at = union_same old new (IsOfSome tail (IsHandedOn l.label)) (IsGivenOver root distance (hops_of hops) l) (λ h. (
    λ w. (least, inr (other, w.0, (tail, at, w.1), w.2)),
    λ given. elim given.1 [
      | inl w ↦ absurd (other w.0)
      | inr w ↦
          let both : Some w.2.0 ≡ Some tail = sym w.2.1 ∙ at in
          let same : w.2.0 ≡ tail = cc in
          (w.1, subst (λ (hs : List NextHop). Contains hs w.1) same w.2.2, w.3)
    ],
  ))

-- all links into a vertex
pub union_is_given : (link : Links) (root : ℕ) (distance : Vertex → Option ℕ) (hops : Vertex → NextHop → Type 0) (v : Vertex) (links : List GraphLink) (set : List NextHop)
    → ((l : GraphLink) → Contains links l ↔ ((l.to ≡ v) × link l.from l.to l.cost l.label)) → IsUnion [] set (IsOfSome links (IsGivenOver root distance hops))
    → (h : NextHop) → Contains set h ↔ IsGiven link root distance hops v h
union_is_given link root distance hops v links set exact u h = (
  λ c. elim ((u.union h).0 c) [
    | inl none ↦ absurd (no_element h none)
    | inr w ↦ let at = (exact w.0).0 w.1 in subst (λ (to : Vertex). IsGiven link root distance hops to h) at.0 (record {
      from = w.0.from;
      cost = w.0.cost;
      label = w.0.label;
      least = record { taken = at.1; near = w.2.0.near; tail = w.2.0.tail; head = w.2.0.head };
      gives = w.2.1;
    })
  ],
  λ g. (u.union h).1 (inr (
    link_value g.from v g.cost g.label,
    (exact (link_value g.from v g.cost g.label)).1 (refl, g.least.taken),
    (record { near = g.least.near; tail = g.least.tail; head = g.least.head }, g.gives),
  )),
)

-- ---- sets that are the same

-- sets in order that are equal have the same next hops, and no others do
pub same_sets : (xs ys : List NextHop) → IsStrictlySortedBy hop_cmp xs → IsStrictlySortedBy hop_cmp ys → (xs ≡ ys) ↔ ((h : NextHop) → Contains xs h ↔ Contains ys h)
same_sets xs ys in_order_x in_order_y = (
  λ e h. (λ c. subst (λ (zs : List NextHop). Contains zs h) e c, λ c. subst (λ (zs : List NextHop). Contains zs h) (sym e) c),
  same_list hop_total hop_exact xs ys in_order_x in_order_y,
)

-- the empty set
pub same_as_none : (xs : List NextHop) → (xs ≡ []) ↔ ((h : NextHop) → Contains {X = NextHop} [] h ↔ Contains xs h)
same_as_none [] = (λ e h. (λ c. c, λ c. c), λ same. refl)
same_as_none (x ∷ xs) = (λ e. absurd (let n : length (x ∷ xs) ≡ 0 = ap length e in omega (arith, n)), λ same. absurd (no_element x ((same x).1 (first_element x xs))))

-- no addresses give nothing
union_unaddressed : (i : ℕ) (Given : NextHop → Type 0) → ((h : NextHop) → Given h → ⊥) → (old new : List NextHop) → IsUnion old new (IsOfSome [] (λ (a : ℕ) (h : NextHop). h ≡ hop.Router i a)) → IsUnion old new Given
union_unaddressed i Given none old new u =
    let IsHop : ℕ → NextHop → Type 0 = λ a h. h ≡ hop.Router i a in
    union_same old new (IsOfSome [] IsHop) Given (λ h. (λ some. absurd (of_none IsHop h some), λ given. absurd (none h given))) u

-- what a link out of a network that is attached to the root passes on, by the addresses of its
-- label
pub union_addresses : (i : ℕ) (label : Label) (old new : List NextHop) → IsUnion old new (IsOfSome (addresses_of label) (λ (a : ℕ) (h : NextHop). h ≡ hop.Router i a)) → IsUnion old new (HandsOn (hop.Direct i) label)
union_addresses i (At addresses) old new u = u
union_addresses i (Over other) old new u = union_unaddressed i (HandsOn (hop.Direct i) (Over other)) (λ h given. given) old new u
union_addresses i Plain old new u = union_unaddressed i (HandsOn (hop.Direct i) Plain) (λ h given. given) old new u

-- How the next hops after are found: a set that is written breaks only what its least links pass
-- on, and those are looked at later.
use Rattle.std.proofs.Common.{◌≡◌, ◌≢◌, ℕ, ◌+◌, ◌<◌, List, Option, Some, None, refl, sym, ap, subst, ◌∙◌, ◌⊎◌, inl, inr, arith}
use Rattle.std.specs.Prelude.{◌↔◌}
use Rattle.std.specs.List.{Contains}
use Rattle.ospf_types.specs.declared.entry.Vertex.{Vertex}
use Rattle.ospf_types.specs.declared.entry.Vertex.TheVariants.{Router}
use Rattle.ospf_types.specs.declared.hop.NextHop.{NextHop}
use Rattle.ospf_types.specs.declared.label.Label.{Label}
use Rattle.ospf_types.specs.Distances.{Links}
use Rattle.vertex_queue.proofs.Elements.{cases_vertex}
use Rattle.spf.specs.Trees.{AreLinks, IsShortestLink, IsGiven, AreUnions, rank}
use Rattle.spf.specs.Repairs.{AreForward, IsEmptyQueue, IsQueued, AreRightOrQueued}
use Rattle.spf.proofs.Ranks.{rank_grows}
use Rattle.spf.proofs.Settling.{given_more}

-- a vertex is queued or not
pub cases_queued : (queue : Vertex → Option ℕ) (v : Vertex) → IsQueued queue v ⊎ (IsQueued queue v → ⊥)
cases_queued queue v = go (queue v) refl
  where
    go : (o : Option ℕ) → queue v ≡ o → IsQueued queue v ⊎ (IsQueued queue v → ⊥)
    go None is = inr (λ q. let differ : Some q.0 ≡ None = sym q.1 ∙ is in cc)
    go (Some k) is = inl (k, is)

module _ {link : Links} {root : ℕ} {has_root : Type 0} (links : AreLinks link root has_root) where
  -- a least link leads to a greater rank
  pub least_later : (distance : Vertex → Option ℕ) (from to : Vertex) (cost : ℕ) (label : Label) (k e : ℕ) → IsShortestLink link distance from to cost label → distance from ≡ Some k → distance to ≡ Some e → rank from k < rank to e
  least_later distance from to cost label k e least at_from at_to =
      let tail : Some k ≡ Some least.near = sym at_from ∙ least.tail in
      let near : k ≡ least.near = cc in
      let head : Some e ≡ Some (least.near + cost) = sym at_to ∙ least.head in
      let far : e ≡ least.near + cost = cc in
      rank_grows links from to cost label k e least.taken (omega arith)

  -- so it does not lead back to its tail
  pub least_elsewhere : (distance : Vertex → Option ℕ) (from to : Vertex) (cost : ℕ) (label : Label) → IsShortestLink link distance from to cost label → from ≢ to
  least_elsewhere distance from to cost label least same =
      let less = least_later distance from to cost label least.near (least.near + cost) least least.tail least.head in
      let equal : Some least.near ≡ Some (least.near + cost) = sym least.tail ∙ ap distance same ∙ least.head in
      let number : least.near ≡ least.near + cost = cc in
      absurd (omega (arith, subst (λ v. rank v least.near < rank to (least.near + cost)) same less, ap (λ n. rank to n) number))

  -- and not to a vertex that was taken before its tail is
  pub none_again : (distance queue : Vertex → Option ℕ) (taken : List Vertex) (v done : Vertex) (k d cost : ℕ) (label : Label) → AreForward distance queue taken → queue v ≡ Some k → distance v ≡ Some k
      → IsShortestLink link distance v done cost label → distance done ≡ Some d → Contains taken done → ⊥
  none_again distance queue taken v done k d cost label before waits at least at_done in_taken =
      omega (arith, before.forward done v d k in_taken at_done waits, least_later distance v done cost label k d least at at_done)

  -- A set is written from the sets as they stand, and the heads of its least links are queued, or
  -- it is unchanged. Then each set is right or queued.
  pub right_written : (distance queue more : Vertex → Option ℕ) (sets new : Vertex → NextHop → Type 0) (v : Vertex) → AreRightOrQueued link root distance queue sets
      → ((w : Vertex) → w ≢ v → IsQueued queue w → IsQueued more w)
      → ((h : NextHop) → new v h ↔ IsGiven link root distance sets v h)
      → ((w : Vertex) → w ≢ v → (h : NextHop) → new w h ↔ sets w h)
      → ((to : Vertex) (cost : ℕ) (label : Label) → to ≢ Router root → IsShortestLink link distance v to cost label → IsQueued more to) ⊎ ((h : NextHop) → new v h ↔ sets v h)
      → AreRightOrQueued link root distance more new
  right_written distance queue more sets new v before stays written elsewhere heads = record {
    right = λ to d at other. elim (cases_queued more to) [
      | inl waits ↦ inl waits
      | inr none ↦ inr (elim (cases_vertex to v) [
        | inl same ↦ subst (λ w. (h : NextHop) → new w h ↔ IsGiven link root distance new w h) (sym same) at_v
        | inr to_other ↦ elim (before.right to d at other) [
          | inl waits ↦ absurd (none (stays to to_other waits))
          | inr right ↦ at_other to other to_other none right
        ]
      ])
    ];
  }
    where
      given_same : (to : Vertex) → ((from : Vertex) (cost : ℕ) (label : Label) → IsShortestLink link distance from to cost label → (h : NextHop) → new from h ↔ sets from h)
          → (h : NextHop) → IsGiven link root distance sets to h ↔ IsGiven link root distance new to h
      given_same to same h = (
        given_more link link root distance distance sets new to h (λ from cost label least. least) (λ from cost label least not_root g. (same from cost label least g).1),
        given_more link link root distance distance new sets to h (λ from cost label least. least) (λ from cost label least not_root g. (same from cost label least g).0),
      )

      at_v : (h : NextHop) → new v h ↔ IsGiven link root distance new v h
      at_v h =
          let same = given_same v (λ from cost label least. elsewhere from (least_elsewhere distance from v cost label least)) h in
          (λ x. same.0 ((written h).0 x), λ given. (written h).1 (same.1 given))

      tails_same : (to : Vertex) → to ≢ Router root → (IsQueued more to → ⊥) → (from : Vertex) (cost : ℕ) (label : Label) → IsShortestLink link distance from to cost label → (h : NextHop) → new from h ↔ sets from h
      tails_same to other none from cost label least = elim (cases_vertex from v) [
        | inr from_other ↦ elsewhere from from_other
        | inl same ↦ elim heads [
          | inl queued ↦ absurd (none (queued to cost label other (subst (λ w. IsShortestLink link distance w to cost label) same least)))
          | inr stayed ↦ subst (λ w. (h : NextHop) → new w h ↔ sets w h) (sym same) stayed
        ]
      ]

      at_other : (to : Vertex) → to ≢ Router root → to ≢ v → (IsQueued more to → ⊥) → ((h : NextHop) → sets to h ↔ IsGiven link root distance sets to h) → (h : NextHop) → new to h ↔ IsGiven link root distance new to h
      at_other to other to_other none right h =
          let same = given_same to (tails_same to other none) h in
          let here = elsewhere to to_other h in
          (λ x. same.0 ((right h).0 (here.0 x)), λ given. here.1 ((right h).1 (same.1 given)))

-- with nothing queued, each set is what the least links give
pub unions_at_end : {link : Links} {root : ℕ} (distance queue : Vertex → Option ℕ) (sets : Vertex → NextHop → Type 0) → IsEmptyQueue queue → AreRightOrQueued link root distance queue sets → AreUnions link root distance sets
unions_at_end distance queue sets none right = record {
  union = λ to d at other. elim (right.right to d at other) [
    | inl q ↦ let differ : Some q.0 ≡ None = sym q.1 ∙ none to in absurd cc
    | inr union ↦ union
  ];
}

-- The links between two vertices on a side of a change, and the vertices that a vertex names.
use Rattle.std.proofs.Common.{◌≡◌, ◌≢◌, ◌⊎◌, inl, inr, ⊎_elim, ℕ, true, List, [], ◌∷◌, length, get_or, Ok, Err, Result, Ordering, refl, sym, ap, subst, ◌∙◌}
use Rattle.std.specs.Prelude.{◌↔◌, Contains, IfOk}
use Rattle.std.specs.List.{HoldsAt}
use Rattle.std.specs.List.Sorted.{IsSearchInRange, IsStrictlySortedBy}
use Rattle.std.specs.Result.{is_ok}
use Rattle.std.specs.declared.cmp.Ordering.TheVariants.{Equal}
use Rattle.ospf_types.specs.declared.entry.Vertex.{Vertex}
use Rattle.ospf_types.specs.Distances.{Links}
use Rattle.ospf_types.proofs.Elements.{no_element, first_element}
use Rattle.graph_links.specs.declared.link_end.LinkEnd.{LinkEnd}
use Rattle.graph_links.specs.declared.link.GraphLink.{GraphLink}
use Rattle.graph_links.specs.declared.link.Up.{Up}
use Rattle.graph_links.specs.contracts.link_end.LinkEndOrd.TheImpl as end_order
use Rattle.graph_links.specs.EndOrder.{end_cmp}
use Rattle.graph_links.specs.Pairs.{AreAllAt, Names, IsPairLink}
use Rattle.graph_links.specs.Sides.{Leading, LinksBy, ends_or, IsOutTo, IsIntoFrom}
use Rattle.graph_links.proofs.EndOrders.{end_exact, end_cmp_is}
use Rattle.graph_links.proofs.Growing.{front}
use Rattle.graph_links.proofs.PairAlike.{pair_names, pair_named}

-- an end that a search comes upon is there
pub searched : (r : Result ℕ ℕ) (ends : List LinkEnd) (end : LinkEnd) → IfOk r (HoldsAt (λ y. end_order.ghosts.cmp y end ≡ Equal) ends) → IsSearchInRange r (length ends) → is_ok r ≡ true → Contains ends end
searched (Ok i) ends end at within ok = (i, within, end_exact (get_or ends i end) end (ap (λ (cmp : LinkEnd → LinkEnd → Ordering). cmp (get_or ends i end) end) (sym end_cmp_is) ∙ at end))
searched (Err i) ends end at within ok = absurd cc

-- ---- links from one vertex to another

-- the list has, in addition to its old elements, the links from one vertex to the other
abbrev pub IsListed : Links → Vertex → Vertex → List GraphLink → List GraphLink → Type 0
IsListed Link_of v w old new = (l : GraphLink) → Contains new l ↔ (Contains old l ⊎ IsOutTo Link_of v l w)

pub as_listed : (root : ℕ) (ups : List Up) (leading : Leading) (v w from to : Vertex) (ends back : List LinkEnd) (old new : List GraphLink) → from ≡ v → to ≡ w → ends ≡ ends_or (leading v) → back ≡ ends_or (leading w)
    → ((l : GraphLink) → Contains new l ↔ (Contains old l ⊎ ((l.from ≡ from) × (l.to ≡ to) × IsPairLink root ups from ends to back l.cost l.label)))
    → IsListed (LinksBy root ups leading) v w old new
as_listed root ups leading v w from to ends back old new from_is to_is ends_are back_are lists l =
    let VertexPair : Vertex → Vertex → List LinkEnd → List LinkEnd → Type 0 = λ a b x y. Contains new l ↔ (Contains old l ⊎ ((l.from ≡ a) × (l.to ≡ b) × IsPairLink root ups a x b y l.cost l.label)) in
    let here : VertexPair v w (ends_or (leading v)) (ends_or (leading w)) =
    subst (λ (t : (Vertex × Vertex) × (List LinkEnd × List LinkEnd)). VertexPair t.0.0 t.0.1 t.1.0 t.1.1) (λ i. ((from_is i, to_is i), (ends_are i, back_are i))) (lists l) in
    let Link_of : Vertex × Vertex → Type 0 = λ p. LinksBy root ups leading p.0 p.1 l.cost l.label in (
      λ c. ⊎_elim (λ (o : Contains old l). inl o) (λ (n : (l.from ≡ v) × (l.to ≡ w) × LinksBy root ups leading v w l.cost l.label). inr (n.0, n.1, subst Link_of (λ i. (sym n.0 i, sym n.1 i)) n.2)) (here.0 c),
      λ c. here.1 (⊎_elim (λ (o : Contains old l). inl o) (λ (n : IsOutTo (LinksBy root ups leading) v l w). inr (n.0, n.1, subst Link_of (λ i. (n.0 i, n.1 i)) n.2)) c),
    )

-- where the other has no end at the vertex, there are none either way
module _ (root : ℕ) (ups : List Up) (leading : Leading) (v w : Vertex) (back : List LinkEnd) (none : back ≡ []) (exact : (e : LinkEnd) → Contains back e ↔ (Contains (ends_or (leading w)) e × (e.to ≡ v))) where
  not_named : Names (ends_or (leading w)) v → ⊥
  not_named named = no_element named.0 (subst (λ (es : List LinkEnd). Contains es named.0) none ((exact named.0).1 (named.1, named.2)))

  pub none_out : (l : GraphLink) → IsOutTo (LinksBy root ups leading) v l w → ⊥
  none_out l is =
      let Link_of : Vertex × Vertex → Type 0 = λ p. LinksBy root ups leading p.0 p.1 l.cost l.label in
      not_named (pair_named root ups v w (ends_or (leading v)) (ends_or (leading w)) l.cost l.label (subst Link_of (λ i. (is.0 i, is.1 i)) is.2))

  pub none_into : (l : GraphLink) → IsIntoFrom (LinksBy root ups leading) v l w → ⊥
  none_into l is =
      let Link_of : Vertex × Vertex → Type 0 = λ p. LinksBy root ups leading p.0 p.1 l.cost l.label in
      not_named (pair_names root ups w v (ends_or (leading w)) (ends_or (leading v)) l.cost l.label (subst Link_of (λ i. (is.0 i, is.1 i)) is.2))

-- so nothing is listed
pub none_listed : (links : List GraphLink) (P : GraphLink → Type 0) → ((l : GraphLink) → P l → ⊥) → (l : GraphLink) → Contains links l ↔ (Contains links l ⊎ P l)
none_listed links P none l = (λ c. inl c, λ h. ⊎_elim (λ (c : Contains links l). c) (λ (p : P l). absurd (none l p)) h)

-- ends that are not none are all that there are at the vertex
pub some_at : (v : Vertex) (all ends : List LinkEnd) → IsStrictlySortedBy end_cmp ends → ((e : LinkEnd) → Contains ends e ↔ (Contains all e × (e.to ≡ v))) → ends ≢ [] → AreAllAt v all ends
some_at v all [] sorted exact some = absurd (some refl)
some_at v all (e ∷ es) sorted exact some = record { in_order = sorted; exact = exact; some = (e, first_element e es, ((exact e).0 (first_element e es)).1) }

-- ---- links that are missing in another graph

-- what is there and what is left, as one more is taken
module _ (others initial has rest mid new whole : List GraphLink) (x : GraphLink) (steps : whole ≡ x ∷ rest) (before : (k : GraphLink) → (Contains mid k ⊎ (Contains whole k × (Contains others k → ⊥))) ↔ (Contains initial k ⊎ (Contains has k × (Contains others k → ⊥))))
    (one : (k : GraphLink) → Contains new k ↔ (Contains mid k ⊎ ((k ≡ x) × (Contains others k → ⊥)))) where
  in_whole : (k : GraphLink) → Contains whole k ↔ ((k ≡ x) ⊎ Contains rest k)
  in_whole k = subst (λ (ls : List GraphLink). Contains ls k ↔ ((k ≡ x) ⊎ Contains rest k)) (sym steps) (front x rest k)

  to_before : (k : GraphLink) → Contains new k ⊎ (Contains rest k × (Contains others k → ⊥)) → Contains mid k ⊎ (Contains whole k × (Contains others k → ⊥))
  to_before k h =
      ⊎_elim (λ (c : Contains new k). ⊎_elim (λ (m : Contains mid k). inl m) (λ (n : (k ≡ x) × (Contains others k → ⊥)). inr ((in_whole k).1 (inl n.0), n.1)) ((one k).0 c))
      (λ (r : Contains rest k × (Contains others k → ⊥)). inr ((in_whole k).1 (inr r.0), r.1)) h

  from_before : (k : GraphLink) → Contains mid k ⊎ (Contains whole k × (Contains others k → ⊥)) → Contains new k ⊎ (Contains rest k × (Contains others k → ⊥))
  from_before k h =
      ⊎_elim (λ (m : Contains mid k). inl ((one k).1 (inl m)))
      (λ (w : Contains whole k × (Contains others k → ⊥)). ⊎_elim (λ (e : k ≡ x). inl ((one k).1 (inr (e, w.1)))) (λ (r : Contains rest k). inr (r, w.1)) ((in_whole k).0 w.0)) h

  pub unlike_more : (k : GraphLink) → (Contains new k ⊎ (Contains rest k × (Contains others k → ⊥))) ↔ (Contains initial k ⊎ (Contains has k × (Contains others k → ⊥)))
  unlike_more k = (λ h. (before k).0 (to_before k h), λ h. from_before k ((before k).1 h))

pub unlike_all : (others initial has rest new : List GraphLink) → rest ≡ [] → ((k : GraphLink) → (Contains new k ⊎ (Contains rest k × (Contains others k → ⊥))) ↔ (Contains initial k ⊎ (Contains has k × (Contains others k → ⊥))))
    → (k : GraphLink) → Contains new k ↔ (Contains initial k ⊎ (Contains has k × (Contains others k → ⊥)))
unlike_all others initial has rest new done before k = (
  λ c. (before k).0 (inl c),
  λ h. ⊎_elim (λ (c : Contains new k). c) (λ (n : Contains rest k × (Contains others k → ⊥)). absurd (no_element k (subst (λ (ls : List GraphLink). Contains ls k) done n.0))) ((before k).1 h),
)

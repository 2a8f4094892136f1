-- The ends of a vertex, walked group by group: all that are at one vertex stand together.
--   cut_none, cut_first, cut_past: a place between two groups
--   walked_none, walked_more, walked_all: the links to and from the vertices of the groups up to
--     a place
use Rattle.std.proofs.Common.{◌≡◌, ◌≢◌, ◌⊎◌, inl, inr, ⊎_elim, ℕ, ◌+◌, ◌-◌, ◌<◌, ◌≤◌, List, [], ◌++◌, length, get_or, take, refl, sym, ap, subst, ◌∙◌, arith}
use Rattle.std.specs.Prelude.{◌↔◌, Contains}
use Rattle.std.specs.declared.cmp.Ordering.TheVariants.{Less, Equal, Greater}
use Rattle.std.specs.List.{slice_range}
use Rattle.std.specs.List.Sorted.{IsStrictlySortedBy}
use Rattle.std.specs.Ordering.{ordering_reverse}
use Rattle.std.proofs.Math.Seq.{take-add}
use Rattle.std.proofs.lemmas.Bool.{cases_lt}
use Rattle.std.proofs.lemmas.Cmp.{tied_itself}
use Rattle.std.proofs.lemmas.List.{get_or-take, get_or_default, length-take-le, take_all}
use Rattle.std.proofs.lemmas.List.Elements.{Contains-append_left, Contains-append_right, Contains-append_cases}
use Rattle.std.proofs.lemmas.Map.Keys.{Less-from_sorted}
use Rattle.ospf_types.specs.declared.entry.Vertex.{Vertex}
use Rattle.ospf_types.specs.Distances.{Links}
use Rattle.ospf_types.specs.Vertices.{vertex_cmp}
use Rattle.ospf_types.proofs.Elements.{no_element}
use Rattle.graph_links.specs.declared.link_end.LinkEnd.{LinkEnd}
use Rattle.graph_links.specs.declared.link.GraphLink.{GraphLink}
use Rattle.graph_links.specs.EndOrder.{end_cmp}
use Rattle.graph_links.specs.declared.link.Up.{Up}
use Rattle.graph_links.specs.Pairs.{AreAllAt, Names}
use Rattle.graph_links.specs.Sides.{Leading, LinksBy, ends_or}
use Rattle.graph_links.proofs.AtVertex.{IsFirst, IsPast, before, between_exact, between_in_order}
use Rattle.graph_links.proofs.EndOrders.{vertex_total, vertex_exact}
use Rattle.graph_links.proofs.PairAlike.{pair_names, pair_named}

-- the ends before the place are at lesser vertices than those from it on
abbrev pub IsCut : List LinkEnd → ℕ → Type 0
IsCut xs i = (j k : ℕ) (d : LinkEnd) → j < i → i ≤ k → k < length xs → vertex_cmp (get_or xs j d).to (get_or xs k d).to ≡ Less

pub cut_none : (xs : List LinkEnd) → IsCut xs 0
cut_none xs j k d lt ge within = absurd (omega (arith, lt))

-- the end at such a place is the first at its vertex
pub cut_first : (xs : List LinkEnd) (i : ℕ) (d : LinkEnd) (v : Vertex) → IsStrictlySortedBy end_cmp xs → IsCut xs i → i < length xs → (get_or xs i d).to ≡ v → IsFirst v xs i
cut_first xs i d v sorted cut within at =
    let here : (e : LinkEnd) → (get_or xs i e).to ≡ v = λ e. ap (λ (x : LinkEnd). x.to) (sym (get_or_default xs i d e within)) ∙ at in (
      λ k e zero lt. subst (λ (w : Vertex). vertex_cmp (get_or xs k e).to w ≡ Less) (here e) (cut k i e lt (omega arith) within),
      λ k e ge short less.
          ⊎_elim
          (λ (behind : i < k).
          ⊎_elim
          (λ (l : vertex_cmp (get_or xs i e).to (get_or xs k e).to ≡ Less).
          let back : vertex_cmp v (get_or xs k e).to ≡ Less = subst (λ (w : Vertex). vertex_cmp w (get_or xs k e).to ≡ Less) (here e) l in
          let turned : vertex_cmp v (get_or xs k e).to ≡ Greater = vertex_total.antisymm v (get_or xs k e).to ∙ ap ordering_reverse less in
          absurd cc)
          (λ (same : (get_or xs i e).to ≡ (get_or xs k e).to).
          let tie : vertex_cmp (get_or xs k e).to v ≡ Equal = ap (λ (w : Vertex). vertex_cmp w v) (sym same ∙ here e) ∙ tied_itself vertex_total v in
          absurd cc)
          (before (get_or xs i e) (get_or xs k e) (Less-from_sorted end_cmp xs i k e sorted behind short)))
          (λ (le : k ≤ i).
          let same : k ≡ i = omega (arith, ge, le) in
          let tie : vertex_cmp (get_or xs k e).to v ≡ Equal = ap (λ (n : ℕ). vertex_cmp (get_or xs n e).to v) same ∙ ap (λ (w : Vertex). vertex_cmp w v) (here e) ∙ tied_itself vertex_total v in
          absurd cc)
          (cases_lt i k),
    )

below_or_at : (u v w : Vertex) → vertex_cmp u v ≢ Greater → vertex_cmp v w ≡ Less → vertex_cmp u w ≡ Less
below_or_at u v w low high =
    elim (vertex_cmp u v) as (λ o. vertex_cmp u v ≡ o → o ≢ Greater → vertex_cmp u w ≡ Less) [
      | Less ↦ λ e h. vertex_total.trans u v w e high
      | Equal ↦ λ e h. subst (λ (x : Vertex). vertex_cmp x w ≡ Less) (sym (vertex_exact u v e)) high
      | Greater ↦ λ e h. absurd (h refl)
    ] refl low

-- and past the ends at a vertex there is such a place
pub cut_past : (v : Vertex) (xs : List LinkEnd) (past : ℕ) → IsPast v xs past → IsCut xs past
cut_past v xs past split j k d lt ge within =
    let high : vertex_cmp v (get_or xs k d).to ≡ Less = vertex_total.antisymm v (get_or xs k d).to ∙ ap ordering_reverse (split.1 k d ge within) in
    below_or_at (get_or xs j d).to v (get_or xs k d).to (split.0 j d (omega arith) lt) high

module _ (v : Vertex) (xs : List LinkEnd) (first past : ℕ) (d : LinkEnd) (within : first < length xs) (at : (get_or xs first d).to ≡ v) (short : past ≤ length xs) (low : IsFirst v xs first) (high : IsPast v xs past) where
  -- the group is not empty
  pub goes_on : first < past
  goes_on = ⊎_elim (λ (lt : first < past). lt)
      (λ (ge : past ≤ first).
      let greater = high.1 first d ge within in
      let tie : vertex_cmp (get_or xs first d).to v ≡ Equal = ap (λ (w : Vertex). vertex_cmp w v) at ∙ tied_itself vertex_total v in
      absurd cc)
      (cases_lt first past)

  bounded : first ≤ length xs
  bounded = omega (arith, within)

  -- it has all ends at its vertex
  pub all_at : IsStrictlySortedBy end_cmp xs → AreAllAt v xs (slice_range xs first past)
  all_at sorted = record {
    in_order = between_in_order v xs first past bounded short low high sorted;
    exact = between_exact v xs first past bounded short low high;
    some = let e : LinkEnd = get_or xs first d in (e, (between_exact v xs first past bounded short low high e).1 ((first, within, sym (get_or_default xs first d e within)), at), at);
  }

  split_front : take past xs ≡ take first xs ++ slice_range xs first past
  split_front =
      let lt = goes_on in
      let sum : first + (past - first) ≡ past = omega (arith, lt) in
      ap (λ (n : ℕ). take n xs) (sym sum) ∙ take-add first (past - first) xs

  -- one vertex more
  pub names_more : (w : Vertex) → Names (take past xs) w ↔ (Names (take first xs) w ⊎ (w ≡ v))
  names_more w =
      let group : (e : LinkEnd) → Contains (slice_range xs first past) e ↔ (Contains xs e × (e.to ≡ v)) = between_exact v xs first past bounded short low high in
      let e : LinkEnd = get_or xs first d in
      let own : Contains (slice_range xs first past) e = (group e).1 ((first, within, sym (get_or_default xs first d e within)), at) in
      subst (λ (ys : List LinkEnd). Names ys w ↔ (Names (take first xs) w ⊎ (w ≡ v))) (sym split_front) (
        λ n. elim (Contains-append_cases (take first xs) (slice_range xs first past) n.0 n.1) [ inl early ↦ inl (n.0, early, n.2) | inr late ↦ inr (sym n.2 ∙ ((group n.0).0 late).1) ],
        λ h. elim h [ inl n ↦ (n.0, Contains-append_left (take first xs) (slice_range xs first past) n.0 n.1, n.2) | inr same ↦ (e, Contains-append_right (take first xs) (slice_range xs first past) e own, at ∙ sym same) ],
      )

-- no end before the first at a vertex is at it
pub not_named : (v : Vertex) (xs : List LinkEnd) (first : ℕ) → first ≤ length xs → IsFirst v xs first → Names (take first xs) v → ⊥
not_named v xs first within low named =
    let long : length (take first xs) ≡ first = length-take-le first xs within in
    let k : ℕ = named.1.0 in
    let lt : k < first = omega (arith, named.1.1, long) in
    let less = low.0 k named.0 (omega arith) lt in
    let there : get_or xs k named.0 ≡ named.0 = sym (get_or-take first xs k named.0 lt) ∙ named.1.2 in
    let tie : vertex_cmp (get_or xs k named.0).to v ≡ Equal = ap (λ (x : LinkEnd). vertex_cmp x.to v) there ∙ ap (λ (w : Vertex). vertex_cmp w v) named.2 ∙ tied_itself vertex_total v in
    absurd cc

-- ---- the links so far

-- a link out of the vertex, and one into it
abbrev pub IsLinkOut : Links → Vertex → GraphLink → Type 0
IsLinkOut Link_of v l = (l.from ≡ v) × Link_of l.from l.to l.cost l.label

abbrev pub IsLinkInto : Links → Vertex → GraphLink → Type 0
IsLinkInto Link_of v l = (l.to ≡ v) × Link_of l.from l.to l.cost l.label

-- a vertex names those that it has links to, and those that have links to it
module _ (root : ℕ) (ups : List Up) (leading : Leading) (v : Vertex) (ends : List LinkEnd) (are : ends ≡ ends_or (leading v)) where
  pub out_named : (l : GraphLink) → IsLinkOut (LinksBy root ups leading) v l → Names ends l.to
  out_named l is =
      let link : LinksBy root ups leading v l.to l.cost l.label = subst (λ (u : Vertex). LinksBy root ups leading u l.to l.cost l.label) is.0 is.1 in
      subst (λ (es : List LinkEnd). Names es l.to) (sym are) (pair_names root ups v l.to (ends_or (leading v)) (ends_or (leading l.to)) l.cost l.label link)

  pub into_named : (l : GraphLink) → IsLinkInto (LinksBy root ups leading) v l → Names ends l.from
  into_named l is =
      let link : LinksBy root ups leading l.from v l.cost l.label = subst (λ (u : Vertex). LinksBy root ups leading l.from u l.cost l.label) is.0 is.1 in
      subst (λ (es : List LinkEnd). Names es l.from) (sym are) (pair_named root ups l.from v (ends_or (leading l.from)) (ends_or (leading v)) l.cost l.label link)

module _ (Is : GraphLink → Type 0) (at : GraphLink → Vertex) (xs : List LinkEnd) where
  -- just the links to or from the vertices that the ends up to a place are at
  abbrev pub AreWalked : ℕ → List GraphLink → Type 0
  AreWalked i links = (l : GraphLink) → Contains links l ↔ (Is l × Names (take i xs) (at l))

  pub walked_none : (links : List GraphLink) → links ≡ [] → AreWalked 0 links
  walked_none links none l = (
    λ c. absurd (no_element l (subst (λ (ls : List GraphLink). Contains ls l) none c)),
    λ h. absurd (no_element h.1.0 h.1.1),
  )

  pub walked_more : (v : Vertex) (first past : ℕ) (old new : List GraphLink) (IsNew : GraphLink → Type 0) → ((w : Vertex) → Names (take past xs) w ↔ (Names (take first xs) w ⊎ (w ≡ v))) → ((l : GraphLink) → IsNew l ↔ (Is l × (at l ≡ v)))
      → ((l : GraphLink) → Contains new l ↔ (Contains old l ⊎ IsNew l)) → AreWalked first old → AreWalked past new
  walked_more v first past old new IsNew names is one were l = (
    λ c. elim ((one l).0 c) [
      | inl was ↦ (let h = (were l).0 was in (h.0, (names (at l)).1 (inl h.1)))
      | inr n ↦ (let h = (is l).0 n in (h.0, (names (at l)).1 (inr h.1)))
    ],
    λ h. (one l).1 (elim ((names (at l)).0 h.1) [ inl early ↦ inl ((were l).1 (h.0, early)) | inr same ↦ inr ((is l).1 (h.0, same)) ]),
  )

  pub walked_all : (i : ℕ) (links : List GraphLink) → length xs ≤ i → ((l : GraphLink) → Is l → Names xs (at l)) → AreWalked i links → (l : GraphLink) → Contains links l ↔ Is l
  walked_all i links past named are l =
      let all : take i xs ≡ xs = take_all i xs past in (
        λ c. ((are l).0 c).0,
        λ h. (are l).1 (h, subst (λ (ys : List LinkEnd). Names ys (at l)) (sym all) (named l h)),
      )

  -- none of them goes to the next vertex
  pub walked_others : (v : Vertex) (first : ℕ) (links : List GraphLink) → first ≤ length xs → IsFirst v xs first → AreWalked first links → (l : GraphLink) → Contains links l → at l ≡ v → ⊥
  walked_others v first links within low are l c same = not_named v xs first within low (subst (Names (take first xs)) same ((are l).0 c).1)

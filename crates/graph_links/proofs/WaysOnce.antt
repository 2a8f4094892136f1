-- The ways of a router, sorted, of which each is kept once, and the links by them.
use Rattle.std.proofs.Common.{◌≡◌, ◌≢◌, inl, inr, true, false, cond, ℕ, ◌+◌, ◌<◌, ◌≤◌, ◌∷◌, length, get_or, take, append-nil, append_assoc, arith, Bool, List, [], ◌++◌, map, Option, Some, None, Ordering, refl, sym, ap, subst, ◌∙◌}
use Rattle.std.specs.Prelude.{◌↔◌, ◌==◌, Contains}
use Rattle.std.specs.List.{dedup, refill}
use Rattle.std.specs.List.Sorted.{IsSorted, IsStrictlySortedBy, IsPermutation}
use Rattle.std.specs.Option.{option_cmp, option_eq}
use Rattle.std.specs.Ordering.{nat_cmp, is_eq, ordering_then, eq_by_cmp}
use Rattle.std.specs.Cmp.{IsTotalOrder, nat_cmp_total, both_tied, unsigned_ties, eq_by_cmp_equiv}
use Rattle.std.specs.Cmp.Lexicographic.{options_total}
use Rattle.std.proofs.lemmas.Bool.Decides.{nat_tests}
use Rattle.std.proofs.lemmas.Cmp.{on_total, then_total}
use Rattle.std.proofs.lemmas.List.{drop_all, take_more, take_all, map-append}
use Rattle.std.proofs.lemmas.List.Elements.{All-push}
use Rattle.std.proofs.lemmas.List.Kept.{IsStrictlySortedBy-dedup, Contains-dedup, Contains-from_dedup}
use Rattle.std.proofs.lemmas.List.Sorted.{Contains-permutation, IsPermutation-sym}
use Rattle.std.proofs.lemmas.Map.Lookups.{CmpEqualImpliesEq, exact_pairs, exact_unsigned}
use Rattle.std.proofs.lemmas.Map.Views.{tells_apart}
use Rattle.ospf_types.specs.declared.entry.Vertex.{Vertex}
use Rattle.ospf_types.specs.declared.entry.Vertex.TheVariants.{Router}
use Rattle.ospf_types.specs.declared.label.Label.{Label}
use Rattle.ospf_types.specs.declared.label.Label.TheVariants.{Over, At, Plain}
use Rattle.ospf_types.proofs.Elements.{first_element, first_or_later, mapped_element, mapped_from, no_element}
use Rattle.graph_links.specs.contracts.parallel_links.ParallelLinkOrd.TheImpl as way_order
use Rattle.graph_links.specs.contracts.parallel_links.ParallelLinkPartialEq.TheImpl as way_equality
use Rattle.graph_links.specs.declared.link_end.LinkEnd.{LinkEnd}
use Rattle.graph_links.specs.declared.link.GraphLink.{GraphLink}
use Rattle.graph_links.specs.declared.link.Up.{Up}
use Rattle.graph_links.specs.declared.parallel_links.ParallelLink.{ParallelLink}
use Rattle.graph_links.specs.Pairs.{AddsToList, AreApart, AreCheap, IsOutLabel, IsWay, IsWayOver, KeepsLinksApart, Names, label_over, link_by, plain_ways}
use Rattle.graph_links.proofs.Adding.{AreWaysBy, adds_list}
use Rattle.graph_links.proofs.Apart.{Apart, apart_append, apart_cons, apart_mapped, apart_nil, apart_strict}
use Rattle.graph_links.proofs.Pairing.{IsFromTo}

-- ---- the order of ways

abbrev way_cmp : ParallelLink → ParallelLink → Ordering
way_cmp a b = ordering_then (nat_cmp a.cost b.cost) (option_cmp nat_cmp a.interface b.interface)

way_cmp_is : way_order.ghosts.cmp ≡ way_cmp
way_cmp_is = refl

way_total : IsTotalOrder way_cmp
way_total = then_total (on_total (λ w. w.cost) nat_cmp_total) (on_total (λ w. w.interface) (options_total nat_cmp_total))

exact_options : CmpEqualImpliesEq (option_cmp nat_cmp)
exact_options None None h = refl
exact_options None (Some b) h = absurd cc
exact_options (Some a) None h = absurd cc
exact_options (Some a) (Some b) h = ap Some (exact_unsigned a b h)

way_exact : CmpEqualImpliesEq way_cmp
way_exact a b h =
    ap (λ (p : ℕ × Option ℕ). let w : ParallelLink = record { cost = p.0; interface = p.1 } in w)
    (exact_pairs nat_cmp (option_cmp nat_cmp) exact_unsigned exact_options (a.cost, a.interface) (b.cost, b.interface) h)

options_tied : (a b : Option ℕ) → option_eq (λ x y. x == y) a b ≡ is_eq (option_cmp nat_cmp a b)
options_tied None None = refl
options_tied None (Some b) = refl
options_tied (Some a) None = refl
options_tied (Some a) (Some b) = unsigned_ties a b

way_tied : (a b : ParallelLink) → (way_equality.eq-value).it a b ≡ eq_by_cmp way_cmp a b
way_tied a b =
    both_tied (a.cost == b.cost) (option_eq (λ x y. x == y) a.interface b.interface) (nat_cmp a.cost b.cost) (option_cmp nat_cmp a.interface b.interface)
    (unsigned_ties a.cost b.cost) (options_tied a.interface b.interface)

way_tied_is : (way_equality.eq-value).it ≡ eq_by_cmp way_cmp
way_tied_is i a b = way_tied a b i

-- a list that was sorted in its place
pub in_place : {X : Type 0} (xs ws : List X) → length ws ≡ length xs → refill (length xs) xs ws ≡ ws
in_place xs ws long =
    ap (λ ys. take (length xs) (ws ++ ys)) (drop_all (length ws) xs (omega (arith, long))) ∙ ap (take (length xs)) (append-nil ws) ∙ take_all (length xs) ws (omega (arith, long))

module _ (all sorted kept : List ParallelLink) (moved : IsPermutation all sorted) (in_order : IsSorted way_order.ghosts.cmp sorted) (each_once : kept ≡ dedup (way_equality.eq-value).it sorted) where
  kept_is : kept ≡ dedup (eq_by_cmp way_cmp) sorted
  kept_is = each_once ∙ ap (λ (same : ParallelLink → ParallelLink → Bool). dedup same sorted) way_tied_is

  -- each is kept once
  pub ways_once : Apart kept
  ways_once = apart_strict way_total kept (subst (IsStrictlySortedBy way_cmp) (sym kept_is) (IsStrictlySortedBy-dedup way_total (λ v w. refl) sorted (subst (λ (c : ParallelLink → ParallelLink → Ordering). IsSorted c sorted) way_cmp_is in_order)))

  same_ways : (w : ParallelLink) → Contains kept w ↔ Contains all w
  same_ways w = (
    λ c. Contains-permutation sorted all w (IsPermutation-sym all sorted moved) (Contains-from_dedup (eq_by_cmp way_cmp) sorted w (subst (λ (ws : List ParallelLink). Contains ws w) kept_is c)),
    λ c. subst (λ (ws : List ParallelLink). Contains ws w) (sym kept_is) (Contains-dedup (eq_by_cmp_equiv way_total) (tells_apart way_exact) sorted w (Contains-permutation all sorted w moved c)),
  )

  -- and they are the ways that there were
  pub ways_kept : (root router : ℕ) (ups : List Up) (ends : List LinkEnd) → AreWaysBy root ups router ends all → AreWaysBy root ups router ends kept
  ways_kept root router ups ends are w = (λ c. (are w).0 ((same_ways w).0 c), λ h. (same_ways w).1 ((are w).1 h))

-- ---- the links by ways

abbrev interface_of : Label → Option ℕ
interface_of (Over id) = Some id
interface_of (At addresses) = None
interface_of Plain = None

interface_back : (o : Option ℕ) → interface_of (label_over o) ≡ o
interface_back None = refl
interface_back (Some id) = refl

label_back : (root router detail : ℕ) (ups : List Up) (label : Label) → IsOutLabel root ups router detail label → label_over (interface_of label) ≡ label
label_back root router detail ups (Over id) is = refl
label_back root router detail ups (At addresses) is = absurd is
label_back root router detail ups Plain is = refl

abbrev way_of : GraphLink → ParallelLink
way_of l = record { cost = l.cost; interface = interface_of l.label }

way_back : (from to : Vertex) (w : ParallelLink) → way_of (link_by from to w) ≡ w
way_back from to w = λ i. record { cost = w.cost; interface = interface_back w.interface i }

link_one : (from to : Vertex) (v w : ParallelLink) → link_by from to v ≡ link_by from to w → v ≡ w
link_one from to v w same = sym (way_back from to v) ∙ ap way_of same ∙ way_back from to w

module _ (root router : ℕ) (ups : List Up) (to : Vertex) (ends back here : List LinkEnd) (ways : List ParallelLink) (exact : (e : LinkEnd) → Contains here e ↔ (Contains ends e × (e.to ≡ to))) (are : AreWaysBy root ups router here ways) where
  by_ways : Names back (Router router) → (l : GraphLink) → Contains (map (link_by (Router router) to) ways) l ↔ IsFromTo root ups (Router router) ends to back l
  by_ways named l = (
    λ c.
        let from = mapped_from (link_by (Router router) to) ways l c in
        let over = (are from.0).0 from.1 in
        let at = (exact over.0).0 over.1 in
        subst (IsFromTo root ups (Router router) ends to back) from.2 (refl, refl, (over.0, at.0, at.1, over.2.0, over.2.1, over.2.2, named)),
    λ h.
        let label : label_over (interface_of l.label) ≡ l.label = label_back root router h.2.0.detail ups l.label h.2.5 in
        let there : Contains ways (way_of l) = (are (way_of l)).1 (h.2.0, (exact h.2.0).1 (h.2.1, h.2.2), (h.2.3, h.2.4, subst (IsOutLabel root ups router h.2.0.detail) (sym label) h.2.5)) in
        let same : link_by (Router router) to (way_of l) ≡ l = λ i. record { from = sym h.0 i; to = sym h.1 i; cost = l.cost; label = label i } in
        subst (Contains (map (link_by (Router router) to) ways)) same (mapped_element (link_by (Router router) to) ways (way_of l) there),
  )

  module _ (from : Vertex) (old new : List GraphLink) (is : from ≡ Router router) (listed : new ≡ old ++ map (link_by from to) ways) where
    -- the links of a router to a vertex that leads back are those by its ways there
    pub adds_ways : Names back from → AddsToList old new (IsFromTo root ups from ends to back)
    adds_ways named =
        let links : (l : GraphLink) → Contains (map (link_by from to) ways) l ↔ IsFromTo root ups from ends to back l =
        subst (λ (v : Vertex). Names back v → (l : GraphLink) → Contains (map (link_by v to) ways) l ↔ IsFromTo root ups v ends to back l) (sym is) by_ways named in
        subst (λ (ls : List GraphLink). AddsToList old ls (IsFromTo root ups from ends to back)) (sym listed) (adds_list old (map (link_by from to) ways) (IsFromTo root ups from ends to back) links)

-- none of which is there twice
pub apart_ways : (from to : Vertex) (ways : List ParallelLink) (old new : List GraphLink) → new ≡ old ++ map (link_by from to) ways → Apart ways → KeepsLinksApart from to old new
apart_ways from to ways old new listed once apart none =
    subst AreApart (sym listed)
    (apart_append old (map (link_by from to) ways) apart (apart_mapped (link_by from to) (link_one from to) ways once)
    (λ l early late. let by = mapped_from (link_by from to) ways l late in none l early (sym (ap (λ (k : GraphLink). k.from) by.2)) (sym (ap (λ (k : GraphLink). k.to) by.2))))

-- ---- the way over one end, elsewhere than at the root

pub one_end : (es : List LinkEnd) (d : LinkEnd) → 1 ≤ length es → length es < 2 → get_or es 0 d ∷ [] ≡ es
one_end [] d some few = absurd (omega (arith, some))
one_end (e ∷ []) d some few = refl
one_end (e ∷ f ∷ es) d some few = absurd (omega (arith, few))

module _ (root router : ℕ) (ups : List Up) (e : LinkEnd) (elsewhere : router ≢ root) where
  plain_label : (o : Option ℕ) → IsOutLabel root ups router e.detail (label_over o) → o ≡ None
  plain_label None is = refl
  plain_label (Some id) is = absurd (elsewhere is.0)

  pub plain_are : AreWaysBy root ups router (e ∷ []) (plain_ways e)
  plain_are w =
      let way : ParallelLink = record { cost = e.metric; interface = None } in
      let one : IsWayOver root ups router (e ∷ []) w → (0 < e.metric) × (way ≡ w) =
      λ h.
      let is : IsWay root ups router e w = elim (first_or_later e h.0 [] h.1) [ inl same ↦ subst (λ (x : LinkEnd). IsWay root ups router x w) same h.2 | inr c ↦ absurd (no_element h.0 c) ] in
      let cost : e.metric ≡ w.cost = is.0 in
      let some : 0 < w.cost = is.1 in
      (omega (arith, cost, some), λ i. record { cost = cost i; interface = sym (plain_label w.interface is.2) i }) in
      elim (e.metric == 0) as (λ b. e.metric == 0 ≡ b → Contains (cond b [] (way ∷ [])) w ↔ IsWayOver root ups router (e ∷ []) w) [
        | true ↦ λ t. (λ c. absurd (no_element w c), λ h. let some = (one h).0 in absurd (grind (arith, nat_tests)))
        | false ↦ λ t. (
          λ c.
              let same : w ≡ way = elim (first_or_later way w [] c) [ inl is ↦ is | inr none ↦ absurd (no_element w none) ] in
              let some : 0 < e.metric = grind (arith, nat_tests) in
              subst (IsWayOver root ups router (e ∷ [])) (sym same) (e, first_element e [], (refl, some, elsewhere)),
          λ h. subst (Contains (way ∷ [])) (one h).1 (first_element way []),
        )
      ] refl

pub plain_once : (e : LinkEnd) → Apart (plain_ways e)
plain_once e =
    let way : ParallelLink = record { cost = e.metric; interface = None } in
    elim (e.metric == 0) as (λ b. Apart (cond b [] (way ∷ []))) [ true ↦ apart_nil | false ↦ apart_cons way [] (no_element way) apart_nil ]

-- ---- links listed one by one

-- the loop over ways, one on
pub links_on : (from to : Vertex) (ways : List ParallelLink) (i : ℕ) (d : ParallelLink) (old now new : List GraphLink) (l : GraphLink) → i < length ways
    → now ≡ old ++ map (link_by from to) (take i ways) → new ≡ now ++ l ∷ [] → l ≡ link_by from to (get_or ways i d) → new ≡ old ++ map (link_by from to) (take (i + 1) ways)
links_on from to ways i d old now new l lt before listed is =
    let f = link_by from to in
    listed ∙ (λ k. before k ++ is k ∷ []) ∙ append_assoc old (map f (take i ways)) (f (get_or ways i d) ∷ [])
    ∙ ap (λ (ls : List GraphLink). old ++ ls) (sym (map-append f (take i ways) (get_or ways i d ∷ [])) ∙ ap (λ (ws : List ParallelLink). map f ws) (sym (take_more ways i d lt)))

-- and at its end
pub links_all : (from to : Vertex) (ways : List ParallelLink) (i : ℕ) (old now : List GraphLink) → length ways ≤ i → now ≡ old ++ map (link_by from to) (take i ways) → now ≡ old ++ map (link_by from to) ways
links_all from to ways i old now le before = before ∙ ap (λ (ws : List ParallelLink). old ++ map (link_by from to) ws) (take_all i ways le)

-- a link more leaves metrics of 16 bits
pub cheap_on : (now new : List GraphLink) (l : GraphLink) → new ≡ now ++ l ∷ [] → AreCheap now → l.cost < 65536 → AreCheap new
cheap_on now new l listed cheap one = subst AreCheap (sym listed) (All-push (λ (k : GraphLink). k.cost < 65536) now l cheap one)

-- A path goes on over a least link, and what is left of it is found from its end.
use Rattle.std.proofs.Common.{◌≡◌, ◌≢◌, ℕ, ◌+◌, ◌<◌, ◌≤◌, length, take, get_or, List, [], ◌∷◌, ◌++◌, Option, Some, None, inl, inr, refl, sym, ap, subst, ◌∙◌, reverse, Bor, arith, append_assoc, append-nil}
use Rattle.std.specs.FinMap.{get}
use Rattle.std.specs.Option.{option_or}
use Rattle.std.specs.Prelude.{Contains, IfSome}
use Rattle.ospf_types.specs.declared.entry.Vertex.{Vertex}
use Rattle.ospf_types.specs.declared.entry.Vertex.TheVariants.{Router}
use Rattle.ospf_types.specs.declared.hop.NextHop.{NextHop}
use Rattle.ospf_types.specs.declared.hop.NextHop.TheVariants as hop
use Rattle.ospf_types.specs.declared.label.Label.{Label}
use Rattle.ospf_types.specs.declared.label.Label.TheVariants.{Over, At, Plain}
use Rattle.ospf_types.specs.Distances.{TakenLink, Leads, cost_of, IsDistance, FirstOnly, IsFirst}
use Rattle.vertex_graph.specs.Graphs.{GraphValue, LinksOf, HasRoot, AreLinksTo}
use Rattle.vertex_graph.specs.GraphLink.{GraphLink}
use Rattle.spf.specs.HandedOn.{IsLeastLink}
use Rattle.spf.specs.Parts.{hops_of}
use Rattle.spf.specs.Trees.{AreDistances, HandsOn, IsGiven}
use Rattle.spf.specs.TreeValues.{TreeValue, IsTreeOf}
use Rattle.spf.proofs.Firsts.{first_after}
use Rattle.spf.proofs.Hops.{hop_is_given, no_hop_of_root, gives_more}
use Rattle.spf.proofs.Paths.{one_more, cost_of-push, same_distance}
use Rattle.spf.proofs.Values.{root_zero}
use Rattle.area_trees.specs.LeastPaths.{step_over, way_over, links_at, AreEndToEnd, HasHop, IsLeastPath, IsPathOver, IsHandedBy, ExtendsPath, IsPathFound, IsHopIfSome, ComesBefore, IsNotBefore, IsLast, left_of}
use Rattle.area_trees.specs.declared.last_link.Before.{Before}
use Rattle.area_trees.specs.declared.last_link.Before.TheVariants as comes
use Rattle.area_trees.specs.declared.last_link.LastLink.{LastLink}
use Rattle.std.proofs.lemmas.List.{map-append, reverse-append, take_all}
use Rattle.ospf_types.proofs.Elements.{contains_more, no_element}
use Rattle.vertex_graph.specs.Labels.{addresses_of}
use Rattle.spf.specs.Changes.{link_value}

-- the way over links and one more
way_push : (links : List GraphLink) (l : GraphLink) → way_over (links ++ l ∷ []) ≡ way_over links ++ step_over l ∷ []
way_push [] l = refl
way_push (k ∷ links) l = ap (λ way. step_over k ∷ way) (way_push links l)

-- links end to end, and one more from where they lead
joined_more : (g : GraphValue) (from to : Vertex) (links : List GraphLink) (l : GraphLink) → AreEndToEnd from links → Leads (LinksOf g) g.root from (way_over links) to → l.from ≡ to
    → AreEndToEnd from (links ++ l ∷ [])
joined_more g from to [] l joined leads is = (is ∙ sym leads, tt)
joined_more g from to (k ∷ links) l joined leads is = (joined.0, joined_more g k.to to links l joined.1 leads.2 is)

module _ {g : GraphValue} {t : TreeValue} (is : IsTreeOf g t) where
  distances : AreDistances (LinksOf g) g.root (HasRoot g) (get t.distances)
  distances = is.tree.distances

  -- the head of a link is no root where it has a next hop
  pub no_root : (v : Vertex) (h : NextHop) → HasHop g v h → v ≢ Router g.root
  no_root v h has same = no_hop_of_root (LinksOf g) g.root (HasRoot g) h (subst (λ w. HasHop g w h) same has)

  -- A least link out of the root is a path of least cost.
  pub path_from_root : (l : GraphLink) (h : NextHop) → HasHop g l.to h → LinksOf g l.from l.to l.cost l.label → IsLeastLink (get t.distances) l → l.from ≡ Router g.root → FirstOnly l.to l.label h
      → IsLeastPath g l.to h (l ∷ [])
  path_from_root l h has taken least is_root first =
      let root = has.path.1.0 in
      let near : Some least.near ≡ Some 0 = sym least.tail ∙ ap (get t.distances) is_root ∙ root_zero distances root in
      let zero_near : least.near ≡ 0 = cc in
      let costs : least.near + l.cost ≡ cost_of (step_over l ∷ []) = omega (arith, cost_of-push [] (step_over l)) in
      record {
        path = (root, (subst (λ v. LinksOf g v l.to l.cost l.label) is_root taken, no_root l.to h has, refl));
        least = subst (λ n. IsDistance (LinksOf g) g.root (HasRoot g) l.to n) costs (distances.right l.to (least.near + l.cost) least.head);
        first = first;
        joined = (is_root, tt);
      }

  -- And a path of least cost goes on over a least link, that hands its next hop on.
  pub path_goes_on : (l : GraphLink) (tail h : NextHop) (links : List GraphLink) → HasHop g l.to h → LinksOf g l.from l.to l.cost l.label → IsLeastLink (get t.distances) l → HandsOn tail l.label h
      → IsLeastPath g l.from tail links → IsLeastPath g l.to h (links ++ l ∷ [])
  path_goes_on l tail h [] has taken least hands path = absurd path.first
  path_goes_on l tail h (k ∷ links) has taken least hands path =
      let way = way_over (k ∷ links) in
      let last = step_over l in
      let whole : way_over ((k ∷ links) ++ l ∷ []) ≡ way ++ last ∷ [] = way_push (k ∷ links) l in
      let near : least.near ≡ cost_of way = same_distance (LinksOf g) g.root (HasRoot g) l.from least.near (cost_of way) (distances.right l.from least.near least.tail) path.least in
      let costs : least.near + l.cost ≡ cost_of (way ++ last ∷ []) = omega (arith, near, cost_of-push way last) in
      record {
        path = (
          path.path.0,
          subst (λ (w : List TakenLink). Leads (LinksOf g) g.root (Router g.root) w l.to) (sym whole)
              (one_more (LinksOf g) g.root (Router g.root) l.from l.to way l.cost l.label path.path.1 taken (no_root l.to h has)),
        );
        least = subst (λ (w : List TakenLink). IsDistance (LinksOf g) g.root (HasRoot g) l.to (cost_of w)) (sym whole)
            (subst (λ n. IsDistance (LinksOf g) g.root (HasRoot g) l.to n) costs (distances.right l.to (least.near + l.cost) least.head));
        first = subst (λ (w : List TakenLink). IsFirst w h) (sym whole) (first_after (step_over k) last (way_over links) tail h path.first hands);
        joined = joined_more g (Router g.root) l.from (k ∷ links) l path.joined path.path.1 refl;
      }

  -- The part before the last link is a path too, or the root alone.
  pub steps_back : (to : Vertex) (hop : NextHop) (at : Vertex) (h : NextHop) (links : List (Bor GraphLink)) (last : LastLink) → ExtendsPath g to hop at h (reverse (links_at links)) → IsLast g t at h last
      → IsPathFound g to hop last.link.now.from (left_of last.before) (links ++ last.link ∷ [])
  steps_back to hop at h links last on is_last = go last.before refl
    where
      l : GraphLink
      l = last.link.now

      rest : List GraphLink
      rest = reverse (links_at links)

      more : reverse (links_at (links ++ last.link ∷ [])) ≡ l ∷ rest
      more = ap reverse (map-append (λ (k : Bor GraphLink). k.now) links (last.link ∷ [])) ∙ reverse-append (links_at links) (l ∷ [])

      has : HasHop g l.to h
      has = subst (λ v. HasHop g v h) (sym is_last.ends) on.has

      whole_at : (before : List GraphLink) → IsLeastPath g l.to h before → IsLeastPath g to hop (before ++ rest)
      whole_at before path = on.whole before (subst (λ v. IsLeastPath g v h before) is_last.ends path)

      go : (b : Before) → last.before ≡ b → IsPathFound g to hop l.from (left_of b) (links ++ last.link ∷ [])
      go comes.Root is_b =
          let starts : ComesBefore g t l h comes.Root = subst (λ (b : Before). ComesBefore g t l h b) is_b is_last.before.1 in
          inl (subst (λ (ls : List GraphLink). IsLeastPath g to hop ls) (sym more) (whole_at (l ∷ []) (path_from_root l h has is_last.taken is_last.before.0 starts.0 starts.1)))
      go (comes.Path tail) is_b =
          let starts : ComesBefore g t l h (comes.Path tail) = subst (λ (b : Before). ComesBefore g t l h b) is_b is_last.before.1 in
          record {
            has = (is.tree.right l.from tail).0 starts.1.0;
            whole = λ before path. subst (λ (ls : List GraphLink). IsLeastPath g to hop (before ++ ls)) (sym more)
                (subst (λ (ls : List GraphLink). IsLeastPath g to hop ls) (append_assoc before (l ∷ []) rest)
                (whole_at (before ++ l ∷ []) (path_goes_on l tail h before has is_last.taken is_last.before.0 starts.1.1 path)));
          }

  -- a next hop of the vertex is given by a least link into it
  pub some_given : (to : Vertex) (h : NextHop) → HasHop g to h → IsGiven (LinksOf g) g.root (get t.distances) (hops_of t.hops) to h
  some_given to h has =
      let other = no_root to h has in
      let at = hop_is_given distances to h other has in
      record {
        from = at.from;
        cost = at.cost;
        label = at.label;
        least = at.least;
        gives = gives_more g.root (HasHop g) (hops_of t.hops) at.from to at.label h (λ not_root k x. (is.tree.right at.from k).1 x) at.gives;
      }

  -- Where a next hop is one of the vertex, some link into it is the last of such a path.
  pub some_last : (to : Vertex) (h : NextHop) (links : List GraphLink) (i : ℕ) → HasHop g to h → AreLinksTo g to links → length links ≤ i → ((l : GraphLink) → Contains (take i links) l → IsNotBefore g t l h) → ⊥
  some_last to h links i has exact past none =
      let given = some_given to h has in
      let l = link_value given.from to given.cost given.label in
      let all : take i links ≡ links = take_all i links past in
      none l (subst (λ (ls : List GraphLink). Contains ls l) (sym all) ((exact l).1 (refl, given.least.taken))) (record { near = given.least.near; tail = given.least.tail; head = given.least.head }, given.gives)

-- one more link of which it does not hold
pub none_more : (P : GraphLink → Type 0) (links : List GraphLink) (i : ℕ) (next : GraphLink) → i < length links → next ≡ get_or links i next → ((l : GraphLink) → Contains (take i links) l → P l) → P next
    → (l : GraphLink) → Contains (take (i + 1) links) l → P l
none_more P links i next lt is before here l c = elim ((contains_more links i next l lt is).0 c) [ inl was ↦ before l was | inr same ↦ subst P (sym same) here ]

-- at first nothing is found, and the whole path is left
pub nothing_found : {g : GraphValue} {t : TreeValue} → IsTreeOf g t → (to : Vertex) (hop : NextHop) (left : Option NextHop) (links : List (Bor GraphLink)) → links ≡ [] → IsHopIfSome t to hop left
    → IsPathFound g to hop to left links
nothing_found {g} {t} is to hop (Some found) links none at =
    record {
      has = (is.tree.right to found).0 (subst (λ (h : NextHop). hops_of t.hops to h) (sym at.0) at.1);
      whole = λ before path.
          let rest : before ++ reverse (links_at links) ≡ before = ap (λ (ks : List (Bor GraphLink)). before ++ reverse (links_at ks)) none ∙ append-nil before in
          subst (λ (ls : List GraphLink). IsLeastPath g to hop ls) (sym rest) (subst (λ (h : NextHop). IsLeastPath g to h before) at.0 path);
    }
nothing_found {g} {t} is to hop None links none at = inr (none, λ has. at ((is.tree.right to hop).1 has))

-- one more link is found
pub one_found : {g : GraphValue} {t : TreeValue} → IsTreeOf g t → (to : Vertex) (hop : NextHop) (at : Vertex) (h : NextHop) (left : Option NextHop) (links more : List (Bor GraphLink)) (last : LastLink) (b : Before)
    → left ≡ Some h → IsPathFound g to hop at left links → IsLast g t at h last → more ≡ links ++ last.link ∷ [] → last.before ≡ b → IsPathFound g to hop last.link.now.from (left_of b) more
one_found {g} {t} is to hop at h left links more last b is_left found is_last pushed is_before =
    subst (λ (ls : List (Bor GraphLink)). IsPathFound g to hop last.link.now.from (left_of b) ls) (sym pushed)
    (subst (λ (b : Before). IsPathFound g to hop last.link.now.from (left_of b) (links ++ last.link ∷ [])) is_before
    (steps_back is to hop at h links last (subst (λ (o : Option NextHop). IsPathFound g to hop at o links) is_left found) is_last))

links_reversed : (links : List (Bor GraphLink)) → links_at (reverse links) ≡ reverse (links_at links)
links_reversed [] = refl
links_reversed (l ∷ links) =
    ap links_at (reverse-append (l ∷ []) links) ∙ map-append (λ (k : Bor GraphLink). k.now) (reverse links) (l ∷ []) ∙ ap (λ (ls : List GraphLink). ls ++ l.now ∷ []) (links_reversed links)
    ∙ sym (reverse-append (l.now ∷ []) (links_at links))

-- what is found when nothing is left is a path, or shows that there is none
found_all : (g : GraphValue) (to : Vertex) (hop : NextHop) (at : Vertex) (links : List (Bor GraphLink)) → IsPathFound g to hop at None links → IsPathOver g to hop (reverse (links_at links))
found_all g to hop at links (inr none) = subst (λ (ls : List GraphLink). IsPathOver g to hop ls) (sym (ap (λ (ks : List (Bor GraphLink)). reverse (links_at ks)) none.0)) none.1
found_all g to hop at links (inl path) = go (reverse (links_at links)) path
  where
    go : (ls : List GraphLink) → IsLeastPath g to hop ls → IsPathOver g to hop ls
    go [] p = absurd p.first
    go (l ∷ ls) p = p

pub all_found : (g : GraphValue) (to : Vertex) (hop : NextHop) (at : Vertex) (left : Option NextHop) (links turned : List (Bor GraphLink)) → left ≡ None → IsPathFound g to hop at left links → turned ≡ reverse links
    → IsPathOver g to hop (links_at turned)
all_found g to hop at left links turned none found is =
    subst (λ (ls : List GraphLink). IsPathOver g to hop ls) (sym (ap links_at is ∙ links_reversed links))
    (found_all g to hop at links (subst (λ (o : Option NextHop). IsPathFound g to hop at o links) none found))

-- at an address of a network that is attached to the root
at_address : (label : Label) (interface address : ℕ) → Contains (addresses_of label) address → HandsOn (hop.Direct interface) label (hop.Router interface address)
at_address (At addresses) interface address has = (address, has, refl)
at_address (Over id) interface address has = absurd (no_element address has)
at_address Plain interface address has = absurd (no_element address has)

-- The next hop itself is passed on, or the network's where it is an address there.
pub handed_by_either : (t : TreeValue) (l : GraphLink) (interface address : ℕ) (same direct found : Option NextHop) → Contains (addresses_of l.label) address
    → IsHopIfSome t l.from (hop.Router interface address) same → IsHopIfSome t l.from (hop.Direct interface) direct → found ≡ option_or same direct
    → IfSome found (λ tail. IsHandedBy t l (hop.Router interface address) tail)
handed_by_either t l interface address (Some g) direct found has is other either =
    subst (λ (o : Option NextHop). IfSome o (λ tail. IsHandedBy t l (hop.Router interface address) tail)) (sym either)
    (subst (λ (tail : NextHop). IsHandedBy t l (hop.Router interface address) tail) (sym is.0) (is.1, refl))
handed_by_either t l interface address None (Some g) found has none is either =
    subst (λ (o : Option NextHop). IfSome o (λ tail. IsHandedBy t l (hop.Router interface address) tail)) (sym either)
    (subst (λ (tail : NextHop). IsHandedBy t l (hop.Router interface address) tail) (sym is.0) (is.1, at_address l.label interface address has))
handed_by_either t l interface address None None found has none other either =
    subst (λ (o : Option NextHop). IfSome o (λ tail. IsHandedBy t l (hop.Router interface address) tail)) (sym either) tt

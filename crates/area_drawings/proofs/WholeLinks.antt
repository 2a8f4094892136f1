-- All links that are drawn: those out of a vertex, link by link, and then those out of each, vertex
-- by vertex.
use Rattle.std.proofs.Common.{◌≡◌, ◌≢◌, inl, inr, ℕ, ◌+◌, ◌<◌, ◌≤◌, List, [], ◌++◌, length, take, get_or, refl, sym, ap, subst, ◌∙◌}
use Rattle.std.specs.Prelude.{◌↔◌}
use Rattle.std.specs.List.{AllPairs, Contains}
use Rattle.std.proofs.lemmas.List.{get_or_default}
use Rattle.std.proofs.lemmas.List.Elements.{Contains-append_left, Contains-append_right, Contains-append_cases}
use Rattle.ospf_types.specs.declared.entry.Vertex.{Vertex}
use Rattle.ospf_types.proofs.Elements.{no_element}
use Rattle.area_drawings.specs.declared.drawing.DrawnLink.{DrawnLink}
use Rattle.vertex_graph.specs.Graphs.{GraphValue, AreLinksFrom, LinksOf}
use Rattle.vertex_graph.specs.GraphLink.{GraphLink}
use Rattle.graph_links.proofs.Apart.{apart_append}
use Rattle.spf.specs.HandedOn.{IsOfSome}
use Rattle.spf.proofs.OfSome.{of_none, of_more, of_all}
use Rattle.area_drawings.specs.declared.stands.Stand.{Stand}
use Rattle.area_drawings.specs.Links.{AddsLink, AreStandsApart, AreLinksBetween, AreLinksOut, IsDrawnOf, IsLinkOut}
use Rattle.area_drawings.proofs.Once.{not_earlier}

-- just those are there that are drawn of these links
abbrev pub AreDrawnOf : List Stand → Stand → List GraphLink → List DrawnLink → Type 0
AreDrawnOf stands s links drawn = (k : DrawnLink) → Contains drawn k ↔ IsOfSome links (IsDrawnOf stands s) k

pub none_drawn : (stands : List Stand) (s : Stand) → AreDrawnOf stands s [] []
none_drawn stands s k = (λ c. absurd (no_element k c), λ w. absurd (of_none (IsDrawnOf stands s) k w))

pub drawn_more : (stands : List Stand) (s : Stand) (links : List GraphLink) (i : ℕ) (link : GraphLink) (old new : List DrawnLink) → i < length links → link ≡ get_or links i link → AreDrawnOf stands s (take i links) old
    → AddsLink stands s link old new → AreDrawnOf stands s (take (i + 1) links) new
drawn_more stands s links i link old new lt is before adds k =
    let more = of_more (IsDrawnOf stands s) links i link k lt is in (
      λ c. more.1 (elim ((adds k).0 c) [ inl was ↦ inl ((before k).0 was) | inr here ↦ inr here ]),
      λ w. (adds k).1 (elim (more.0 w) [ inl was ↦ inl ((before k).1 was) | inr here ↦ inr here ]),
    )

-- a link of the graph by its ends
by_ends : (g : GraphValue) (s t : Stand) (link : GraphLink) → link.from ≡ s.reached.vertex → t.reached.vertex ≡ link.to → LinksOf g link.from link.to link.cost link.label → LinksOf g s.reached.vertex t.reached.vertex link.cost link.label
by_ends g s t link from to h = subst (λ (p : Vertex × Vertex). LinksOf g p.0 p.1 link.cost link.label) (λ i. (from i, sym to i)) h

-- all links out of a vertex
pub all_out : (g : GraphValue) (stands : List Stand) (s : Stand) (links : List GraphLink) (i : ℕ) (drawn : List DrawnLink) → AreLinksFrom g s.reached.vertex links → length links ≤ i → AreDrawnOf stands s (take i links) drawn → AreLinksOut g stands s drawn
all_out g stands s links i drawn exact past are k =
    let all = of_all (IsDrawnOf stands s) links i k past in (
      λ c. of_link (all.0 ((are k).0 c)),
      λ out. (are k).1 (all.1 (from_link out)),
    )
  where
    of_link : IsOfSome links (IsDrawnOf stands s) k → IsLinkOut g stands s k
    of_link (link, among, (t, there, is)) =
        let of = (exact link).0 among in
        (t, there.0, (link.cost, (link.label, by_ends g s t link of.0 there.1 of.1), is))

    from_link : IsLinkOut g stands s k → IsOfSome links (IsDrawnOf stands s) k
    from_link (t, there, (cost, (label, h), is)) =
        let link : GraphLink = record { from = s.reached.vertex; to = t.reached.vertex; cost = cost; label = label } in
        (link, (exact link).1 (refl, h), (t, (there, refl), is))

-- just the links out of these vertices are there
abbrev pub AreOutOf : GraphValue → List Stand → List Stand → List DrawnLink → Type 0
AreOutOf g stands some drawn = (k : DrawnLink) → Contains drawn k ↔ IsOfSome some (IsLinkOut g stands) k

pub none_out : (g : GraphValue) (stands : List Stand) → AreOutOf g stands [] []
none_out g stands k = (λ c. absurd (no_element k c), λ w. absurd (of_none (IsLinkOut g stands) k w))

module _ (g : GraphValue) (stands : List Stand) (i : ℕ) (d : Stand) (old row : List DrawnLink) where
  pub row_more : i < length stands → AreOutOf g stands (take i stands) old → AreLinksOut g stands (get_or stands i d) row → AreOutOf g stands (take (i + 1) stands) (old ++ row)
  row_more lt before exact k =
      let s = get_or stands i d in
      let more = of_more (IsLinkOut g stands) stands i s k lt (get_or_default stands i d s lt) in (
        λ c. more.1 (elim (Contains-append_cases old row k c) [ inl was ↦ inl ((before k).0 was) | inr here ↦ inr ((exact k).0 here) ]),
        λ w. elim (more.0 w) [ inl was ↦ Contains-append_left old row k ((before k).1 was) | inr here ↦ Contains-append_right old row k ((exact k).1 here) ],
      )

  -- no link is out of two vertices
  pub row_apart : AreStandsApart stands → i < length stands → AreOutOf g stands (take i stands) old → AreLinksOut g stands (get_or stands i d) row → AllPairs (λ j k. j ≢ k) old → AllPairs (λ j k. j ≢ k) row → AllPairs (λ j k. j ≢ k) (old ++ row)
  row_apart apart lt before exact first second =
      apart_append old row first second
      (λ k early late. clash k ((before k).0 early) ((exact k).0 late))
    where
      clash : (k : DrawnLink) → IsOfSome (take i stands) (IsLinkOut g stands) k → IsLinkOut g stands (get_or stands i d) k → ⊥
      clash k (s, among, (t, there, (cost, h, is))) (u, here, (other, h2, as_well)) =
          not_earlier (λ v. v.reached.vertex) stands i d s apart lt among (ap (λ (l : DrawnLink). l.from.vertex) (sym is ∙ as_well))

pub all_between : (g : GraphValue) (stands : List Stand) (i : ℕ) (drawn : List DrawnLink) → length stands ≤ i → AreOutOf g stands (take i stands) drawn → AreLinksBetween g stands drawn
all_between g stands i drawn past are k =
    let all = of_all (IsLinkOut g stands) stands i k past in (λ c. all.0 ((are k).0 c), λ w. (are k).1 (all.1 w))

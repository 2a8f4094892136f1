-- The links that are drawn, one after another.
use Rattle.std.proofs.Common.{◌≢◌, inl, inr, List, [], ◌∷◌, ◌++◌, sym, ap, subst, ◌∙◌}
use Rattle.std.specs.List.{All, Contains}
use Rattle.std.proofs.lemmas.List.Elements.{All-contains, Contains-append_left, Contains-push, Contains-push_cases}
use Rattle.ospf_types.specs.declared.entry.Vertex.{Vertex}
use Rattle.area_drawings.specs.declared.drawing.DrawnLink.{DrawnLink}
use Rattle.vertex_graph.specs.GraphLink.{GraphLink}
use Rattle.area_drawings.specs.declared.stands.Stand.{Stand}
use Rattle.area_drawings.specs.Links.{AddsLink, AreStandsApart, HasOneMore, IsStandOf, LacksVertex, link_between}
use Rattle.area_drawings.proofs.Once.{one}

-- it is there already
pub none_more : (link : DrawnLink) (old : List DrawnLink) → Contains old link → HasOneMore link old old
none_more link old there l = (λ c. inl c, λ w. elim w [ inl was ↦ was | inr same ↦ subst (Contains old) (sym same) there ])

pub one_more : (link : DrawnLink) (old : List DrawnLink) → HasOneMore link old (old ++ link ∷ [])
one_more link old l = (
  λ c. elim (Contains-push_cases old link l c) [ inl was ↦ inl was | inr same ↦ inr (sym same) ],
  λ w. elim w [ inl was ↦ Contains-append_left old (link ∷ []) l was | inr same ↦ subst (Contains (old ++ link ∷ [])) (sym same) (Contains-push old link) ],
)

-- the drawing of a link is one more
pub adds : (stands : List Stand) (s : Stand) (link : GraphLink) (to : Stand) (old new : List DrawnLink) → AreStandsApart stands → IsStandOf stands link.to to → HasOneMore (link_between s link.cost to) old new → AddsLink stands s link old new
adds stands s link to old new apart here more l = (
  λ c. elim ((more l).0 c) [ inl was ↦ inl was | inr same ↦ inr (to, here, same) ],
  λ w. elim w [
    | inl was ↦ (more l).1 (inl was)
    | inr drawn ↦ (more l).1 (inr (drawn.2 ∙ ap (link_between s link.cost) (one (λ t. t.reached.vertex) stands drawn.0 to apart drawn.1.0 here.0 (drawn.1.1 ∙ sym here.1))))
  ],
)

-- no link leads to what is not drawn
pub adds_none : (stands : List Stand) (s : Stand) (link : GraphLink) (old : List DrawnLink) → LacksVertex stands link.to → AddsLink stands s link old old
adds_none stands s link old lacks l = (λ c. inl c, λ w. elim w [ inl was ↦ was | inr drawn ↦ absurd (lacks drawn.0 drawn.1) ])

pub lacks : (stands : List Stand) (v : Vertex) → All (λ s. s.reached.vertex ≢ v) stands → LacksVertex stands v
lacks stands v none s h = All-contains (λ t. t.reached.vertex ≢ v) stands s none h.0 h.1

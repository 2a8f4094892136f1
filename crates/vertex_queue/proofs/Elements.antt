-- The equality of vertices, the test that a list has one, and the effect of one more element.
use Rattle.std.proofs.Common.{◌≡◌, ◌≢◌, List, [], ◌∷◌, ◌++◌, ap, subst, sym, ◌⊎◌, inl, inr, ⊎_elim}
use Rattle.std.specs.List.{Contains}
use Rattle.std.proofs.lemmas.Bool.{cases_eq}
use Rattle.ospf_types.specs.declared.entry.Vertex.{Vertex}
use Rattle.ospf_types.specs.declared.entry.Vertex.TheVariants.{Router, Network}
use Rattle.ospf_types.proofs.Elements.{no_element, first_element, later_element, first_or_later}
use Rattle.std.proofs.lemmas.List.Elements.{Contains-append_left, Contains-push, Contains-push_cases}
use Rattle.vertex_queue.specs.VertexSet.{IsAdded}

-- vertices are the same or not
pub cases_vertex : (v w : Vertex) → (v ≡ w) ⊎ (v ≢ w)
cases_vertex (Router a) (Router b) = elim (cases_eq a b) [ inl e ↦ inl (ap Router e) | inr n ↦ inr (λ e. n cc) ]
cases_vertex (Router a) (Network b) = inr (λ e. cc)
cases_vertex (Network a) (Router b) = inr (λ e. cc)
cases_vertex (Network a) (Network b) = elim (cases_eq a b) [ inl e ↦ inl (ap Network e) | inr n ↦ inr (λ e. n cc) ]

-- where elements are the same or not, a list has an element or not
pub cases_element : {X : Type 0} → ((x y : X) → (x ≡ y) ⊎ (x ≢ y)) → (xs : List X) (x : X) → Contains xs x ⊎ (Contains xs x → ⊥)
cases_element cases [] x = inr (no_element x)
cases_element {X} cases (y ∷ xs) x = elim (cases x y) [
  | inl same ↦ inl (subst (λ (z : X). Contains (z ∷ xs) x) same (first_element x xs))
  | inr other ↦ elim (cases_element cases xs x) [
    | inl later ↦ inl (later_element y x xs later)
    | inr none ↦ inr (λ c. ⊎_elim other none (first_or_later y x xs c))
  ]
]

-- a list has a vertex or not
pub cases_contains : (vs : List Vertex) (v : Vertex) → Contains vs v ⊎ (Contains vs v → ⊥)
cases_contains = cases_element cases_vertex

-- one more vertex at the front
pub added_front : (v : Vertex) (vs : List Vertex) → IsAdded vs (v ∷ vs) v
added_front v vs = record { grows = λ w c. later_element v w vs c; here = first_element v vs; only = λ w c. first_or_later v w vs c }

-- and at the end
pub added_end : (v : Vertex) (vs : List Vertex) → IsAdded vs (vs ++ v ∷ []) v
added_end v vs = record {
  grows = λ w c. Contains-append_left vs (v ∷ []) w c;
  here = Contains-push vs v;
  only = λ w c. elim (Contains-push_cases vs v w c) [ inl was ↦ inr was | inr same ↦ inl (sym same) ];
}

-- A vertex with a next hop has steps.
use Rattle.std.proofs.Common.{Vec, true, false, ◌≡◌, ◌≢◌, ℕ, List, [], ◌∷◌, length, sym, ap, subst, ◌∙◌, inl, inr}
use Rattle.std.specs.Prelude.{◌==◌}
use Rattle.std.specs.Vec.{vec_len}
use Rattle.std.proofs.lemmas.Bool.{eqb-true}
use Rattle.std.proofs.lemmas.List.{nil_from_length}
use Rattle.ospf_types.specs.declared.entry.Vertex.{Vertex}
use Rattle.ospf_types.specs.declared.hop.NextHop.{NextHop}
use Rattle.vertex_graph.specs.GraphLink.{GraphLink}
use Rattle.area_trees.specs.LeastPaths.{HasHop, IsPathOver}
use Rattle.intra.specs.Inputs.{AreaValue}
use Rattle.explanation.specs.Layers.{AreAreas, HasArea}
use Rattle.explanation.specs.Traces.{AreLinkSteps, AreSteps}

pub no_items : {A B : Type 0} (v : Vec A B) → (vec_len v == 0) ≡ true → v.items ≡ []
no_items v none = nil_from_length v.items (sym v.ok.0 ∙ eqb-true (vec_len v) 0 none)

pub some_items : {A B : Type 0} (v : Vec A B) → (vec_len v == 0) ≡ false → v.items ≢ []
some_items v some none =
    let wrong : true ≡ false = ap (λ (k : ℕ). k == 0) (sym (v.ok.0 ∙ ap length none)) ∙ some in
    absurd cc

-- with no steps the vertex has not the next hop
no_hop : (a : AreaValue) (v : Vertex) (h : NextHop) (links : List GraphLink) → IsPathOver a.tree.area.graph v h links → AreLinkSteps a links [] → HasHop a.tree.area.graph v h → ⊥
no_hop a v h [] none are = none
no_hop a v h (l ∷ links) path are = absurd are

pub none_there : (areas : List AreaValue) → AreAreas areas → (id : ℕ) (v : Vertex) (h : NextHop) → AreSteps areas id v h [] → (a : AreaValue) → HasArea areas id a → HasHop a.tree.area.graph v h → ⊥
none_there areas are id v h (inl w) a has hop =
    let same : w.0 ≡ a = are.once w.0 a w.1.0 has.0 (w.1.1 ∙ sym has.1) in
    no_hop w.0 v h w.2.0 w.2.1 w.2.2 (subst (λ (b : AreaValue). HasHop b.tree.area.graph v h) (sym same) hop)
none_there areas are id v h (inr w) a has hop = w.0 a has.0 has.1

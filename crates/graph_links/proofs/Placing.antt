-- Rows that take the places of what their vertices had.
use Rattle.std.proofs.Common.{◌≡◌, ◌≢◌, inl, inr, ⊎_elim, ℕ, ◌+◌, ◌<◌, ◌≤◌, cond, List, [], ◌∷◌, ◌++◌, length, get_or, take, map, Option, refl, sym, ap, subst, ◌∙◌}
use Rattle.std.specs.Prelude.{Contains}
use Rattle.std.specs.FinMap.{find}
use Rattle.std.specs.List.{All}
use Rattle.std.proofs.lemmas.List.{take_more, take_all, map-append}
use Rattle.std.proofs.lemmas.List.Elements.{All-push, All-nil, All-contains, Contains-append_left, Contains-append_right, Contains-append_cases}
use Rattle.ospf_types.specs.declared.entry.Vertex.{Vertex}
use Rattle.ospf_types.specs.Distances.{Links}
use Rattle.ospf_types.specs.Vertices.{vertex_cmp}
use Rattle.ospf_types.proofs.Elements.{no_element, first_element, first_or_later, mapped_element, mapped_from}
use Rattle.graph_links.specs.declared.row_update.RowUpdate.{RowUpdate}
use Rattle.graph_links.specs.declared.row.Row.{Row}
use Rattle.graph_links.specs.Sides.{Leading, RowList, IsFreshRow, AreFresh, AreRowsPlaced}
use Rattle.graph_links.specs.Sides.{AreRowsChanged}
use Rattle.graph_links.proofs.VertexTests.{is_vertex, one_or_other, found_own, found_other}

-- ---- rows made one after another

pub fresh_none : (leading : Leading) (Link_of : Links) (fresh : List RowUpdate) → fresh ≡ [] → AreFresh leading Link_of [] fresh
fresh_none leading Link_of fresh none = subst (AreFresh leading Link_of []) (sym none) (record { each = refl; rows = All-nil (λ (f : RowUpdate). IsFreshRow leading Link_of f.vertex f.row) })

pub fresh_more : (leading : Leading) (Link_of : Links) (vertices : List Vertex) (i : ℕ) (d : Vertex) (fresh fresh_new : List RowUpdate) (f : RowUpdate) → i < length vertices → AreFresh leading Link_of (take i vertices) fresh
    → f.vertex ≡ get_or vertices i d → IsFreshRow leading Link_of f.vertex f.row → fresh_new ≡ fresh ++ f ∷ [] → AreFresh leading Link_of (take (i + 1) vertices) fresh_new
fresh_more leading Link_of vertices i d fresh fresh_new f within are is row grown = record {
  each =
      ap (map (λ (g : RowUpdate). g.vertex)) grown ∙ map-append (λ (g : RowUpdate). g.vertex) fresh (f ∷ [])
      ∙ (λ k. are.each k ++ is k ∷ []) ∙ sym (take_more vertices i d within);
  rows = subst (All (λ (g : RowUpdate). IsFreshRow leading Link_of g.vertex g.row)) (sym grown) (All-push (λ (g : RowUpdate). IsFreshRow leading Link_of g.vertex g.row) fresh f are.rows row);
}

pub fresh_all : (leading : Leading) (Link_of : Links) (vertices : List Vertex) (i : ℕ) (fresh : List RowUpdate) → length vertices ≤ i → AreFresh leading Link_of (take i vertices) fresh → AreFresh leading Link_of vertices fresh
fresh_all leading Link_of vertices i fresh past are = subst (λ (vs : List Vertex). AreFresh leading Link_of vs fresh) (take_all i vertices past) are

-- ---- and placed one after another

pub place_none : (rows : RowList) → AreRowsPlaced [] rows rows
place_none rows v = inr (λ f there. absurd (no_element f there), refl)

pub one_placed : (f : RowUpdate) (row : Option Row) (es fs : RowList) → f.row ≡ row → ((v : Vertex) → find vertex_cmp v fs ≡ cond (is_vertex v f.vertex) row (find vertex_cmp v es)) → AreRowsPlaced (f ∷ []) es fs
one_placed f row es fs is updates v =
    ⊎_elim (λ (same : v ≡ f.vertex). inl (f, first_element f [], sym same, ap (λ u. find vertex_cmp u fs) same ∙ found_own es fs f.vertex row updates ∙ sym is))
    (λ (other : v ≢ f.vertex). inr (λ g there same. other (⊎_elim (λ (e : g ≡ f). sym same ∙ ap (λ (h : RowUpdate). h.vertex) e) (λ (n : Contains [] g). absurd (no_element g n)) (first_or_later f g [] there)), found_other es fs f.vertex row updates v other))
    (one_or_other v f.vertex)

module _ (f : RowUpdate) (fs : List RowUpdate) (old mid new : RowList) where
  abbrev Has : List RowUpdate → RowList → Vertex → Type 0
  Has gs rows v = (g : RowUpdate) × Contains gs g × (g.vertex ≡ v) × (find vertex_cmp v rows ≡ g.row)

  abbrev Lacks : List RowUpdate → Vertex → Type 0
  Lacks gs v = (g : RowUpdate) → Contains gs g → g.vertex ≢ v

  -- the last first, and then those before it
  pub place_last : AreRowsPlaced (f ∷ []) old mid → AreRowsPlaced fs mid new → AreRowsPlaced (fs ++ f ∷ []) old new
  place_last one rest v =
      ⊎_elim (λ (h : Has fs new v). inl (h.0, Contains-append_left fs (f ∷ []) h.0 h.1, h.2, h.3))
      (λ (n : Lacks fs v × (find vertex_cmp v new ≡ find vertex_cmp v mid)).
      ⊎_elim (λ (h : Has (f ∷ []) mid v). inl (h.0, Contains-append_right fs (f ∷ []) h.0 h.1, h.2, n.1 ∙ h.3))
      (λ (m : Lacks (f ∷ []) v × (find vertex_cmp v mid ≡ find vertex_cmp v old)).
      inr (λ g there. ⊎_elim (n.0 g) (m.0 g) (Contains-append_cases fs (f ∷ []) g there), n.1 ∙ m.1)) (one v)) (rest v)

-- ---- the whole change

pub placed_changed : (leading : Leading) (Link_of : Links) (vertices : List Vertex) (fresh : List RowUpdate) (old new : RowList) → AreFresh leading Link_of vertices fresh → AreRowsPlaced fresh old new → AreRowsChanged leading Link_of vertices old new
placed_changed leading Link_of vertices fresh old new are placed v =
    ⊎_elim (λ (h : (f : RowUpdate) × Contains fresh f × (f.vertex ≡ v) × (find vertex_cmp v new ≡ f.row)).
    inl (
      subst (Contains vertices) h.2 (subst (λ (vs : List Vertex). Contains vs h.0.vertex) are.each (mapped_element (λ (f : RowUpdate). f.vertex) fresh h.0 h.1)),
      subst (λ (p : Vertex × Option Row). IsFreshRow leading Link_of p.0 p.1) (λ k. (h.2 k, sym h.3 k)) (All-contains (λ (f : RowUpdate). IsFreshRow leading Link_of f.vertex f.row) fresh h.0 are.rows h.1),
    ))
    (λ (n : ((f : RowUpdate) → Contains fresh f → f.vertex ≢ v) × (find vertex_cmp v new ≡ find vertex_cmp v old)).
    inr (λ there. let from = mapped_from (λ (f : RowUpdate). f.vertex) fresh v (subst (λ (vs : List Vertex). Contains vs v) (sym are.each) there) in n.0 from.0 from.1 from.2, n.1)) (placed v)

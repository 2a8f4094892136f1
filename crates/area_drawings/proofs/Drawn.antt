-- The picture of an area, from what is known of its vertices in their places.
use Rattle.std.proofs.Common.{◌≡◌, ◌≢◌, ℕ, ◌+◌, ◌<◌, List, [], ◌∷◌, ◌++◌, length, take, get_or, map, sym, ap, subst, ◌∙◌, arith}
use Rattle.std.specs.List.{All, AllPairs}
use Rattle.std.specs.List.Sorted.{IsPermutation, IsStrictlySortedBy}
use Rattle.std.proofs.lemmas.List.{take_more, map_push, get_or-map, length-map}
use Rattle.std.proofs.lemmas.List.Sorted.{Contains-permutation, IsPermutation-sym}
use Rattle.lsdb.specs.Databases.{Database}
use Rattle.area_trees.specs.Areas.{AreaTreeValue}
use Rattle.area_drawings.specs.declared.drawing.Drawing.{Drawing}
use Rattle.area_drawings.specs.declared.drawing.DrawnVertex.{DrawnVertex}
use Rattle.area_drawings.specs.declared.columns.Column.{Column}
use Rattle.area_drawings.specs.declared.reached.ReachedVertex.{ReachedVertex}
use Rattle.area_drawings.specs.declared.stands.Stand.{Stand}
use Rattle.area_drawings.specs.Columns.{AreColumnsOf, column_cmp}
use Rattle.area_drawings.specs.Drawings.{AreDrawnColumns, IsDrawingOf, IsTreeDrawn, reached_of, stand_of, stands_of}
use Rattle.area_drawings.specs.Links.{AreStandsApart, AreLinksBetween}
use Rattle.area_drawings.specs.Places.{AreInPlaces, HasRows, IsInColumn}
use Rattle.area_drawings.specs.Reaching.{AreReached}
use Rattle.area_drawings.proofs.Once.{once_moved}

-- in another order too
pub reached_moved : (d : Database) (t : AreaTreeValue) (rs moved : List ReachedVertex) → IsPermutation rs moved → AreReached d t rs → AreReached d t moved
reached_moved d t rs moved same reached = record {
  exact = λ r. (λ c. (reached.exact r).0 (Contains-permutation moved rs r (IsPermutation-sym rs moved same) c), λ h. Contains-permutation rs moved r same ((reached.exact r).1 h));
  once = once_moved (λ r. r.vertex) rs moved same reached.once;
}

pub columns_moved : (rs moved : List ReachedVertex) (columns : List Column) → IsPermutation rs moved → AreColumnsOf rs columns → AreColumnsOf moved columns
columns_moved rs moved columns same are c = (
  λ h. let r = (are c).0 h in (r.0, Contains-permutation rs moved r.0 same r.1, r.2),
  λ h. (are c).1 (h.0, Contains-permutation moved rs h.0 (IsPermutation-sym rs moved same) h.1, h.2),
)

-- no two are of one vertex
pub stands_apart : (d : Database) (t : AreaTreeValue) (stands : List Stand) → AreReached d t (reached_of stands) → AreStandsApart stands
stands_apart d t stands reached i j e lt within same =
    let short : i < length stands = omega arith in
    reached.once i j e.reached lt (omega (arith, length-map stands (λ s. s.reached)))
    (ap (λ (r : ReachedVertex). r.vertex) (get_or-map (λ s. s.reached) stands i e e.reached short) ∙ same ∙ sym (ap (λ (r : ReachedVertex). r.vertex) (get_or-map (λ s. s.reached) stands j e e.reached within)))

-- a vertex more is drawn
pub stand_push : (vs : List DrawnVertex) (v : DrawnVertex) (ss : List Stand) (i : ℕ) (d : Stand) → i < length ss → map stand_of vs ≡ take i ss → stand_of v ≡ get_or ss i d → map stand_of (vs ++ v ∷ []) ≡ take (i + 1) ss
stand_push vs v ss i d lt before is =
    map_push stand_of vs v
    ∙ ap (λ (xs : List Stand). xs ++ stand_of v ∷ []) before
    ∙ ap (λ (s : Stand). take i ss ++ s ∷ []) is
    ∙ sym (take_more ss i d lt)

-- the facts of the vertices in their cells hold for their drawings
pub is_drawing : (root : ℕ) (d : Database) (t : AreaTreeValue) (stands : List Stand) (columns : List Column) (drawing : Drawing) → drawing.root ≡ root → stands_of drawing ≡ stands → All (IsTreeDrawn d t) drawing.vertices
    → AreReached d t (reached_of stands) → IsStrictlySortedBy column_cmp columns → AreColumnsOf (reached_of stands) columns → drawing.columns ≡ map (λ c. c.distance) columns → All (IsInColumn columns) stands
    → AreInPlaces stands → HasRows drawing.rows stands → AreLinksBetween t.area.graph stands drawing.links → AllPairs (λ k l. k ≢ l) drawing.links → IsDrawingOf root d t drawing
is_drawing root d t stands columns drawing root_is are told reached in_order exact distances each places rows links each_once = record {
  root_is = root_is;
  reached = subst (λ (ss : List Stand). AreReached d t (reached_of ss)) (sym are) reached;
  told = told;
  columns = subst (λ (ss : List Stand). AreDrawnColumns drawing.columns ss) (sym are) (record { columns = columns; in_order = in_order; exact = exact; told = distances; each = each });
  places = subst AreInPlaces (sym are) places;
  rows = subst (HasRows drawing.rows) (sym are) rows;
  links = subst (λ (ss : List Stand). AreLinksBetween t.area.graph ss drawing.links) (sym are) links;
  each_once = each_once;
}

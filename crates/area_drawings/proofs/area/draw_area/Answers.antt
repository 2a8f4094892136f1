use Rattle.std.proofs.Common.{◌≡◌, ◌≢◌, List, map, refl, sym, ap, subst, ◌∙◌}
use Rattle.std.specs.List.{All, AllPairs}
use Rattle.std.specs.List.Sorted.{IsPermutation}
use Rattle.area_drawings.specs.declared.drawing.Drawing.{Drawing}
use Rattle.area_drawings.specs.declared.drawing.DrawnLink.{DrawnLink}
use Rattle.area_drawings.specs.declared.columns.Column.{Column}
use Rattle.area_drawings.specs.declared.reached.ReachedVertex.{ReachedVertex}
use Rattle.area_drawings.specs.declared.stands.Stand.{Stand}
use Rattle.area_drawings.specs.Columns.{AreColumnsOf}
use Rattle.area_drawings.specs.Drawings.{reached_of, stands_of}
use Rattle.area_drawings.specs.Links.{AreStandsApart, AreLinksBetween}
use Rattle.area_drawings.specs.Places.{IsInColumn}
use Rattle.area_drawings.proofs.Drawn.{columns_moved, is_drawing, reached_moved, stands_apart}
use Rattle.area_drawings.proofs.area.draw_area.Goals as goal

pub arrange-requires : goal.arrange-requires
arrange-requires c =
    let columns = c.in_ok-columns.columns.items in
    let exact : AreColumnsOf c.in_ok-reached.reached.items columns = subst (λ (rs : List ReachedVertex). AreColumnsOf rs columns) c.deref.ensures.value c.in_ok-columns.ensures.exact in
    subst (λ (p : List ReachedVertex × List Column). AreColumnsOf p.0 p.1) (λ i. (sym c.deref-3.ensures.value i, sym c.deref-2.ensures.value i)) exact

pub draw_links-requires : goal.draw_links-requires
draw_links-requires c =
    let d = c.args.database.now.lsas in
    let t = c.args.tree.now in
    let reached = c.in_ok-reached.reached.items in
    let stands = c.in_ok-arranged.arranged.stands.items in
    let same : IsPermutation reached (reached_of stands) = subst (λ (rs : List ReachedVertex). IsPermutation rs (reached_of stands)) c.deref-3.ensures.value c.in_ok-arranged.ensures.vertices in
    subst AreStandsApart (sym c.deref-5.ensures.value) (stands_apart d t stands (reached_moved d t reached (reached_of stands) same c.in_ok-reached.ensures))

pub returns : goal.returns
returns c =
    let d = c.args.database.now.lsas in
    let t = c.args.tree.now in
    let reached = c.in_ok-reached.reached.items in
    let columns = c.in_ok-columns.columns.items in
    let stands = c.in_ok-arranged.arranged.stands.items in
    let links = c.in_ok-links.links.items in
    let drawing : Drawing = record { root = c.args.root; columns = c.in_ok-from_slice.field-0; rows = c.in_ok-arranged.arranged.rows; vertices = c.in_ok-vertices.vertices; links = c.in_ok-from_slice-2.field-0 } in
    let same : IsPermutation reached (reached_of stands) = subst (λ (rs : List ReachedVertex). IsPermutation rs (reached_of stands)) c.deref-3.ensures.value c.in_ok-arranged.ensures.vertices in
    let exact : AreColumnsOf reached columns = subst (λ (rs : List ReachedVertex). AreColumnsOf rs columns) c.deref.ensures.value c.in_ok-columns.ensures.exact in
    let are : stands_of drawing ≡ stands = c.in_ok-vertices.ensures.stands ∙ c.deref-4.ensures.value in
    let distances : drawing.columns ≡ map (λ k. k.distance) columns = c.in_ok-from_slice.ensures ∙ c.deref-7.ensures.value ∙ c.in_ok-distances.ensures ∙ ap (λ (ks : List Column). map (λ k. k.distance) ks) c.deref-6.ensures.value in
    let each : All (IsInColumn columns) stands = subst (λ (ks : List Column). All (IsInColumn ks) stands) c.deref-2.ensures.value c.in_ok-arranged.ensures.columns in
    let links_are : drawing.links ≡ links = c.in_ok-from_slice-2.ensures ∙ c.deref-8.ensures.value in
    let between : AreLinksBetween t.area.graph stands links = subst (λ (ss : List Stand). AreLinksBetween t.area.graph ss links) c.deref-5.ensures.value c.in_ok-links.ensures.exact in
    is_drawing c.args.root d t stands columns drawing refl are c.in_ok-vertices.ensures.told
    (reached_moved d t reached (reached_of stands) same c.in_ok-reached.ensures)
    c.in_ok-columns.ensures.in_order
    (columns_moved reached (reached_of stands) columns same exact)
    distances
    each
    c.in_ok-arranged.ensures.places
    c.in_ok-arranged.ensures.rows
    (subst (λ (ls : List DrawnLink). AreLinksBetween t.area.graph stands ls) (sym links_are) between)
    (subst (λ (ls : List DrawnLink). AllPairs (λ k l. k ≢ l) ls) (sym links_are) c.in_ok-links.ensures.each_once)

use Rattle.std.proofs.Common.{◌≡◌, ◌+◌, List, map, take, sym, subst}
use Rattle.std.specs.List.{All}
use Rattle.std.proofs.lemmas.List.Elements.{All-push}
use Rattle.ospf_types.specs.declared.entry.Vertex.TheVariants.{Router}
use Rattle.area_drawings.specs.declared.drawing.DrawnVertex.{DrawnVertex}
use Rattle.area_drawings.specs.declared.stands.Stand.{Stand}
use Rattle.area_drawings.specs.Drawings.{IsTreeDrawn, stand_of}
use Rattle.area_drawings.proofs.Drawn.{stand_push}
use Rattle.area_drawings.proofs.vertices.draw_vertices.Goals as goal

pub loop-stand-preserved : goal.loop-stand-preserved
loop-stand-preserved c =
    let blank : Stand = record { reached = record { vertex = Router 0; distance = 0 }; place = record { column = 0; row = 0 } } in
    let told = IsTreeDrawn c.args.database.now.lsas c.args.tree.now in
    let stands = c.args.stands.now in
    let i = c.loop-stand.stand-index in
    let before = c.loop-stand.vertices in
    let vertex = c.in_ok-draw_vertex.field-0 in
    subst (λ (vs : List DrawnVertex). (map stand_of vs ≡ take (i + 1) stands) × All told vs) (sym c.in_ok-push.ensures.ok)
    (stand_push before vertex stands i blank c.loop-stand-test.true c.loop-stand.invariant.0 c.in_ok-draw_vertex.ensures.stand, All-push told before vertex c.loop-stand.invariant.1 c.in_ok-draw_vertex.ensures.told)

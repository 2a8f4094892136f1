use Rattle.std.proofs.Common.{subst}
use Rattle.std.proofs.lemmas.Result.{on_ok_weaker}
use Rattle.ospf_types.specs.declared.entry.Vertex.{Vertex}
use Rattle.area_drawings.specs.declared.drawing.DrawnLink.{DrawnLink}
use Rattle.area_drawings.specs.Links.{HasOneMore, IsStandOf, LacksVertex}
use Rattle.area_drawings.proofs.LinkLists.{adds, adds_none}
use Rattle.area_drawings.proofs.links.add_link.Goals as goal

pub returns-in-Some-clause-exact : goal.returns-in-Some-clause-exact
returns-in-Some-clause-exact c =
    let stands = c.args.stands.now in
    let to = c.in-Some.to in
    let old = c.args.links.now.items in
    let new = c.add_new.new.links.items in
    let here : IsStandOf stands c.args.link.now.to to = subst (λ (v : Vertex). IsStandOf stands v to) c.vertex.ensures c.in-Some.ensures.some in
    on_ok_weaker c.add_new.result
    (λ more. adds stands c.args.from c.args.link.now to old new c.requires here (subst (λ (l : DrawnLink). HasOneMore l old new) c.drawn.ensures more))
    c.add_new.ensures.exact

pub returns-in-None-clause-exact : goal.returns-in-None-clause-exact
returns-in-None-clause-exact c =
    let stands = c.args.stands.now in
    let lacks : LacksVertex stands c.args.link.now.to = subst (LacksVertex stands) c.vertex.ensures c.in-None.ensures.none in
    adds_none stands c.args.from c.args.link.now c.args.links.now.items lacks

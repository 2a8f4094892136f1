use Rattle.std.proofs.Common.{◌++◌, get_or, refl, ap, sym, ◌∙◌}
use Rattle.std.specs.Prelude.{option_to_list}
use Rattle.ospf_types.specs.declared.entry.Vertex.{Vertex}
use Rattle.ospf_types.specs.declared.entry.Vertex.TheVariants.{Router}
use Rattle.area_trees.proofs.Named.{gathered_more, gathered_all}
use Rattle.area_drawings.specs.Reaching.{reached_by}
use Rattle.area_drawings.proofs.reached.each_reached.Goals as goal

pub loop-vertex-preserved : goal.loop-vertex-preserved
loop-vertex-preserved c =
    let blank : Vertex = Router 0 in
    let t = c.args.tree.now in
    let vertices = c.args.vertices.now in
    let i = c.loop-vertex.vertex-index in
    c.in_ok-add_reached.ensures
    ∙ ap (λ rs. rs ++ option_to_list (reached_by t (get_or vertices i blank))) c.loop-vertex.invariant
    ∙ sym (gathered_more (reached_by t) vertices i (get_or vertices i blank) blank c.loop-vertex-test.true refl)

pub returns : goal.returns
returns c = c.loop-vertex.invariant ∙ gathered_all (reached_by c.args.tree.now) c.args.vertices.now c.loop-vertex.vertex-index c.loop-vertex-test.false

use Rattle.std.proofs.Common.{◌++◌, get_or, refl, ap, sym, ◌∙◌}
use Rattle.std.specs.Prelude.{option_to_list}
use Rattle.ospf_types.specs.declared.key.Key.{Key}
use Rattle.area_trees.specs.Areas.{vertex_of}
use Rattle.area_trees.proofs.Named.{gathered_more, gathered_all}
use Rattle.area_drawings.proofs.reached.each_vertex.Goals as goal

pub loop-key-preserved : goal.loop-key-preserved
loop-key-preserved c =
    let blank : Key = record { kind = 0; id = 0; router = 0 } in
    let keys = c.args.keys.now in
    let i = c.loop-key.key-index in
    c.in_ok-add_vertex.ensures
    ∙ ap (λ vs. vs ++ option_to_list (vertex_of (get_or keys i blank))) c.loop-key.invariant
    ∙ sym (gathered_more vertex_of keys i (get_or keys i blank) blank c.loop-key-test.true refl)

pub returns : goal.returns
returns c = c.loop-key.invariant ∙ gathered_all vertex_of c.args.keys.now c.loop-key.key-index c.loop-key-test.false

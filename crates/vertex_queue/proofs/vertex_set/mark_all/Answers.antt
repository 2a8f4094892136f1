use Rattle.std.proofs.Common.{List, ◌+◌, take, sym, subst, arith}
use Rattle.std.specs.FinMap.{insert}
use Rattle.std.proofs.lemmas.List.{take_all}
use Rattle.ospf_types.specs.declared.entry.Vertex.{Vertex}
use Rattle.ospf_types.proofs.Elements.{no_element}
use Rattle.vertex_queue.specs.Marks.{Marks, AreMarked}
use Rattle.vertex_queue.proofs.Marking.{marked_more}
use Rattle.vertex_queue.proofs.vertex_set.mark_all.Goals as goal

pub loop-index-init : goal.loop-index-init
loop-index-init c = λ v there. absurd (no_element v there)

pub loop-index-preserved : goal.loop-index-preserved
loop-index-preserved c =
    let list = c.args.list.now in
    let i = c.loop-index.index in
    subst (λ (m : Marks). AreMarked m (take (i + 1) list)) (sym c.in_ok-insert.ensures.ok)
    (subst (λ (v : Vertex). AreMarked (insert c.loop-index.marks v i) (take (i + 1) list)) (sym c.index-list-index.is) (marked_more c.loop-index.marks list i c.index-list-index.result c.requires c.loop-index-test.true c.loop-index.invariant))

pub returns : goal.returns
returns c = subst (λ (vs : List Vertex). AreMarked c.loop-index.marks vs) (take_all c.loop-index.index c.args.list.now (omega arith)) c.loop-index.invariant

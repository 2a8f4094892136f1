use Rattle.std.proofs.Common.{List, refl, sym, subst, ⊎_elim}
use Rattle.std.specs.List.{Contains}
use Rattle.std.proofs.lemmas.List.{take_all}
use Rattle.ospf_types.specs.declared.entry.Vertex.{Vertex}
use Rattle.ospf_types.proofs.Elements.{no_element, contains_at, contains_more}
use Rattle.vertex_queue.proofs.vertex_set.is_among.Goals as goal

pub loop-other-init : goal.loop-other-init
loop-other-init c = λ there. no_element c.args.vertex.now there

pub loop-other-preserved : goal.loop-other-preserved
loop-other-preserved c = λ there.
    ⊎_elim c.loop-other.invariant (λ same. let yes = c.is_same.ensures.1 (sym same) in let no = c.if-is_same.false in absurd cc)
    ((contains_more c.args.list.now c.loop-other.other-index c.other-item.result c.args.vertex.now c.loop-other-test.true c.other-item.is).0 there)

pub returns-then-is_same : goal.returns-then-is_same
returns-then-is_same c = (
  λ t. subst (λ (v : Vertex). Contains c.args.list.now v) (c.is_same.ensures.0 c.if-is_same.true) (contains_at c.args.list.now c.loop-other.other-index c.other-item.result c.loop-other-test.true c.other-item.is),
  λ there. refl,
)

pub returns : goal.returns
returns c = (
  λ t. absurd cc,
  λ there. absurd (c.loop-other.invariant (subst (λ (vs : List Vertex). Contains vs c.args.vertex.now) (sym (take_all c.loop-other.other-index c.args.list.now c.loop-other-test.false)) there)),
)

use Rattle.std.proofs.Common.{List, sym, ap, subst, ◌∙◌, inl, inr}
use Rattle.std.specs.Prelude.{Contains}
use Rattle.std.proofs.lemmas.List.{take_all}
use Rattle.ospf_types.proofs.Elements.{contains_more}
use Rattle.intra.specs.Inputs.{AreaValue}
use Rattle.explanation.proofs.layers.Layers.area.Goals as goal

pub loop-area-preserved : goal.loop-area-preserved
loop-area-preserved c = λ a among is. elim ((contains_more c.args.self.areas.now c.loop-area.area-index c.area-item.result a c.loop-area-test.true c.area-item.is).0 among) [
  | inl before ↦ c.loop-area.invariant a before is
  | inr now ↦ c.if-area-id.false (ap (λ (x : AreaValue). x.id) c.area.view_is ∙ sym (ap (λ (x : AreaValue). x.id) now) ∙ is)
]

pub returns-clause-none : goal.returns-clause-none
returns-clause-none c = λ a among. c.loop-area.invariant a (subst (λ (list : List AreaValue). Contains list a) (sym (take_all c.loop-area.area-index c.args.self.areas.now c.loop-area-test.false)) among)

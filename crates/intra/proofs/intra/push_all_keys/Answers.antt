-- The keys of one area more.
use Rattle.std.proofs.Common.{List, sym, subst, ◌∙◌, inl, inr}
use Rattle.std.specs.Prelude.{IsSome}
use Rattle.std.specs.FinMap.{get}
use Rattle.std.specs.List.{Contains}
use Rattle.std.proofs.lemmas.List.{take_all}
use Rattle.ospf_types.specs.declared.key.Scope.TheVariants.{Area}
use Rattle.spf.proofs.OfSome.{contains_more}
use Rattle.intra.specs.Inputs.{AreaValue}
use Rattle.intra.proofs.intra.push_all_keys.Goals as goal

pub loop-area-preserved : goal.loop-area-preserved
loop-area-preserved c = λ a key there some.
    let pushed = c.in_ok-push_keys.ensures in
    elim ((contains_more c.args.areas.now c.loop-area.area-index c.area-item.result a c.loop-area-test.true c.area-item.is).0 there) [
      | inl early ↦ pushed.kept (Area a.id, key) (c.loop-area.invariant a key early some)
      | inr e ↦
          let same = c.area.view_is ∙ sym e in
          subst (λ (x : AreaValue). Contains c.push_keys.new.keys.items (Area x.id, key)) same (pushed.all key (subst (λ (x : AreaValue). IsSome (get x.lsas key)) (sym same) some))
    ]

pub returns : goal.returns
returns c = λ a key there some.
    c.loop-area.invariant a key (subst (λ (areas : List AreaValue). Contains areas a) (sym (take_all c.loop-area.area-index c.args.areas.now c.loop-area-test.false)) there) some

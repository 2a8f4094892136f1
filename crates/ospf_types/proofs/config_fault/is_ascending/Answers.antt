use Rattle.std.proofs.Common.{All, subst, arith}
use Rattle.std.proofs.lemmas.Grind.{common_steps}
use Rattle.std.proofs.lemmas.List.{take_all}
use Rattle.std.proofs.lemmas.List.Elements.{All-more}
use Rattle.ospf_types.specs.declared.config.Range.{Range}
use Rattle.ospf_types.specs.Neighbours.{IsMasked}
use Rattle.ospf_types.proofs.config_fault.is_ascending.Goals as goal

pub loop-i-preserved : goal.loop-i-preserved
loop-i-preserved c = record {
  order = grind (arith, common_steps);
  masked = All-more (λ (range : Range). IsMasked range.prefix) c.args.ranges.now c.loop-i.i c.index-ranges-i.result (omega arith) c.loop-i.invariant.masked
      (subst (λ (range : Range). IsMasked range.prefix) c.index-ranges-i.is c.is_before_first.ensures.masked);
}

pub returns-clause-masked : goal.returns-clause-masked
returns-clause-masked c _ = subst (All (λ (range : Range). IsMasked range.prefix)) (take_all c.loop-i.i c.args.ranges.now (omega arith)) c.loop-i.invariant.masked

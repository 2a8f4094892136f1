-- A range that was set or dropped is the one that is named; where there is none, the areas are
-- those of before.
use Rattle.std.proofs.Common.{ℕ, List, Option, sym, subst}
use Rattle.std.proofs.lemmas.Result.{IfOk-weaker}
use Rattle.ospf_types.specs.declared.config.AreaConfig.{AreaConfig}
use Rattle.ospf_types.specs.declared.prefix.Prefix.{Prefix}
use Rattle.active_ranges.specs.Active.{AreRangesOf, RangesDifferAt}
use Rattle.calculation.proofs.Named.{all_of_named}
use Rattle.calculation.proofs.calculation.follow_range.Goals as goal

pub reconfigure-requires : goal.reconfigure-requires
reconfigure-requires c =
    let b = c.requires.before in
    record { before = (b.0, b.1, subst (λ (o : Option (ℕ × Prefix)). RangesDifferAt o b.0 c.args.areas.now) c.in-Some.is b.2) }

pub returns-in-Some-clause-all : goal.returns-in-Some-clause-all
returns-in-Some-clause-all c = IfOk-weaker c.reconfigure.result _ _ (λ within exact. all_of_named c.args.intra.now.entries c.args.range.now c.in-Some.named c.in-Some.is within.items exact) c.reconfigure.ensures.exact

pub returns-in-None-clause-kept : goal.returns-in-None-clause-kept
returns-in-None-clause-kept c =
    let b = c.requires.before in
    subst (λ (areas : List AreaConfig). AreRangesOf areas c.args.intra.now.entries c.args.active.now) (sym (b.3 c.in-None.is)) b.1

-- One destination more.
use Rattle.std.proofs.Common.{◌≡◌, sym, ◌∙◌, true, false}
use Rattle.active_ranges.proofs.Searching.{none_next, none_of}
use Rattle.summaries.specs.Touched.{IsNetIn}
use Rattle.summaries.proofs.affected.covers_one.Goals as goal

pub loop-dest-preserved : goal.loop-dest-preserved
loop-dest-preserved c =
    none_next (IsNetIn c.args.prefix) c.args.dests.now c.loop-dest.dest-index c.dest-item.result c.loop-dest-test.true c.dest-item.is c.loop-dest.invariant
    (λ has. let wrong : true ≡ false = sym (c.is_covered.ensures.1 has) ∙ c.if-is_covered.false in absurd cc)

pub returns : goal.returns
returns c = λ f. none_of (IsNetIn c.args.prefix) c.args.dests.now c.loop-dest.dest-index c.loop-dest-test.false c.loop-dest.invariant

use Rattle.output_lines.specs.Words.{link_tos_line}
use Rattle.output_lines.proofs.Walked.{entries_put, entries_end}
use Rattle.output_lines.proofs.router.put_entries.Goals as goal

pub loop-preserved : goal.loop-preserved
loop-preserved c =
    entries_put (link_tos_line c.args.number) _ _ _ _ _ _ c.loop-test.true c.loop.invariant c.in_ok-put_entry.ensures

pub returns : goal.returns
returns c = entries_end (link_tos_line c.args.number) _ _ _ _ _ c.loop-test.false c.loop.invariant

use Rattle.std.proofs.Common.{arith}
use Rattle.lsa_codec.specs.Decoding.{summary_tos_at}
use Rattle.output_lines.specs.Words.{summary_tos_line}
use Rattle.output_lines.proofs.Walked.{records_begin, records_one, records_more, records_end}
use Rattle.output_lines.proofs.summary.put_entries.Goals as goal

pub loop-init : goal.loop-init
loop-init c = records_begin summary_tos_at 4 summary_tos_line _ _ _ (omega arith)

pub put_entry-requires : goal.put_entry-requires
put_entry-requires c = records_one summary_tos_at 4 summary_tos_line _ _ _ _ _ c.loop-test.true c.loop.invariant

pub loop-preserved : goal.loop-preserved
loop-preserved c = records_more summary_tos_at 4 summary_tos_line _ _ _ _ _ _ c.loop-test.true c.loop.invariant c.in_ok-put_entry.ensures

pub returns : goal.returns
returns c = records_end summary_tos_at 4 summary_tos_line _ _ _ _ _ c.loop-test.false c.loop.invariant

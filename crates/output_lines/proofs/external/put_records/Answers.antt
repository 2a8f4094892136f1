use Rattle.std.proofs.Common.{arith}
use Rattle.lsa_codec.specs.Decoding.{external_at}
use Rattle.output_lines.specs.Words.{record_line}
use Rattle.output_lines.proofs.Walked.{records_begin, records_one, records_more, records_end}
use Rattle.output_lines.proofs.external.put_records.Goals as goal

pub loop-init : goal.loop-init
loop-init c = records_begin external_at 12 record_line _ _ _ (omega arith)

pub put_record-requires : goal.put_record-requires
put_record-requires c = records_one external_at 12 record_line _ _ _ _ _ c.loop-test.true c.loop.invariant

pub loop-preserved : goal.loop-preserved
loop-preserved c = records_more external_at 12 record_line _ _ _ _ _ _ c.loop-test.true c.loop.invariant c.in_ok-put_record.ensures

pub returns : goal.returns
returns c = records_end external_at 12 record_line _ _ _ _ _ c.loop-test.false c.loop.invariant

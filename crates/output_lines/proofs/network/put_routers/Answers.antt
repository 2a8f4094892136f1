use Rattle.std.proofs.Common.{arith}
use Rattle.lsa_codec.specs.Decoding.{router_id_at}
use Rattle.output_lines.specs.Words.{attached_line}
use Rattle.output_lines.proofs.Texts.{line_of}
use Rattle.output_lines.proofs.Walked.{records_begin, records_one, records_more, records_end}
use Rattle.output_lines.proofs.network.put_routers.Goals as goal

pub loop-init : goal.loop-init
loop-init c = records_begin router_id_at 4 attached_line _ _ _ (omega arith)

pub read_u32-requires : goal.read_u32-requires
read_u32-requires c = records_one router_id_at 4 attached_line _ _ _ _ _ c.loop-test.true c.loop.invariant

pub loop-preserved : goal.loop-preserved
loop-preserved c =
    records_more router_id_at 4 attached_line _ _ _ _ _ _ c.loop-test.true c.loop.invariant (line_of attached_line _ _ _ _ c.read_u32.ensures c.in_ok-put_address.ensures)

pub returns : goal.returns
returns c = records_end router_id_at 4 attached_line _ _ _ _ _ c.loop-test.false c.loop.invariant

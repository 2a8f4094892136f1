use Rattle.std.proofs.Common.{◌++◌}
use Rattle.cli_queries.specs.Advice.{lsa_faults, refusals, later_refusals, config_faults, line_faults, call_faults, capture_faults, packet_faults, datagram_faults}
use Rattle.cli_queries.proofs.Tables.{joined}
use Rattle.cli_queries.proofs.advising.advice.Goals as goal

pub returns : goal.returns
returns c =
    let number = c.args.number in
    let two = joined lsa_faults refusals number _ _ _ c.lsa_fault.ensures c.refusal.ensures c.or.ensures in
    let three = joined (lsa_faults ++ refusals) later_refusals number _ _ _ two c.later_refusal.ensures c.or-2.ensures in
    let four = joined (lsa_faults ++ refusals ++ later_refusals) config_faults number _ _ _ three c.config_fault.ensures c.or-3.ensures in
    let five = joined (lsa_faults ++ refusals ++ later_refusals ++ config_faults) line_faults number _ _ _ four c.line_fault.ensures c.or-4.ensures in
    let six = joined (lsa_faults ++ refusals ++ later_refusals ++ config_faults ++ line_faults) call_faults number _ _ _ five c.call_fault.ensures c.or-5.ensures in
    let seven = joined (lsa_faults ++ refusals ++ later_refusals ++ config_faults ++ line_faults ++ call_faults) capture_faults number _ _ _ six c.capture_fault.ensures c.or-6.ensures in
    let eight = joined (lsa_faults ++ refusals ++ later_refusals ++ config_faults ++ line_faults ++ call_faults ++ capture_faults) packet_faults number _ _ _ seven c.packet_fault.ensures c.or-7.ensures in
    joined (lsa_faults ++ refusals ++ later_refusals ++ config_faults ++ line_faults ++ call_faults ++ capture_faults ++ packet_faults) datagram_faults number _ _ _ eight c.datagram_fault.ensures c.or-8.ensures

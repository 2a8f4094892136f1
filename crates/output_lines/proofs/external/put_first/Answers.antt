use Rattle.std.proofs.Common.{codes}
use Rattle.lsa_codec.specs.Decoding.{external_at}
use Rattle.output_lines.specs.Fields.{address_line, number_line}
use Rattle.output_lines.specs.Words.{external_type_line, metric_line}
use Rattle.output_lines.proofs.Texts.{number_from, four_printed, line_of}
use Rattle.output_lines.proofs.external.put_first.Goals as goal

pub returns : goal.returns
returns c =
    let bytes = c.args.bytes.now in
    let r = external_at bytes in
    four_printed _ (external_type_line r.is_type_2) (metric_line r.metric) (address_line (codes "Forwarding address") r.forwarding) (number_line (codes "External Route Tag") r.tag) _ _ _ _ c.in_ok-put_external_type.ensures
    (line_of metric_line _ _ _ _ (number_from 3 1 bytes _ c.read_u24.ensures) c.in_ok-put_metric_line.ensures)
    (line_of (address_line (codes "Forwarding address")) _ _ _ _ (number_from 4 4 bytes _ c.read_u32.ensures) c.in_ok-put_address.ensures)
    (line_of (number_line (codes "External Route Tag")) _ _ _ _ (number_from 4 8 bytes _ c.read_u32-2.ensures) c.in_ok-put_number.ensures)

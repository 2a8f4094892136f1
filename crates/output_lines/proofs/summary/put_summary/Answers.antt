use Rattle.std.proofs.Common.{List, ℕ, codes, drop}
use Rattle.std.specs.List.{flat_map}
use Rattle.byteorder.specs.Endian.{big_number}
use Rattle.lsa_codec.specs.Decoding.{summary_tos_at, records_met}
use Rattle.output_lines.specs.Fields.{address_line}
use Rattle.output_lines.specs.Words.{metric_line, summary_tos_line}
use Rattle.output_lines.proofs.Texts.{number_from, three_printed, line_of, rest_of}
use Rattle.output_lines.proofs.summary.put_summary.Goals as goal

pub returns : goal.returns
returns c =
    let body = c.args.body.now in
    three_printed _ (address_line (codes "Network Mask") (big_number 4 body)) (metric_line (big_number 3 (drop 5 body))) (flat_map summary_tos_line (records_met summary_tos_at 4 (drop 8 body))) _ _ _
    (line_of (address_line (codes "Network Mask")) _ _ _ _ c.read_u32.ensures c.in_ok-put_address.ensures)
    (line_of metric_line _ _ _ _ (number_from 3 5 body _ c.read_u24.ensures) c.in_ok-put_metric_line.ensures)
    (rest_of (λ (r : List ℕ). flat_map summary_tos_line (records_met summary_tos_at 4 r)) 8 body _ _ c.in_ok-put_entries.ensures)

use Rattle.std.proofs.Common.{List, ℕ, codes, drop}
use Rattle.std.specs.List.{flat_map}
use Rattle.byteorder.specs.Endian.{big_number}
use Rattle.lsa_codec.specs.Decoding.{external_at, records_met}
use Rattle.output_lines.specs.Fields.{address_line}
use Rattle.output_lines.specs.Words.{first_words, record_line}
use Rattle.output_lines.proofs.Texts.{three_printed, line_of, rest_of}
use Rattle.output_lines.proofs.external.put_external.Goals as goal

pub returns : goal.returns
returns c =
    let body = c.args.body.now in
    three_printed _ (address_line (codes "Network Mask") (big_number 4 body)) (first_words (external_at (drop 4 body))) (flat_map record_line (records_met external_at 12 (drop 16 body))) _ _ _
    (line_of (address_line (codes "Network Mask")) _ _ _ _ c.read_u32.ensures c.in_ok-put_address.ensures)
    (rest_of (λ (r : List ℕ). first_words (external_at r)) 4 body _ _ c.in_ok-put_first.ensures)
    (rest_of (λ (r : List ℕ). flat_map record_line (records_met external_at 12 r)) 16 body _ _ c.in_ok-put_records.ensures)

use Rattle.lsa_codec.specs.Decoding.{external_at}
use Rattle.output_lines.proofs.Texts.{number_from, record_end_printed}
use Rattle.output_lines.proofs.external.put_record_end.Goals as goal

pub returns : goal.returns
returns c =
    let bytes = c.args.bytes.now in
    record_end_printed _ _ _ _ (external_at bytes) (number_from 4 4 bytes _ c.read_u32.ensures) (number_from 4 8 bytes _ c.read_u32-tag.ensures) c.in_ok-writeln.ensures.bytes

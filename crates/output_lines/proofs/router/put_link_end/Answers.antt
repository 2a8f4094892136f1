use Rattle.lsa_codec.specs.Faults.{raw_link}
use Rattle.lsa_codec.specs.Decoding.{link_of}
use Rattle.output_lines.proofs.Texts.{number_from, link_end_printed}
use Rattle.output_lines.proofs.router.put_link_end.Goals as goal

pub returns : goal.returns
returns c =
    let bytes = c.args.bytes.now in
    link_end_printed _ _ _ _ _ (link_of (raw_link bytes)) c.read_u32.ensures (number_from 4 4 bytes _ c.read_u32-2.ensures) (number_from 2 10 bytes _ c.read_u16-metric.ensures) c.in_ok-writeln.ensures.bytes

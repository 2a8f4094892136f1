use Rattle.std.proofs.Common.{codes}
use Rattle.output_lines.specs.Words.{length_line}
use Rattle.output_lines.proofs.Texts.{three_printed, bytes_of}
use Rattle.output_lines.proofs.header.put_instance.Goals as goal

pub returns : goal.returns
returns c =
    three_printed _ _ _ (length_line c.args.header.now.length) _ _ _ (bytes_of (codes "LS sequence number") _ _ _ _ c.to_be_bytes.ensures c.in_ok-put_bytes.ensures) (bytes_of (codes "LS checksum") _ _ _ _ c.to_be_bytes-2.ensures c.in_ok-put_bytes-2.ensures) c.in_ok-put_length.ensures

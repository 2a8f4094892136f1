use Rattle.replay.proofs.LineTexts.{header_printed}
use Rattle.replay.proofs.lines.put_header.Goals as goal

pub returns : goal.returns
returns c =
    header_printed _ _ _ _ _ _ _ _ c.args.header.now c.in_ok-write.ensures.bytes c.in_ok-put_hexadecimal.ensures c.to_be_bytes.ensures c.in_ok-push_str.ensures.bytes c.in_ok-put_hexadecimal-2.ensures
    c.to_be_bytes-2.ensures c.in_ok-write-2.ensures.bytes

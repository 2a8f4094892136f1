use Rattle.explained_replay.proofs.Printed.{source_printed}
use Rattle.explained_replay.proofs.text_lines.put_source.Goals as goal

pub returns : goal.returns
returns c = source_printed _ _ _ _ _ c.args.source.now c.in_ok-put_database.ensures c.in_ok-write.ensures.bytes c.in_ok-put_hexadecimal.ensures c.to_be_bytes.ensures

use Rattle.output_lines.proofs.Texts.{digits_are_text}
use Rattle.output_lines.proofs.fields.put_hexadecimal.Goals as goal

pub unreachable-requires-in-Err-from_utf8 : goal.unreachable-requires-in-Err-from_utf8
unreachable-requires-in-Err-from_utf8 c = digits_are_text _ _ c.in-Ok.ensures.written c.in-Err-from_utf8.ensures.cases.0

use Rattle.std.proofs.Common.{sym, ◌∙◌}
use Rattle.packets.proofs.FirstFault.{is_header, is_length, is_fragment, is_none}
use Rattle.packets.proofs.reading.fault.Goals as goal

pub returns-then-has_wrong_header : goal.returns-then-has_wrong_header
returns-then-has_wrong_header c = is_header c.args.bytes.now (sym c.has_wrong_header.ensures.value ∙ c.if-has_wrong_header.true)

pub returns-then-has_wrong_length : goal.returns-then-has_wrong_length
returns-then-has_wrong_length c = is_length c.args.bytes.now (sym c.has_wrong_header.ensures.value ∙ c.if-has_wrong_header.false) (sym c.has_wrong_length.ensures.value ∙ c.if-has_wrong_length.true)

pub returns-then-is_wrong_fragment : goal.returns-then-is_wrong_fragment
returns-then-is_wrong_fragment c = is_fragment c.args.bytes.now (sym c.has_wrong_header.ensures.value ∙ c.if-has_wrong_header.false) (sym c.has_wrong_length.ensures.value ∙ c.if-has_wrong_length.false) (sym c.is_wrong_fragment.ensures ∙ c.if-is_wrong_fragment.true)

pub returns : goal.returns
returns c = is_none c.args.bytes.now (sym c.has_wrong_header.ensures.value ∙ c.if-has_wrong_header.false) (sym c.has_wrong_length.ensures.value ∙ c.if-has_wrong_length.false) (sym c.is_wrong_fragment.ensures ∙ c.if-is_wrong_fragment.false)

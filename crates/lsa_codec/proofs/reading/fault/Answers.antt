use Rattle.std.proofs.Common.{sym, ap, not, ◌∙◌}
use Rattle.lsa_codec.proofs.Tables.{is_length, is_checksum, is_age, is_sequence, is_kind, is_of_body}
use Rattle.lsa_codec.proofs.HeaderTests.{young, old, same_sequence, other_sequence, kind_is}
use Rattle.lsa_codec.proofs.reading.fault.Goals as goal

pub returns-then-is_wrong_length : goal.returns-then-is_wrong_length
returns-then-is_wrong_length c = is_length c.args.bytes.now (sym c.is_wrong_length.ensures.value ∙ c.if-is_wrong_length.true)

pub returns-then-not-is_sound : goal.returns-then-not-is_sound
returns-then-not-is_sound c = is_checksum c.args.bytes.now (sym c.is_wrong_length.ensures.value ∙ c.if-is_wrong_length.false) (ap not (sym c.is_sound.ensures ∙ c.if-not-is_sound.true))

pub returns-then-header-gt-MAX_AGE : goal.returns-then-header-gt-MAX_AGE
returns-then-header-gt-MAX_AGE c = is_age c.args.bytes.now (sym c.is_wrong_length.ensures.value ∙ c.if-is_wrong_length.false) (ap not (sym c.is_sound.ensures ∙ c.if-not-is_sound.false)) (old c.args.bytes.now c.header_in-header.result c.header_in-header.ensures c.if-header-gt-MAX_AGE.true)

pub returns-then-header : goal.returns-then-header
returns-then-header c = is_sequence c.args.bytes.now (sym c.is_wrong_length.ensures.value ∙ c.if-is_wrong_length.false) (ap not (sym c.is_sound.ensures ∙ c.if-not-is_sound.false)) (young c.args.bytes.now c.header_in-header.result c.header_in-header.ensures c.if-header-gt-MAX_AGE.false) (same_sequence c.args.bytes.now c.header_in-header.result c.header_in-header.ensures c.if-header.true)

pub returns-then-is_unknown_kind : goal.returns-then-is_unknown_kind
returns-then-is_unknown_kind c = is_kind c.args.bytes.now (sym c.is_wrong_length.ensures.value ∙ c.if-is_wrong_length.false) (ap not (sym c.is_sound.ensures ∙ c.if-not-is_sound.false)) (young c.args.bytes.now c.header_in-header.result c.header_in-header.ensures c.if-header-gt-MAX_AGE.false) (other_sequence c.args.bytes.now c.header_in-header.result c.header_in-header.ensures c.if-header.false) (kind_is c.args.bytes.now c.header_in-header.result c.is_unknown_kind.result c.header_in-header.ensures c.is_unknown_kind.ensures ∙ c.if-is_unknown_kind.true)

pub returns : goal.returns
returns c = c.body_fault.ensures ∙ is_of_body c.args.bytes.now (sym c.is_wrong_length.ensures.value ∙ c.if-is_wrong_length.false) (ap not (sym c.is_sound.ensures ∙ c.if-not-is_sound.false)) (young c.args.bytes.now c.header_in-header.result c.header_in-header.ensures c.if-header-gt-MAX_AGE.false) (other_sequence c.args.bytes.now c.header_in-header.result c.header_in-header.ensures c.if-header.false) (kind_is c.args.bytes.now c.header_in-header.result c.is_unknown_kind.result c.header_in-header.ensures c.is_unknown_kind.ensures ∙ c.if-is_unknown_kind.false)

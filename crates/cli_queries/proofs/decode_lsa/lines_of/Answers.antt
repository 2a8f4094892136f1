use Rattle.std.proofs.Common.{◌∙◌, ap}
use Rattle.hex.specs.Hex.{encode_lower}
use Rattle.lsa_codec.specs.Spelling.{body_bytes}
use Rattle.cli_queries.specs.Decode.{front_text, ids_text, instance_text}
use Rattle.cli_queries.proofs.Decoding.{lines_printed}
use Rattle.cli_queries.proofs.decode_lsa.lines_of.Goals as goal

pub returns : goal.returns
returns c =
    let same = c.header-header.ensures.value in
    lines_printed _ _ _ _ _ c.args.lsa.now.header (encode_lower (body_bytes c.args.lsa.now.body)) c.in_ok-format.ensures.ok (c.in_ok-front.ensures ∙ ap front_text same) (c.in_ok-ids.ensures ∙ ap ids_text same) (c.in_ok-instance.ensures ∙ ap instance_text same) (c.in_ok-body.ensures ∙ ap encode_lower c.body.ensures)

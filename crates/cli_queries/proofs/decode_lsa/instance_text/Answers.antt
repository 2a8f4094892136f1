use Rattle.std.proofs.Common.{◌∙◌, ap}
use Rattle.hex.specs.Hex.{encode_lower}
use Rattle.cli_queries.proofs.Decoding.{instance_printed}
use Rattle.cli_queries.proofs.decode_lsa.instance_text.Goals as goal

pub returns : goal.returns
returns c =
    instance_printed _ _ _ c.args.header.now (c.in_ok-seq.ensures ∙ ap encode_lower c.to_be_bytes.ensures) (c.in_ok-sum.ensures ∙ ap encode_lower c.to_be_bytes-2.ensures) c.in_ok-format.ensures.ok

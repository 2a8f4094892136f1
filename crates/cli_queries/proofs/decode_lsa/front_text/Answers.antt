use Rattle.cli_queries.proofs.Decoding.{front_printed}
use Rattle.cli_queries.proofs.decode_lsa.front_text.Goals as goal

pub returns : goal.returns
returns c = front_printed _ _ c.args.header.now c.in_ok-options.ensures c.in_ok-format.ensures.ok

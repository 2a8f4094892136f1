use Rattle.cli_queries.proofs.Decoding.{ids_printed}
use Rattle.cli_queries.proofs.decode_lsa.ids_text.Goals as goal

pub returns : goal.returns
returns c = ids_printed _ c.args.header.now c.in_ok-format.ensures.ok

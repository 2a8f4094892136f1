use Rattle.std.proofs.Common.{◌∙◌, ap, string_bytes}
use Rattle.std.proofs.lemmas.Result.{IfOk-weaker}
use Rattle.cli_queries.specs.One.{given_by}
use Rattle.cli_queries.proofs.Learning.{seen_prints}
use Rattle.cli_queries.proofs.one_lookup.look_in.Goals as goal

pub returns-in-Ok-clause-line : goal.returns-in-Ok-clause-line
returns-in-Ok-clause-line g c =
    let forwarder = c.in_ok-forwarder.forwarder in
    let known = c.in_ok-forwarder.ensures.known in
    IfOk-weaker c.line_of-line.result _ _
    (λ line h. seen_prints (given_by c.args.input.now c.args.lsa) forwarder c.in-Ok.seen (string_bytes line) (ap (λ n. n.base) known.0 ∙ c.requires.base) known.1 c.in-Ok.ensures h) c.line_of-line.ensures.line

use Rattle.std.proofs.lemmas.Result.{IfErr-weaker, IfOk-weaker}
use Rattle.cli_args.specs.Command.{texts_of}
use Rattle.cli_queries.specs.One.{OneArguments, given_by}
use Rattle.cli_queries.proofs.Answering.{fault_widens, answers}
use Rattle.cli_queries.proofs.one_lookup.lookup_line.Goals as goal

pub returns-clause-line : goal.returns-clause-line
returns-clause-line g c =
    let given : OneArguments = given_by c.in_ok-input.input c.in_ok-input.lsa in
    IfOk-weaker c.look.result _ _ (λ line h. answers (texts_of c.args.words.now) given _ c.in_ok-input.ensures.say h) c.look.ensures.line

pub returns-clause-fault : goal.returns-clause-fault
returns-clause-fault g c =
    let given : OneArguments = given_by c.in_ok-input.input c.in_ok-input.lsa in
    IfErr-weaker c.look.result _ _ (λ f h. fault_widens (texts_of c.args.words.now) given f c.in_ok-input.ensures.say h) c.look.ensures.fault

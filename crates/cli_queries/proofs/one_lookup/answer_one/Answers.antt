use Rattle.cli_args.specs.Command.{texts_of}
use Rattle.cli_queries.specs.One.{HasAnswerLine, IsFault}
use Rattle.cli_queries.proofs.Answering.{fault_answers}
use Rattle.cli_queries.proofs.one_lookup.answer_one.Goals as goal

pub returns-in-Err : goal.returns-in-Err
returns-in-Err g c =
    let words = texts_of c.args.words.now in
    fault_answers (HasAnswerLine words) (IsFault words) _ _ c.in-Err.ensures.fault tt c.answer_fault.ensures

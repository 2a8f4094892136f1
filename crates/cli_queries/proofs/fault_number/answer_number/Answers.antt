use Rattle.cli_queries.specs.Number.{Advises, IsNumberFault}
use Rattle.cli_queries.proofs.Answering.{fault_answers}
use Rattle.cli_queries.proofs.fault_number.answer_number.Goals as goal

pub returns-in-Err : goal.returns-in-Err
returns-in-Err c =
    let word = c.args.word.now in
    fault_answers (Advises word) (IsNumberFault word) _ _ c.in-Err.ensures.fault tt c.answer_fault.ensures

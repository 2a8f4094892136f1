use Rattle.cli_queries.specs.Decode.{Decodes, IsDecodeFault}
use Rattle.cli_queries.proofs.Answering.{fault_answers}
use Rattle.cli_queries.proofs.decode_lsa.answer_decode.Goals as goal

pub returns-in-Err : goal.returns-in-Err
returns-in-Err c =
    let word = c.args.word.now in
    fault_answers (Decodes c.args.long word) (IsDecodeFault word) _ _ c.in-Err.ensures.fault tt c.answer_fault.ensures

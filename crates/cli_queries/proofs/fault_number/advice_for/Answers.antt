use Rattle.cli_queries.proofs.NoAdvice.{no_advice}
use Rattle.cli_queries.proofs.fault_number.advice_for.Goals as goal

pub returns-clause-none : goal.returns-clause-none
returns-clause-none c = no_advice c.args.word.now c.in_ok-number_of.field-0 c.advice.result c.in_ok-number_of.ensures.some c.advice.ensures

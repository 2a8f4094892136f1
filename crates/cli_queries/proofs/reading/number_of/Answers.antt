use Rattle.std.proofs.lemmas.Bool.{false≢true}
use Rattle.std.proofs.Common.{refl, subst, sym}
use Rattle.cli_queries.specs.Writing.{IsUnpadded}
use Rattle.cli_queries.proofs.Numbers.{number_none, number_some, unpadded}
use Rattle.cli_queries.proofs.reading.number_of.Goals as goal

pub returns-then-not-is_unpadded-clause-none : goal.returns-then-not-is_unpadded-clause-none
returns-then-not-is_unpadded-clause-none c none n w =
    let is : IsUnpadded c.args.word.now = rw w.spelled (unpadded n w.within) in
    false≢true (c.if-not-is_unpadded.ensures.1 (subst IsUnpadded (sym c.as_bytes.ensures.value) is))

pub returns-clause-some : goal.returns-clause-some
returns-clause-some c = number_some c.args.word.now c.parse.result c.parse.ensures.value.0 (subst IsUnpadded c.as_bytes.ensures.value (c.if-not-is_unpadded.ensures.0 refl)) c.ok.result c.ok.ensures.value

pub returns-clause-none : goal.returns-clause-none
returns-clause-none c = number_none c.args.word.now c.parse.result c.parse.ensures.value.0 c.ok.result c.ok.ensures.value

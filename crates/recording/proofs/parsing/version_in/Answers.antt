use Rattle.std.proofs.Common.{sym, ◌∙◌}
use Rattle.std.proofs.lemmas.Bool.{false≢true}
use Rattle.recording.proofs.Beginning.{no_version}
use Rattle.recording.proofs.parsing.version_in.Goals as goal

pub returns-else-is-3-clause-none : goal.returns-else-is-3-clause-none
returns-else-is-3-clause-none c = λ _.
    no_version c.args.line.now (λ one. false≢true (sym c.if-is.false ∙ c.is.ensures.1 one)) (λ two. false≢true (sym c.if-is-2.false ∙ c.is-else-is.ensures.1 two)) (λ three. false≢true (sym c.if-is-3.false ∙ c.is-else-is-2.ensures.1 three))

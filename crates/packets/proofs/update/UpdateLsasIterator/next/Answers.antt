use Rattle.std.proofs.Common.{sym, ◌∙◌, arith}
use Rattle.packets.proofs.Words.{rest_is}
use Rattle.packets.proofs.Pieces.{takes_lsa, takes_fault, first_goes}
use Rattle.packets.proofs.update.UpdateLsasIterator.next.Goals as goal

pub returns-then-not-has_lsa-clause-steps : goal.returns-then-not-has_lsa-clause-steps
returns-then-not-has_lsa-clause-steps c =
    sym c.self.view_is ∙ takes_fault c.self.inside.left c.self.inside.place c.self.inside.body.now _ (omega (arith, c.if-self-eq0.false)) (rest_is c.self.inside.place c.self.inside.body.now) (sym c.has_lsa.ensures.value ∙ c.if-not-has_lsa.true)

pub returns-then-not-has_lsa-clause-goes : goal.returns-then-not-has_lsa-clause-goes
returns-then-not-has_lsa-clause-goes c =
    first_goes _ _ _ (sym c.self.view_is ∙ takes_fault c.self.inside.left c.self.inside.place c.self.inside.body.now _ (omega (arith, c.if-self-eq0.false)) (rest_is c.self.inside.place c.self.inside.body.now) (sym c.has_lsa.ensures.value ∙ c.if-not-has_lsa.true))

pub returns-clause-steps : goal.returns-clause-steps
returns-clause-steps c =
    sym c.self.view_is ∙ takes_lsa c.self.inside.left c.self.inside.place c.lsa_length-length.result c.self.inside.body.now _ (omega (arith, c.if-self-eq0.false)) (rest_is c.self.inside.place c.self.inside.body.now) (sym c.has_lsa.ensures.value ∙ c.if-not-has_lsa.false) c.lsa_length-length.ensures

pub returns-clause-goes : goal.returns-clause-goes
returns-clause-goes c =
    first_goes _ _ _ (sym c.self.view_is ∙ takes_lsa c.self.inside.left c.self.inside.place c.lsa_length-length.result c.self.inside.body.now _ (omega (arith, c.if-self-eq0.false)) (rest_is c.self.inside.place c.self.inside.body.now) (sym c.has_lsa.ensures.value ∙ c.if-not-has_lsa.false) c.lsa_length-length.ensures)

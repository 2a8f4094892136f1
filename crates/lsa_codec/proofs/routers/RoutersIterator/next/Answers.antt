use Rattle.std.proofs.Common.{sym, ◌∙◌}
use Rattle.lsa_codec.proofs.Left.{router_next, first_goes}
use Rattle.lsa_codec.proofs.routers.RoutersIterator.next.Goals as goal

pub returns-clause-steps : goal.returns-clause-steps
returns-clause-steps c =
    sym c.self.view_is ∙ router_next c.self.inside.rest.now c.read_u32.result c.if-self-lt4.false c.read_u32.ensures

pub returns-clause-goes : goal.returns-clause-goes
returns-clause-goes c =
    first_goes _ _ _ (sym c.self.view_is ∙ router_next c.self.inside.rest.now c.read_u32.result c.if-self-lt4.false c.read_u32.ensures)

use Rattle.std.proofs.Common.{List, sym, subst}
use Rattle.std.specs.Prelude.{Contains}
use Rattle.advertised_index.proofs.Groups.{Member}
use Rattle.advertised_index.proofs.lsas_by_key.LsasByKey.among.Goals as goal

pub between-requires-clause-small : goal.between-requires-clause-small
between-requires-clause-small c = c.self.invariant.0

pub returns-clause-all : goal.returns-clause-all
returns-clause-all c = λ m there. c.between.ensures.all m (subst (λ (ms : List Member). Contains ms m) (sym c.self.view_is) there)

pub returns-clause-only : goal.returns-clause-only
returns-clause-only c = λ m has.
    let found = c.between.ensures.only m has in
    (subst (λ (ms : List Member). Contains ms m) c.self.view_is found.0, found.1, found.2)

use Rattle.std.proofs.Common.{ap, subst, ◌∙◌}
use Rattle.lsdb.specs.Contents.{IsOrder}
use Rattle.lsdb.specs.Databases.{DatabaseValue}
use Rattle.lsdb.proofs.Ordered.{is_order}
use Rattle.lsdb.proofs.database.Database.keys.Goals as goal

pub returns-clause-value : goal.returns-clause-value
returns-clause-value c = c.as_slice.ensures ∙ c.keys-keys.ensures.rest ∙ ap (λ (d : DatabaseValue). d.order) c.self.view_is

pub returns-clause-ordered : goal.returns-clause-ordered
returns-clause-ordered c = subst IsOrder c.self.view_is (is_order c.self.invariant)

use Rattle.std.proofs.Common.{ap, subst, sym, ◌∙◌, ◌≤◌}
use Rattle.std.specs.FinMap.{len}
use Rattle.lsdb.specs.Contents.{IsDatabaseSound, IsOrder}
use Rattle.lsdb.specs.Databases.{DatabaseValue}
use Rattle.lsdb.proofs.Ordered.{is_order}
use Rattle.lsdb.proofs.Stored.{len_columns, sound_columns}
use Rattle.lsdb.proofs.database.Database.len.Goals as goal

pub returns-clause-value : goal.returns-clause-value
returns-clause-value c = c.len.ensures.len ∙ sym (len_columns c.self.invariant) ∙ ap (λ (d : DatabaseValue). len d.lsas) c.self.view_is

pub returns-clause-sound : goal.returns-clause-sound
returns-clause-sound c = subst (λ (d : DatabaseValue). IsDatabaseSound d.lsas) c.self.view_is (sound_columns c.self.invariant)

pub returns-clause-within : goal.returns-clause-within
returns-clause-within c = subst (λ (d : DatabaseValue). len d.lsas ≤ d.limit) c.self.view_is (subst (λ n. n ≤ c.self.inside.limit) (sym (len_columns c.self.invariant)) c.self.invariant.within)

pub returns-clause-ordered : goal.returns-clause-ordered
returns-clause-ordered c = subst IsOrder c.self.view_is (is_order c.self.invariant)

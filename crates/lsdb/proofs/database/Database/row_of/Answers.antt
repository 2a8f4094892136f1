use Rattle.std.proofs.Common.{◌≡◌, ◌∙◌, ap, subst}
use Rattle.std.specs.Prelude.{position, is_some}
use Rattle.std.specs.FinMap.{get}
use Rattle.std.specs.Map.{keys_of}
use Rattle.lsdb.specs.Columns.{is_key}
use Rattle.lsdb.specs.Databases.{DatabaseValue}
use Rattle.lsdb.proofs.KeyTests.{equals_key}
use Rattle.lsdb.proofs.Stored.{is_found}
use Rattle.lsdb.proofs.database.Database.row_of.Goals as goal

pub returns-clause-row : goal.returns-clause-row
returns-clause-row c = c.get_index_of.ensures.index ∙ ap (λ test. position test (keys_of c.self.inside.rows.entries)) (equals_key c.args.key) ∙ ap (λ (d : DatabaseValue). position (is_key c.args.key) d.order) c.self.view_is

pub returns-clause-found : goal.returns-clause-found
returns-clause-found c =
    ap is_some (returns-clause-row c) ∙ subst (λ (d : DatabaseValue). is_some (position (is_key c.args.key) d.order) ≡ is_some (get d.lsas c.args.key)) c.self.view_is (is_found c.self.invariant c.args.key)

use Rattle.std.proofs.Common.{sym, ap, ◌∙◌}
use Rattle.std.specs.Prelude.{option_map, position}
use Rattle.std.specs.FinMap.{get}
use Rattle.std.specs.Map.{keys_of}
use Rattle.lsdb.specs.Columns.{is_key}
use Rattle.lsdb.specs.Databases.{DatabaseValue}
use Rattle.lsdb.proofs.KeyTests.{equals_key}
use Rattle.lsdb.proofs.Stored.{looked_up, not_there}
use Rattle.lsdb.proofs.database.Database.in_row.Goals as goal

pub returns-clause-value : goal.returns-clause-value
returns-clause-value c =
    let found = c.in_ok-row in
    sym (looked_up c.self.invariant c.args.key found.row found.field-0-1.now found.lsa.now c.index.result.now found.ensures.index found.ensures.entry c.index.ensures)
    ∙ ap (λ (d : DatabaseValue). get d.lsas c.args.key) c.self.view_is

pub returns-clause-row : goal.returns-clause-row
returns-clause-row c = c.in_ok-row.ensures.index ∙ ap (λ test. position test (keys_of c.self.inside.rows.entries)) (equals_key c.args.key) ∙ ap (λ (d : DatabaseValue). position (is_key c.args.key) d.order) c.self.view_is

pub returns-in_err-row-clause-value : goal.returns-in_err-row-clause-value
returns-in_err-row-clause-value c =
    ap (option_map _) c.from_residual.ensures ∙ sym (not_there c.self.invariant c.args.key c.in_err-row.ensures.index) ∙ ap (λ (d : DatabaseValue). get d.lsas c.args.key) c.self.view_is

pub returns-in_err-row-clause-row : goal.returns-in_err-row-clause-row
returns-in_err-row-clause-row c =
    ap (option_map _) c.from_residual.ensures ∙ c.in_err-row.ensures.index ∙ ap (λ test. position test (keys_of c.self.inside.rows.entries)) (equals_key c.args.key) ∙ ap (λ (d : DatabaseValue). position (is_key c.args.key) d.order) c.self.view_is

use Rattle.std.proofs.Common.{sym, ap, ◌∙◌}
use Rattle.std.specs.Prelude.{option_map}
use Rattle.std.specs.FinMap.{get}
use Rattle.lsa_codec.specs.Readers.{with_age}
use Rattle.lsdb.specs.Databases.{DatabaseValue}
use Rattle.lsdb.proofs.Stored.{looked_up, not_there, sound_columns}
use Rattle.lsdb.proofs.database.Database.get.Goals as goal

pub returns-clause-value : goal.returns-clause-value
returns-clause-value c =
    let found = c.in_ok-row in
    sym (looked_up c.self.invariant c.args.key found.row found.field-0-1.now found.lsa.now c.index.result.now found.ensures.index found.ensures.entry c.index.ensures)
    ∙ ap (λ (d : DatabaseValue). get d.lsas c.args.key) c.self.view_is

pub returns-clause-own : goal.returns-clause-own
returns-clause-own c =
    let found = c.in_ok-row in
    sym ((sound_columns c.self.invariant).under_own_key c.args.key (with_age found.lsa.now c.index.result.now) (looked_up c.self.invariant c.args.key found.row found.field-0-1.now found.lsa.now c.index.result.now found.ensures.index found.ensures.entry c.index.ensures))

pub returns-in_err-row-clause-value : goal.returns-in_err-row-clause-value
returns-in_err-row-clause-value c =
    ap (option_map _) c.from_residual.ensures ∙ sym (not_there c.self.invariant c.args.key c.in_err-row.ensures.index) ∙ ap (λ (d : DatabaseValue). get d.lsas c.args.key) c.self.view_is

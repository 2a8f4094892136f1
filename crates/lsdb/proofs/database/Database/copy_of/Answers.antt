use Rattle.std.proofs.Common.{Some, sym, ap, ◌∙◌}
use Rattle.std.specs.FinMap.{get}
use Rattle.ospf_types.specs.Lsa.{Lsa}
use Rattle.lsa_codec.specs.Readers.{with_age}
use Rattle.lsdb.specs.Databases.{DatabaseValue}
use Rattle.lsdb.proofs.Stored.{looked_up, not_there, age_read}
use Rattle.lsdb.proofs.database.Database.copy_of.Goals as goal

pub set_age-requires : goal.set_age-requires
set_age-requires c =
    let found = c.in-Some in
    age_read c.self.invariant found.row found.field-0-1.now found.lsa.now c.index.result.now found.ensures.entry c.index.ensures

pub returns-in_ok-copy-in-Some : goal.returns-in_ok-copy-in-Some
returns-in_ok-copy-in-Some c =
    let found = c.in-Some in
    ap Some (c.set_age.ensures ∙ ap (λ (l : Lsa). with_age l c.index.result.now) c.in_ok-copy-in-Some.ensures)
    ∙ sym (looked_up c.self.invariant c.args.key found.row found.field-0-1.now found.lsa.now c.index.result.now found.ensures.index found.ensures.entry c.index.ensures)
    ∙ ap (λ (d : DatabaseValue). get d.lsas c.args.key) c.self.view_is

pub returns-in-None : goal.returns-in-None
returns-in-None c = sym (not_there c.self.invariant c.args.key c.in-None.ensures.index) ∙ ap (λ (d : DatabaseValue). get d.lsas c.args.key) c.self.view_is

use Rattle.std.proofs.Common.{◌≡◌, None, false, sym, ap, subst, ◌∙◌}
use Rattle.std.specs.Prelude.{◌↔◌, position, nat_lt}
use Rattle.std.specs.FinMap.{get}
use Rattle.ospf_types.specs.Lsa.{MaxAge}
use Rattle.lsa_codec.specs.Readers.{with_age}
use Rattle.lsdb.specs.Columns.{is_key}
use Rattle.lsdb.specs.Contents.{used_at}
use Rattle.lsdb.specs.Databases.{DatabaseValue, changed_at, aged_out}
use Rattle.lsdb.proofs.Stored.{aged_columns, map_aged, is_unused, not_some}
use Rattle.lsdb.proofs.database.Database.age_out.Goals as goal

pub invariant_of-self : goal.invariant_of-self
invariant_of-self c = aged_columns c.self.invariant c.args.key c.in-Some.row (ap (λ (d : DatabaseValue). position (is_key c.args.key) d.order) c.self.view_is ∙ sym c.in-Some.ensures.row)

pub returns-in-Some-clause-there : goal.returns-in-Some-clause-there
returns-in-Some-clause-there c = sym c.in-Some.ensures.found

pub returns-in-Some-clause-aged : goal.returns-in-Some-clause-aged
returns-in-Some-clause-aged c =
    map_aged c.self.invariant c.args.key c.in-Some.row (ap (λ (d : DatabaseValue). position (is_key c.args.key) d.order) c.self.view_is ∙ sym c.in-Some.ensures.row)
    ∙ ap (λ (d : DatabaseValue). aged_out d.lsas c.args.key) c.self.view_is

pub returns-in-Some-clause-changed : goal.returns-in-Some-clause-changed
returns-in-Some-clause-changed c =
    subst (λ (d : DatabaseValue). (nat_lt c.index.result.now MaxAge ≡ false) ↔ (used_at d.lsas c.args.key ≡ None)) c.self.view_is
    (is_unused c.self.invariant c.args.key c.in-Some.row (ap (λ (d : DatabaseValue). position (is_key c.args.key) d.order) c.self.view_is ∙ sym c.in-Some.ensures.row) c.index.result.now c.index.ensures)

pub returns-in-None-clause-absent : goal.returns-in-None-clause-absent
returns-in-None-clause-absent c = not_some (get c.args.self.now.lsas c.args.key) c.in-None.ensures.found

pub returns-in-None-clause-aged : goal.returns-in-None-clause-aged
returns-in-None-clause-aged c =
    let lsas = c.args.self.now.lsas in
    ap (changed_at lsas c.args.key (λ l. with_age l MaxAge)) (sym (not_some (get lsas c.args.key) c.in-None.ensures.found))

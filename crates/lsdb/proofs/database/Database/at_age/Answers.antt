use Rattle.std.proofs.Common.{◌≡◌, ◌==◌, length, ap, ◌∙◌, arith}
use Rattle.std.specs.FinMap.{get}
use Rattle.lsdb.proofs.Seconds.{ages_are}
use Rattle.ospf_types.specs.declared.key.Key.{Key}
use Rattle.lsdb.specs.Databases.{age_of, ages_of}
use Rattle.lsdb.proofs.Looking.{keys_found}
use Rattle.lsdb.proofs.database.Database.at_age.Goals as goal

pub rows_at-requires : goal.rows_at-requires
rows_at-requires c =
    let i = c.self.inside in
    let rows : length i.ages.items ≡ length i.rows.entries = c.self.invariant.a_row_each in
    omega (arith, ap length c.deref.ensures.value, rows, c.self.invariant.within, c.self.invariant.few)

pub returns-clause-found : goal.returns-clause-found
returns-clause-found c =
    keys_found c.add_keys.result (λ (key : Key). age_of (get c.args.self.now.lsas key)) (λ n. n == c.args.age) c.args.self.now.order c.args.keys.now.items c.add_keys.new.keys.items c.deref.result.now c.new-rows.result.items c.rows_at.new.rows.items c.deref-2.result.now
    (c.deref.ensures.value ∙ ages_are c.self.invariant ∙ ap ages_of c.self.view_is)
    c.new-rows.ensures.items c.in_ok-rows_at.ensures.found c.deref-2.ensures.value c.add_keys.ensures.found

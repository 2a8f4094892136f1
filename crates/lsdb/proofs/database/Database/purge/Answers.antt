use Rattle.std.proofs.Common.{◌≡◌, true, false, Some, None, sym, ap, ◌∙◌, arith}
use Rattle.std.specs.Prelude.{position, nat_lt, if◌then◌else◌}
use Rattle.std.specs.FinMap.{get, remove}
use Rattle.std.proofs.lemmas.Bool.Decides.{nat_tests}
use Rattle.indexmap.specs.IndexMap.{swap_remove_by}
use Rattle.ospf_types.specs.Lsa.{MaxAge}
use Rattle.lsdb.specs.Columns.{is_key}
use Rattle.lsdb.specs.Databases.{DatabaseValue, purge_refusal_of}
use Rattle.lsdb.specs.declared.refusal.PurgeRefusal.TheVariants as purge
use Rattle.lsdb.proofs.Stored.{refuses, purged_columns, map_purged, keys_purged}
use Rattle.lsdb.proofs.database.Database.purge.Goals as goal

pub returns-in-Some-clause-refused : goal.returns-in-Some-clause-refused
returns-in-Some-clause-refused c =
    let young : nat_lt c.index.result.now MaxAge ≡ true = grind (arith, nat_tests, c.if-index-lt-MAX_AGE.true) in
    ap (λ (d : DatabaseValue). purge_refusal_of (get d.lsas c.args.key)) (sym c.self.view_is)
    ∙ refuses c.self.invariant c.args.key c.in-Some.row (ap (λ (d : DatabaseValue). position (is_key c.args.key) d.order) c.self.view_is ∙ sym c.in-Some.ensures.row) c.index.result.now c.index.ensures
    ∙ ap (λ b. if b then Some purge.NotMaxAge else None) young

pub returns-in-Some-2-clause-accepted : goal.returns-in-Some-2-clause-accepted
returns-in-Some-2-clause-accepted c =
    let old : nat_lt c.index.result.now MaxAge ≡ false = grind (arith, nat_tests, c.if-index-lt-MAX_AGE.false) in
    ap (λ (d : DatabaseValue). purge_refusal_of (get d.lsas c.args.key)) (sym c.self.view_is)
    ∙ refuses c.self.invariant c.args.key c.in-Some.row (ap (λ (d : DatabaseValue). position (is_key c.args.key) d.order) c.self.view_is ∙ sym c.in-Some.ensures.row) c.index.result.now c.index.ensures
    ∙ ap (λ b. if b then Some purge.NotMaxAge else None) old

pub invariant_of-self : goal.invariant_of-self
invariant_of-self c =
    purged_columns c.self.invariant c.args.key c.in-Some.row (ap (λ (d : DatabaseValue). position (is_key c.args.key) d.order) c.self.view_is ∙ sym c.in-Some.ensures.row) c.swap_remove_index.result c.swap_remove_index.new.self.entries c.swap_remove.new.self.items c.swap_remove-in-Some-2.new.self.items c.swap_remove-in-Some-2-2.new.self.items
    c.swap_remove.result c.swap_remove-in-Some-2.result c.swap_remove-in-Some-2-2.result c.swap_remove_index.ensures.entry c.swap_remove_index.ensures.entries
    c.swap_remove.ensures.items c.swap_remove.ensures.value c.swap_remove-in-Some-2.ensures.items c.swap_remove-in-Some-2-2.ensures.items

pub returns-in-Some-2-clause-purged : goal.returns-in-Some-2-clause-purged
returns-in-Some-2-clause-purged c =
    map_purged c.self.invariant c.args.key c.in-Some.row (ap (λ (d : DatabaseValue). position (is_key c.args.key) d.order) c.self.view_is ∙ sym c.in-Some.ensures.row) c.swap_remove_index.result c.swap_remove_index.new.self.entries c.swap_remove.new.self.items c.swap_remove-in-Some-2.new.self.items c.swap_remove-in-Some-2-2.new.self.items
    c.swap_remove.result c.swap_remove-in-Some-2.result c.swap_remove-in-Some-2-2.result c.swap_remove_index.ensures.entry c.swap_remove_index.ensures.entries
    c.swap_remove.ensures.items c.swap_remove.ensures.value c.swap_remove-in-Some-2.ensures.items c.swap_remove-in-Some-2-2.ensures.items
    ∙ ap (λ (d : DatabaseValue). remove d.lsas c.args.key) c.self.view_is

pub returns-in-Some-2-clause-order : goal.returns-in-Some-2-clause-order
returns-in-Some-2-clause-order c =
    keys_purged c.self.invariant c.args.key c.in-Some.row (ap (λ (d : DatabaseValue). position (is_key c.args.key) d.order) c.self.view_is ∙ sym c.in-Some.ensures.row) c.swap_remove_index.result c.swap_remove_index.new.self.entries c.swap_remove.new.self.items c.swap_remove-in-Some-2.new.self.items c.swap_remove-in-Some-2-2.new.self.items
    c.swap_remove.result c.swap_remove-in-Some-2.result c.swap_remove-in-Some-2-2.result c.swap_remove_index.ensures.entry c.swap_remove_index.ensures.entries
    c.swap_remove.ensures.items c.swap_remove.ensures.value c.swap_remove-in-Some-2.ensures.items c.swap_remove-in-Some-2-2.ensures.items
    ∙ ap (λ (d : DatabaseValue). swap_remove_by (is_key c.args.key) d.order) c.self.view_is

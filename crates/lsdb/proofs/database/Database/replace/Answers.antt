use Rattle.std.proofs.Common.{sym, ap, subst, ◌∙◌, set, ℕ}
use Rattle.std.specs.Prelude.{position}
use Rattle.std.specs.FinMap.{insert}
use Rattle.indexmap.specs.IndexMap.{set_value_at}
use Rattle.ospf_types.specs.Lsa.{key_of}
use Rattle.lsdb.specs.Columns.{is_key, present, AreColumns}
use Rattle.lsdb.specs.Databases.{DatabaseValue}
use Rattle.lsdb.proofs.Stored.{map_of, replaced, map_replaced, keys_replaced}
use Rattle.lsdb.proofs.database.Database.replace.Goals as goal

pub invariant_of-self : goal.invariant_of-self
invariant_of-self c =
    let i = c.self.inside in
    subst (λ (age : ℕ). AreColumns (set_value_at i.rows.entries c.args.row c.args.lsa) (set i.ages.items c.args.row age) i.kinds.items i.routers.items i.limit) (sym (ap (λ h. h.age) c.header.ensures.value))
    (replaced c.self.invariant c.args.row c.args.lsa (ap (λ (d : DatabaseValue). position (is_key (key_of c.args.lsa)) d.order) c.self.view_is ∙ c.requires) c.header.ensures.legal)

pub returns-clause-installed : goal.returns-clause-installed
returns-clause-installed c =
    let i = c.self.inside in
    ap (λ (age : ℕ). map_of (present (set_value_at i.rows.entries c.args.row c.args.lsa) (set i.ages.items c.args.row age))) (ap (λ h. h.age) c.header.ensures.value)
    ∙ map_replaced c.self.invariant c.args.row c.args.lsa (ap (λ (d : DatabaseValue). position (is_key (key_of c.args.lsa)) d.order) c.self.view_is ∙ c.requires)
    ∙ ap (λ (d : DatabaseValue). insert d.lsas (key_of c.args.lsa) c.args.lsa) c.self.view_is

pub returns-clause-order : goal.returns-clause-order
returns-clause-order c =
    keys_replaced c.self.invariant c.args.row c.args.lsa (ap (λ (d : DatabaseValue). position (is_key (key_of c.args.lsa)) d.order) c.self.view_is ∙ c.requires)
    ∙ ap (λ (d : DatabaseValue). d.order) c.self.view_is

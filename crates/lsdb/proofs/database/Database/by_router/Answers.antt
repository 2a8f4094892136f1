use Rattle.std.proofs.Common.{◌≡◌, ◌==◌, length, map, ap, ◌∙◌, arith}
use Rattle.std.proofs.lemmas.List.{length-map}
use Rattle.std.specs.Map.{keys_of}
use Rattle.ospf_types.specs.declared.key.Key.{Key}
use Rattle.lsdb.specs.Databases.{DatabaseValue}
use Rattle.lsdb.proofs.Looking.{keys_found}
use Rattle.lsdb.proofs.Rows.{Entry}
use Rattle.lsdb.proofs.database.Database.by_router.Goals as goal

pub rows_of-requires : goal.rows_of-requires
rows_of-requires c =
    let i = c.self.inside in
    let rows : length i.routers.items ≡ length i.rows.entries = ap length c.self.invariant.routers_are ∙ length-map (keys_of i.rows.entries) (λ (key : Key). key.router) ∙ length-map i.rows.entries (λ (e : Entry). e.0) in
    omega (arith, ap length c.deref.ensures.value, rows, c.self.invariant.within, c.self.invariant.few)

pub returns-clause-found : goal.returns-clause-found
returns-clause-found c =
    keys_found c.add_keys.result (λ (key : Key). key.router) (λ n. n == c.args.router) c.args.self.now.order c.args.keys.now.items c.add_keys.new.keys.items c.deref.result.now c.new-rows.result.items c.rows_of.new.rows.items c.deref-2.result.now
    (c.deref.ensures.value ∙ c.self.invariant.routers_are ∙ ap (λ (d : DatabaseValue). map (λ (key : Key). key.router) d.order) c.self.view_is)
    c.new-rows.ensures.items c.in_ok-rows_of.ensures.found c.deref-2.ensures.value c.add_keys.ensures.found

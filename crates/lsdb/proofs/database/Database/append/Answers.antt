use Rattle.std.proofs.Common.{◌<◌, ◌++◌, [], ◌∷◌, length, sym, ap, subst, ◌∙◌}
use Rattle.std.specs.Prelude.{position}
use Rattle.std.specs.FinMap.{insert, len}
use Rattle.ospf_types.specs.Lsa.{key_of}
use Rattle.lsdb.specs.Columns.{is_key}
use Rattle.lsdb.specs.Databases.{DatabaseValue}
use Rattle.lsdb.proofs.Stored.{len_columns, grown_columns, map_grown, keys_grown}
use Rattle.lsdb.proofs.database.Database.append.Goals as goal

pub invariant_of-self-2 : goal.invariant_of-self-2
invariant_of-self-2 c =
    let i = c.self.inside in
    let l = c.args.lsa in
    let absent = ap (λ (d : DatabaseValue). position (is_key (key_of l)) d.order) c.self.view_is ∙ c.requires.absent in
    let room : length i.rows.entries < i.limit = subst (λ n. n < i.limit) (len_columns c.self.invariant) (subst (λ (d : DatabaseValue). len d.lsas < d.limit) (sym c.self.view_is) c.requires.room) in
    grown_columns c.self.invariant l c.key-key.ensures.legal absent c.insert.new.self.entries c.reserve.new.self.items c.push_in_room.new.column.items c.reserve-2.new.self.items c.push_in_room-2.new.column.items
    c.reserve-3.new.self.items c.push_in_room-3.new.column.items c.key-key.result c.header-age.result.age
    c.key-key.ensures.value (ap (λ h. h.age) c.header-age.ensures.value) c.in_ok-insert.ensures.entries
    c.reserve.ensures.items c.push_in_room.ensures.items c.reserve-2.ensures.items c.push_in_room-2.ensures.items c.reserve-3.ensures.items c.push_in_room-3.ensures.items room c.insert.ensures.unique

pub returns-clause-installed : goal.returns-clause-installed
returns-clause-installed c =
    let l = c.args.lsa in
    let absent = ap (λ (d : DatabaseValue). position (is_key (key_of l)) d.order) c.self.view_is ∙ c.requires.absent in
    map_grown c.self.invariant l c.key-key.ensures.legal absent c.insert.new.self.entries c.reserve.new.self.items c.push_in_room.new.column.items c.reserve-2.new.self.items c.push_in_room-2.new.column.items
    c.reserve-3.new.self.items c.push_in_room-3.new.column.items c.key-key.result c.header-age.result.age
    c.key-key.ensures.value (ap (λ h. h.age) c.header-age.ensures.value) c.in_ok-insert.ensures.entries
    c.reserve.ensures.items c.push_in_room.ensures.items c.reserve-2.ensures.items c.push_in_room-2.ensures.items c.reserve-3.ensures.items c.push_in_room-3.ensures.items
    ∙ ap (λ (d : DatabaseValue). insert d.lsas (key_of l) l) c.self.view_is

pub returns-clause-order : goal.returns-clause-order
returns-clause-order c =
    let l = c.args.lsa in
    let absent = ap (λ (d : DatabaseValue). position (is_key (key_of l)) d.order) c.self.view_is ∙ c.requires.absent in
    keys_grown c.self.invariant l c.key-key.ensures.legal absent c.insert.new.self.entries c.reserve.new.self.items c.push_in_room.new.column.items c.reserve-2.new.self.items c.push_in_room-2.new.column.items
    c.reserve-3.new.self.items c.push_in_room-3.new.column.items c.key-key.result c.header-age.result.age
    c.key-key.ensures.value (ap (λ h. h.age) c.header-age.ensures.value) c.in_ok-insert.ensures.entries
    c.reserve.ensures.items c.push_in_room.ensures.items c.reserve-2.ensures.items c.push_in_room-2.ensures.items c.reserve-3.ensures.items c.push_in_room-3.ensures.items
    ∙ ap (λ (d : DatabaseValue). d.order ++ key_of l ∷ []) c.self.view_is

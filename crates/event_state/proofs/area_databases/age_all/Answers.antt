use Rattle.std.proofs.Common.{◌≡◌, ◌<◌, false, length, count_by, sym, ◌∙◌, ap, arith}
use Rattle.std.specs.Prelude.{◌↔◌, nat_lt}
use Rattle.std.specs.FinMap.{values}
use Rattle.lsdb.specs.Databases.{DatabaseValue, all_aged, comes_to_max_age}
use Rattle.lsdb.specs.Contents.{NoneComes}
use Rattle.event_state.specs.Changes.{aged_value}
use Rattle.event_state.proofs.InPlace.{one_mapped, one_flagged, not_reached, none_counted}
use Rattle.event_state.proofs.area_databases.age_all.Goals as goal

pub loop-database-preserved : goal.loop-database-preserved
loop-database-preserved c =
    let xs = c.loop-database.databases in
    let first = c.args.databases.now in
    let i = c.loop-database.database-index in
    let d = c.database-item.result in
    let lt : i < length xs = omega arith in
    let same = c.loop-database.auto.databases in
    let so_far = c.loop-database.invariant in
    let step = one_mapped aged_value xs first i d lt same c.database-item.is so_far.so_far so_far.rest in
    let given = sym c.database-item.is in
    let is : c.second.new.self ≡ aged_value d = (λ j. record {
      lsas = (c.second.ensures.aged ∙ ap (λ (e : DatabaseValue). all_aged e.lsas) given) j;
      order = (c.second.ensures.order ∙ ap (λ (e : DatabaseValue). e.order) given) j;
      limit = (c.second.ensures.limit ∙ ap (λ (e : DatabaseValue). e.limit) given) j;
    }) in
    let came : c.second.result ≡ count_by comes_to_max_age (values d.lsas) = c.second.ensures.came ∙ ap (λ (e : DatabaseValue). count_by comes_to_max_age (values e.lsas)) given in
    let this : (nat_lt 0 c.second.result ≡ false) ↔ NoneComes d.lsas = (λ e. sym came ∙ (none_counted c.second.result).0 e, λ n. (none_counted c.second.result).1 (came ∙ n)) in
    record {
      so_far = rw is step.0;
      rest = rw is step.1;
      flag = one_flagged (λ (e : DatabaseValue). NoneComes e.lsas) first i d c.loop-database.changed (nat_lt 0 c.second.result) (omega arith) (not_reached xs first i d lt same c.database-item.is so_far.rest) so_far.flag this;
    }

use Rattle.std.proofs.Common.{◌≡◌, false, All, map, take, drop}
use Rattle.std.specs.Prelude.{◌↔◌}
use Rattle.lsdb.specs.Databases.{DatabaseValue}
use Rattle.lsdb.specs.Contents.{NoneComes}
use Rattle.event_state.specs.Changes.{aged_value}
use Rattle.event_state.proofs.area_databases.age_all.Given as goal

abbrev pub invariant-loop-database : goal.invariant-loop-database
invariant-loop-database l = record {
  so_far : take l.database-index l.databases ≡ map aged_value (take l.database-index l.fn.databases);
  rest : drop l.database-index l.databases ≡ drop l.database-index l.fn.databases;
  flag : (l.changed ≡ false) ↔ All (λ (d : DatabaseValue). NoneComes d.lsas) (take l.database-index l.fn.databases);
}

use Rattle.std.proofs.Common.{◌≡◌, [], map, take}
use Rattle.std.specs.FinMap.{empty}
use Rattle.ospf_types.specs.declared.config.AreaConfig.{AreaConfig}
use Rattle.lsdb.specs.Databases.{DatabaseValue}
use Rattle.event_state.proofs.state.empty_databases.Given as goal

abbrev pub invariant-loop : goal.invariant-loop
invariant-loop l = l.databases.items ≡ map (λ (a : AreaConfig). let d : DatabaseValue = record { lsas = empty; order = []; limit = l.limits.area_lsas } in d) (take l.index l.areas)

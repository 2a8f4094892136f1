use Rattle.std.proofs.Common.{take}
use Rattle.event_state.specs.Held.{AreFilled}
use Rattle.event_state.proofs.area_databases.put_all.Given as goal

-- the databases belong to the LSAs so far
abbrev pub invariant-loop-scope : goal.invariant-loop-scope
invariant-loop-scope l = AreFilled l.base.config l.fn.limits (take l.scope-index l.base.lsas) l.databases

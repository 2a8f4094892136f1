use Rattle.std.proofs.Common.{◌≡◌, take}
use Rattle.event_state.proofs.base.copied.Given as goal

abbrev pub invariant-loop-scope : goal.invariant-loop-scope
invariant-loop-scope l = l.copies ≡ take l.scope-index l.lsas

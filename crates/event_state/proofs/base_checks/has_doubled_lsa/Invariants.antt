use Rattle.event_state.specs.contracts.base_checks.ScopedKeyOrd.TheImpl as scoped_order
use Rattle.event_state.specs.Ascending.{scoped_key}
use Rattle.event_state.specs.BaseFaults.{is_same_place}
use Rattle.event_state.proofs.Doubles.{IsSeen, place_is}
use Rattle.event_state.proofs.base_checks.has_doubled_lsa.Given as goal

abbrev pub invariant-loop-scope : goal.invariant-loop-scope
invariant-loop-scope l = IsSeen scoped_order.ghosts.cmp scoped_key is_same_place place_is l.lsas l.scope-index l.places

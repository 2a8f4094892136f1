use Rattle.std.proofs.Common.{List, map, reverse}
use Rattle.event_state.specs.declared.event.Event.{Event}
use Rattle.publication.specs.Names.{Name}
use Rattle.worker_replay.specs.Dealing.{AreAnsweredDealt}
use Rattle.worker_replay.proofs.Turns.{Taking}
use Rattle.worker_replay.proofs.dealing.collect.Given as goal

abbrev pub invariant-loop : goal.invariant-loop
invariant-loop l =
    (name : Name) (events : List Event) → AreAnsweredDealt name events (map (λ list. list.items) l.fn.lists.items)
    → Taking name events l.answers.items (map (λ list. reverse list.items) l.lists.items) l.counter

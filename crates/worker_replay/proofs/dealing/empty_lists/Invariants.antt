use Rattle.std.proofs.Common.{◌≡◌, [], length, map, reverse}
use Rattle.worker_replay.specs.Dealing.{IsDealt}
use Rattle.worker_replay.proofs.dealing.empty_lists.Given as goal

abbrev pub invariant-loop : goal.invariant-loop
invariant-loop l = record { empty : IsDealt [] (map (λ list. reverse list.items) l.lists.items); count : length l.lists.items ≡ l.counter }

use Rattle.std.proofs.Common.{◌≡◌, ◌++◌, map, drop, Some}
use Rattle.publication.specs.Updates.{gifts, all_of}
use Rattle.publication.proofs.publishing.append_items.Given as goal

abbrev pub invariant-loop-prefix : goal.invariant-loop-prefix
invariant-loop-prefix l =
    (l.writer.desk ≡ l.initial.writer.desk)
    × (drop l.writer.behind l.writer.log.items ++ gifts (map (λ e. (e.0, Some e.1)) l.prefix-iterator) ≡ drop l.initial.writer.behind l.initial.writer.log.items ++ gifts (all_of l.fn.table.items))

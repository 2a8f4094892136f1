use Rattle.std.proofs.Common.{◌≡◌, map, Some}
use Rattle.route_table.specs.Changes.{with_all}
use Rattle.publication.proofs.published_table.copy_of.Given as goal

-- the rest of the items leads to the table
abbrev pub invariant-loop-prefix : goal.invariant-loop-prefix
invariant-loop-prefix l = (with_all l.copy.items (map (λ e. (e.0, Some e.1)) l.prefix-iterator) ≡ l.table.items) × (l.copy.serial ≡ l.table.serial)

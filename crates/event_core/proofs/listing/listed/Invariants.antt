use Rattle.std.proofs.Common.{◌≡◌, ◌++◌}
use Rattle.std.specs.Vec.Iter.{into_iter_items}
use Rattle.event_core.proofs.listing.listed.Given as goal

-- what was listed, and what is left, is all
abbrev pub invariant-loop-lsa : goal.invariant-loop-lsa
invariant-loop-lsa l = l.list ++ into_iter_items l.lsa-iterator ≡ l.fn.lsas.items

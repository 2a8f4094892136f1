use Rattle.std.proofs.Common.{◌≡◌, ◌++◌, map}
use Rattle.std.specs.Vec.Iter.{into_iter_items}
use Rattle.ospf_types.specs.Lsa.{Lsa}
use Rattle.event_core.proofs.listing.add_rows.Given as goal

-- what was found, and what is left, is what all are
abbrev pub invariant-loop-lsa : goal.invariant-loop-lsa
invariant-loop-lsa l = l.found.items ++ map (λ (lsa : Lsa). (l.scope, lsa)) (into_iter_items l.lsa-iterator) ≡ l.initial.found.items ++ map (λ (lsa : Lsa). (l.scope, lsa)) (into_iter_items l.initial.lsa-iterator)

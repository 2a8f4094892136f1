use Rattle.std.specs.Prelude.{◌↔◌, ◌⊎◌, ◌++◌, Contains}
use Rattle.std.specs.Vec.Iter.{into_iter_items}
use Rattle.graph_links.specs.declared.link.GraphLink.{GraphLink}
use Rattle.graph_links.specs.Pairs.{AreApart}
use Rattle.graph_links.proofs.changes.list_unlike.Given as goal

-- what is there and what is left is what was there and all that was given
abbrev pub invariant-loop-link : goal.invariant-loop-link
invariant-loop-link l = record {
  unlike : (k : GraphLink) →
      (Contains l.links.items k ⊎ (Contains (into_iter_items l.link-iterator) k × (Contains l.others k → ⊥)))
      ↔ (Contains l.fn.links.items k ⊎ (Contains l.fn.has.items k × (Contains l.others k → ⊥)));
  apart : AreApart (l.fn.links.items ++ l.fn.has.items) → AreApart (l.links.items ++ into_iter_items l.link-iterator);
}

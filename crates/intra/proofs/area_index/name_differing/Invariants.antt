-- Who names what is left of both lists, unless they offer it alike, has named so of the whole
-- lists.
use Rattle.std.proofs.Common.{List, length}
use Rattle.std.specs.List.{Contains}
use Rattle.ospf_types.specs.declared.prefix.Prefix.{Prefix}
use Rattle.intra.specs.IndexSteps.{AreAlike}
use Rattle.intra.proofs.area_index.name_differing.Given as goal

abbrev pub invariant-loop-left : goal.invariant-loop-left
invariant-loop-left l = record {
  kept : (p : Prefix) → Contains l.initial.dirty.items p → Contains l.dirty.items p;
  alike : (named : List Prefix) → ((p : Prefix) → Contains l.dirty.items p → Contains named p) → AreAlike named l.left l.right → AreAlike named l.initial.left l.initial.right;
}

abbrev pub decreases-loop-left : goal.decreases-loop-left
decreases-loop-left l = length l.left

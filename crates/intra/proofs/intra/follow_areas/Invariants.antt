-- So far the areas up to here followed.
use Rattle.std.proofs.Common.{ℕ}
use Rattle.std.specs.Prelude.{◌↔◌}
use Rattle.std.specs.List.{Contains}
use Rattle.intra.specs.Updating.{AreFirst, IsBroughtTo, HasOtherAmong}
use Rattle.intra.proofs.intra.follow_areas.Given as goal

abbrev pub invariant-loop-place : goal.invariant-loop-place
invariant-loop-place l = record {
  brought : AreFirst (IsBroughtTo l.inputs.root l.dirty.keys.items l.dirty.vertices.items l.dirty.interfaces.items l.named.prefixes.items) l.inputs.areas l.initial.areas l.areas l.place;
  exact : (router : ℕ) → Contains l.named.routers.items router ↔ HasOtherAmong l.place l.initial.areas l.areas router;
}

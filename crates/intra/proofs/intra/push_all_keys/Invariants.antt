-- So far the keys of the areas up to here are there.
use Rattle.std.proofs.Common.{take}
use Rattle.std.specs.Prelude.{IsSome}
use Rattle.std.specs.FinMap.{get}
use Rattle.std.specs.List.{Contains}
use Rattle.ospf_types.specs.declared.key.Key.{Key}
use Rattle.ospf_types.specs.declared.key.Scope.TheVariants.{Area}
use Rattle.intra.specs.Inputs.{AreaValue}
use Rattle.intra.proofs.intra.push_all_keys.Given as goal

abbrev pub invariant-loop-area : goal.invariant-loop-area
invariant-loop-area l = (a : AreaValue) (key : Key) → Contains (take l.area-index l.areas) a → IsSome (get a.lsas key) → Contains l.keys.items (Area a.id, key)

-- So far the keys of the rows up to here were added.
use Rattle.std.proofs.Common.{◌≡◌, ◌++◌, map, take}
use Rattle.ospf_types.specs.declared.key.Scope.TheVariants.{Area}
use Rattle.intra.proofs.intra.push_keys.Given as goal

abbrev pub invariant-loop-key : goal.invariant-loop-key
invariant-loop-key l = l.keys.items ≡ l.fn.keys.items ++ map (λ key. (Area l.area, key)) (take l.key-index l.database.order)

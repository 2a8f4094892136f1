use Rattle.std.proofs.Common.{◌≡◌, take}
use Rattle.std.specs.List.{filter_map}
use Rattle.std.specs.FinMap.{get}
use Rattle.lsdb.proofs.database.Database.copies.Given as goal

abbrev pub invariant-loop-key : goal.invariant-loop-key
invariant-loop-key l = l.lsas.items ≡ filter_map (get l.self.lsas) (take l.key-index l.keys)

use Rattle.std.proofs.Common.{◌≡◌, take}
use Rattle.calculation.specs.Calculations.{IsItemOf}
use Rattle.route_layers.proofs.Filling.{AreFilled}
use Rattle.calculation.proofs.calculation.Calculation.table.Given as goal

abbrev pub invariant-loop-network : goal.invariant-loop-network
invariant-loop-network l = record {
  filled : AreFilled (IsItemOf l.self) (take l.network-index l.network-items) l.table.items;
  serial : l.table.serial ≡ l.serial;
}

-- So far the networks up to here are added.
use Rattle.std.proofs.Common.{◌≡◌, ◌++◌, map, take}
use Rattle.ospf_types.specs.declared.key.Dest.TheVariants.{Net}
use Rattle.route_choice.proofs.dests.add_networks.Given as goal

abbrev pub invariant-loop-network : goal.invariant-loop-network
invariant-loop-network l = l.dests.items ≡ l.initial.dests.items ++ map Net (take l.network-index l.networks)

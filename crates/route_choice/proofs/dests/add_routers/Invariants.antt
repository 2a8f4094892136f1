-- So far the routers up to here are added.
use Rattle.std.proofs.Common.{◌≡◌, ◌++◌, map, take}
use Rattle.ospf_types.specs.declared.key.Dest.TheVariants.{Router}
use Rattle.route_choice.proofs.dests.add_routers.Given as goal

abbrev pub invariant-loop-router : goal.invariant-loop-router
invariant-loop-router l = l.dests.items ≡ l.initial.dests.items ++ map Router (take l.router-index l.routers)

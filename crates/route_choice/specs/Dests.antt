-- The networks and the routers among destinations.
use Rattle.std.specs.Prelude.{ℕ, List, Option, Some, None, Contains}
use Rattle.ospf_types.specs.declared.key.Dest.{Dest}
use Rattle.ospf_types.specs.declared.key.Dest.TheVariants.{Net, Router}
use Rattle.ospf_types.specs.declared.prefix.Prefix.{Prefix}

-- the network is among the destinations
abbrev pub IsNetworkAmong : List Dest → Prefix → Type 0
IsNetworkAmong dests p = Contains dests (Net p)

-- the network that the destination is
abbrev pub network_of : Dest → Option Prefix
network_of (Net p) = Some p
network_of (Router r) = None

-- the router that the destination is
abbrev pub router_of : Dest → Option ℕ
router_of (Net p) = None
router_of (Router r) = Some r

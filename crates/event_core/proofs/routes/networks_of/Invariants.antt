use Rattle.std.proofs.Common.{◌≡◌, Option, map, take}
use Rattle.ospf_types.specs.declared.prefix.Prefix.{Prefix}
use Rattle.route_table.specs.declared.table.Item.{Item}
use Rattle.event_core.proofs.routes.networks_of.Given as goal

-- So far the networks of the items up to here are listed.
abbrev pub invariant-loop-item : goal.invariant-loop-item
invariant-loop-item l = l.networks.items ≡ map (λ (n : Prefix × Option Item). n.0) (take l.item-index l.items)

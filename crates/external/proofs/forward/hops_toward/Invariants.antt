use Rattle.std.proofs.Common.{◌≡◌, map, take}
use Rattle.ospf_types.specs.declared.hop.Path.{Path}
use Rattle.ospf_types.specs.External.{toward}
use Rattle.external.proofs.forward.hops_toward.Given as goal

abbrev pub invariant-loop-path : goal.invariant-loop-path
invariant-loop-path l = l.hops.items ≡ map (λ (path : Path). toward l.address path.hop) (take l.path-index l.paths)

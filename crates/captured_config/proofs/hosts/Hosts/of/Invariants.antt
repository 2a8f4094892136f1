use Rattle.std.proofs.Common.{take}
use Rattle.captured_config.specs.Hosts.{AreHosts}
use Rattle.captured_config.proofs.hosts.Hosts.of.Given as goal

abbrev pub invariant-loop-link : goal.invariant-loop-link
invariant-loop-link l = AreHosts (take l.link-index l.own) l.hosts

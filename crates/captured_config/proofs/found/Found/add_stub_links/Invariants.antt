use Rattle.std.proofs.Common.{◌≡◌, take}
use Rattle.captured_config.specs.Interfaces.{with_stub_links}
use Rattle.captured_config.proofs.found.Found.add_stub_links.Given as goal

abbrev pub invariant-loop-link : goal.invariant-loop-link
invariant-loop-link l = l.self ≡ with_stub_links l.area (take l.link-index l.own) l.initial.self

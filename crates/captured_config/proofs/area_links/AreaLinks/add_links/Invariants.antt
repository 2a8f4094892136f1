use Rattle.std.proofs.Common.{◌≡◌, take, fold}
use Rattle.captured_config.specs.Finding.{peer_by}
use Rattle.captured_config.specs.Interfaces.{with_link}
use Rattle.captured_config.proofs.area_links.AreaLinks.add_links.Given as goal

abbrev pub invariant-loop-link : goal.invariant-loop-link
invariant-loop-link l = l.found ≡ fold (with_link l.self.area (peer_by l.self.own.items l.self.back.items)) l.initial.found (take l.link-index l.self.own.items)

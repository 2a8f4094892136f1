use Rattle.std.proofs.Common.{◌≡◌, take}
use Rattle.captured_config.specs.Hosts.{masks_around}
use Rattle.captured_config.proofs.area_links.masks_around.Given as goal

abbrev pub invariant-loop-link : goal.invariant-loop-link
invariant-loop-link l = l.masks.items ≡ masks_around l.address (take l.link-index l.own)

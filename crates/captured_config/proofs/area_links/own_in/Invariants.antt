use Rattle.std.proofs.Common.{◌≡◌, take}
use Rattle.captured_config.specs.Finding.{own_in}
use Rattle.captured_config.proofs.area_links.own_in.Given as goal

abbrev pub invariant-loop-one : goal.invariant-loop-one
invariant-loop-one l = l.links.items ≡ own_in l.area (take l.one-index l.own)

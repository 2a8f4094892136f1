use Rattle.std.proofs.Common.{◌≡◌, take}
use Rattle.captured_config.specs.Finding.{back_in}
use Rattle.captured_config.proofs.area_links.back_in.Given as goal

abbrev pub invariant-loop-one : goal.invariant-loop-one
invariant-loop-one l = l.links.items ≡ back_in l.area (take l.one-index l.back)

use Rattle.std.proofs.Common.{◌≡◌, drop}
use Rattle.captured_config.specs.Finding.{first_back}
use Rattle.captured_config.proofs.area_links.AreaLinks.first_back.Given as goal

abbrev pub invariant-loop-back : goal.invariant-loop-back
invariant-loop-back l =
    first_back l.self.own.items l.link.detail l.link.id (drop l.back-index l.self.back.items) ≡ first_back l.self.own.items l.link.detail l.link.id l.self.back.items

use Rattle.std.proofs.Common.{◌≡◌, ◌++◌}
use Rattle.std.specs.List.{filter_map}
use Rattle.captured_config.specs.Facts.{link_back_at}
use Rattle.captured_config.specs.Lsas.{links_within}
use Rattle.captured_config.proofs.telling.links_back_of.Given as goal

abbrev pub invariant-loop-link : goal.invariant-loop-link
invariant-loop-link l =
    l.back.items ++ filter_map (link_back_at l.router l.area l.key.router) l.link-iterator ≡ filter_map (link_back_at l.router l.area l.key.router) (links_within l.lsa)

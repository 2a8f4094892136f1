use Rattle.std.proofs.Common.{◌≡◌, ◌++◌, map}
use Rattle.captured_config.specs.Facts.{own_link}
use Rattle.captured_config.specs.Lsas.{links_within}
use Rattle.captured_config.proofs.telling.own_links_of.Given as goal

abbrev pub invariant-loop-link : goal.invariant-loop-link
invariant-loop-link l = l.own.items ++ map (own_link l.area) l.link-iterator ≡ map (own_link l.area) (links_within l.lsa)

use Rattle.std.proofs.Common.{◌≡◌, ◌++◌}
use Rattle.std.specs.List.{filter_map}
use Rattle.intra.specs.Stubs.{offer_of_link}
use Rattle.intra.proofs.offered.each_stub.Given as goal

abbrev pub invariant-loop-link : goal.invariant-loop-link
invariant-loop-link l = l.offers.items ++ filter_map offer_of_link l.link-iterator ≡ filter_map offer_of_link l.initial.link-iterator

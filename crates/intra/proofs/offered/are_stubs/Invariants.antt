-- Where these are what the links that are left offer, the offers are what all links do.
use Rattle.std.proofs.Common.{◌≡◌}
use Rattle.std.specs.List.{filter_map}
use Rattle.intra.specs.Stubs.{offer_of_link}
use Rattle.intra.proofs.offered.are_stubs.Given as goal

abbrev pub invariant-loop-link : goal.invariant-loop-link
invariant-loop-link l = l.left ≡ filter_map offer_of_link l.link-iterator → l.offers ≡ filter_map offer_of_link l.initial.link-iterator

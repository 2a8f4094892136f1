-- Nothing is left of either.
use Rattle.std.proofs.Common.{ap, sym, ◌∙◌}
use Rattle.std.specs.List.{filter_map}
use Rattle.lsa_codec.specs.Readers.{links_of}
use Rattle.intra.specs.Stubs.{offer_of_link}
use Rattle.intra.proofs.StubOffers.{stubs_without_tos, empty_of}
use Rattle.intra.proofs.offered.are_stubs.Goals as goal

pub returns : goal.returns
returns c = λ t.
    c.loop-link.invariant (empty_of c.loop-link.left.now (sym c.is_empty.ensures ∙ t) ∙ ap (filter_map offer_of_link) (sym c.in-None.ensures.steps.0))
    ∙ ap (filter_map offer_of_link) (c.into_iter-link-iterator.ensures.into_iter_gives ∙ c.links-link-items.ensures)
    ∙ stubs_without_tos (links_of c.args.lsa.now.body)

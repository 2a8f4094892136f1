use Rattle.std.proofs.Common.{◌++◌, ap, sym, ◌∙◌, List}
use Rattle.std.specs.List.{filter_map}
use Rattle.std.proofs.lemmas.List.{append-nil}
use Rattle.ospf_types.specs.declared.lsa.Link.{Link}
use Rattle.lsa_codec.specs.Readers.{links_of}
use Rattle.intra.specs.Stubs.{offer_of_link}
use Rattle.intra.proofs.StubOffers.{stubs_without_tos}
use Rattle.intra.proofs.offered.each_stub.Goals as goal

pub returns : goal.returns
returns c =
    sym (append-nil c.loop-link.offers.items)
    ∙ ap (λ (rest : List Link). c.loop-link.offers.items ++ filter_map offer_of_link rest) (sym c.in-None.ensures.steps.0)
    ∙ c.loop-link.invariant
    ∙ ap (filter_map offer_of_link) (c.into_iter-link-iterator.ensures.into_iter_gives ∙ c.links-link-items.ensures)
    ∙ stubs_without_tos (links_of c.args.lsa.now.body)

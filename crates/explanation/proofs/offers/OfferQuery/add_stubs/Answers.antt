use Rattle.std.proofs.Common.{◌++◌, ap, sym, ◌∙◌, List}
use Rattle.std.specs.List.{filter_map}
use Rattle.std.proofs.lemmas.List.{append-nil}
use Rattle.ospf_types.specs.declared.lsa.Link.{Link}
use Rattle.lsa_codec.specs.Readers.{links_of}
use Rattle.explanation.specs.Offers.{is_wanted, stub_if}
use Rattle.explanation.proofs.StubLinks.{stubs_without_tos}
use Rattle.explanation.proofs.offers.OfferQuery.add_stubs.Goals as goal

pub returns : goal.returns
returns c =
    let offered = stub_if (is_wanted c.args.self.wanted) c.args.self.scope c.args.lsa.now in
    sym (append-nil c.loop-link.offers.items)
    ∙ ap (λ (rest : List Link). c.loop-link.offers.items ++ filter_map offered rest) (sym c.in-None.ensures.steps.0)
    ∙ c.loop-link.invariant
    ∙ ap (λ (links : List Link). c.args.offers.now.items ++ filter_map offered links) (c.into_iter-link-iterator.ensures.into_iter_gives ∙ c.links-link-items.ensures)
    ∙ ap (λ found. c.args.offers.now.items ++ found) (stubs_without_tos (is_wanted c.args.self.wanted) c.args.self.scope c.args.lsa.now (links_of c.args.lsa.now.body))

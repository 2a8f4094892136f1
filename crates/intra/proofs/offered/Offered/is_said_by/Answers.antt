-- The bits and the stub networks of a router-LSA.
use Rattle.std.proofs.Common.{ap, sym, ◌∙◌}
use Rattle.std.specs.List.{filter_map}
use Rattle.ospf_types.specs.declared.entry.Vertex.TheVariants.{Router}
use Rattle.lsa_codec.specs.Readers.{links_of}
use Rattle.intra.specs.Indexes.{OfferedValue}
use Rattle.intra.specs.Stubs.{stub_of_link}
use Rattle.intra.proofs.StubOffers.{router_offers, has_offers_of_eq}
use Rattle.intra.proofs.offered.Offered.is_said_by.Goals as goal

pub returns-then-has_flags_of : goal.returns-then-has_flags_of
returns-then-has_flags_of c = λ t.
    let body = c.args.lsa.now.body in
    let router = c.in-Router.field-0 in
    let same = sym (ap (λ (o : OfferedValue). o.offers) c.self.view_is) ∙ sym c.as_slice.ensures.value ∙ c.are_stubs.ensures t in
    record {
      flags = c.has_flags_of.ensures c.if-has_flags_of.true;
      exact = has_offers_of_eq c.args.vertex (Router router) body c.args.self.now.offers (filter_map stub_of_link (links_of body)) c.in-Router.is same (router_offers router body);
    }

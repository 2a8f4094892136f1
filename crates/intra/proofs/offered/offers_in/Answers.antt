use Rattle.std.proofs.Common.{◌≢◌, List, Vec, Global, Some, ap, sym, subst, ◌∙◌}
use Rattle.std.specs.Prelude.{◌↔◌, Contains, unwrap_or}
use Rattle.std.specs.List.{AllPairs, filter_map}
use Rattle.ospf_types.specs.declared.entry.Vertex.TheVariants.{Router, Network}
use Rattle.lsa_codec.specs.Readers.{flags_of, links_of, prefix_of}
use Rattle.intra.specs.declared.offered.OfferedPrefix.{OfferedPrefix}
use Rattle.intra.specs.Stubs.{stub_of_link, transit_offers}
use Rattle.intra.proofs.StubOffers.{HasOffersOf, router_offers, network_has_at, has_offers_of_eq, has_offers_of_same, transit_once, bits_are}
use Rattle.intra.proofs.offered.offers_in.Goals as goal
use Rattle.intra.proofs.offered.offers_in.Goals.{in-Router+in_ok-offers-in-Router, in-Network+in_ok-offers-in-Network}

pub returns : goal.returns
returns c =
    let lsa = c.args.lsa.now in
    let items : List OfferedPrefix = c.match-vertex.offers.items in
    let stubs : List OfferedPrefix = filter_map stub_of_link (links_of lsa.body) in
    let exact : HasOffersOf c.args.vertex lsa.body items = elim c.match-vertex.branch [
      | in-Router+in_ok-offers-in-Router w ↦
          has_offers_of_same c.args.vertex (Router w.in-Router.field-0) lsa.body items stubs w.in-Router.is
          (subst (λ (os : List OfferedPrefix). (o : OfferedPrefix) → Contains os o ↔ Contains stubs o) (sym (ap (λ (v : Vec OfferedPrefix Global). v.items) w.offers-is)) w.in_ok-offers-in-Router.ensures.exact) (router_offers w.in-Router.field-0 lsa.body)
      | in-Network+in_ok-offers-in-Network w ↦
          has_offers_of_eq c.args.vertex (Network w.in-Network.field-0) lsa.body items (transit_offers (prefix_of lsa)) w.in-Network.is (ap (λ (v : Vec OfferedPrefix Global). v.items) w.offers-is ∙ w.in_ok-offers-in-Network.ensures) (network_has_at w.in-Network.field-0 lsa (c.requires ∙ ap Some w.in-Network.is))
    ] in
    record { flags = c.unwrap_or-flags.ensures ∙ ap (λ o. unwrap_or o 0) c.flags.ensures ∙ bits_are (flags_of lsa.body); exact = exact }

pub invariant_of-result : goal.invariant_of-result
invariant_of-result c =
    elim c.match-vertex.branch [
      | in-Router+in_ok-offers-in-Router w ↦ subst (λ (os : List OfferedPrefix). AllPairs (λ a b. a ≢ b) os) (sym (ap (λ (v : Vec OfferedPrefix Global). v.items) w.offers-is)) w.in_ok-offers-in-Router.ensures.each_once
      | in-Network+in_ok-offers-in-Network w ↦
          subst (λ (os : List OfferedPrefix). AllPairs (λ a b. a ≢ b) os) (sym (ap (λ (v : Vec OfferedPrefix Global). v.items) w.offers-is ∙ w.in_ok-offers-in-Network.ensures)) (transit_once (prefix_of c.args.lsa.now))
    ]

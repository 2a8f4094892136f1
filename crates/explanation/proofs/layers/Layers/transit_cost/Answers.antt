use Rattle.std.proofs.Common.{◌≡◌, rules, Some, subst}
use Rattle.ospf_types.specs.declared.entry.Vertex.TheVariants.{Network}
use Rattle.explanation.specs.Layers.{IsKeyStanding}
use Rattle.explanation.proofs.layers.Layers.transit_cost.Goals as goal

pub returns-in-Some-clause-cost : goal.returns-in-Some-clause-cost
returns-in-Some-clause-cost c =
    let stands : c.standing.result ≡ Some c.args.offer.now.source.key = search rules in
    (c.if-offer-ge-MAX_AGE.false, subst (IsKeyStanding c.args.self.areas.now c.args.area (Network c.args.offer.now.source.key.id)) stands c.standing.ensures, c.in-Some.ensures.value)

pub returns-in-None-clause-none : goal.returns-in-None-clause-none
returns-in-None-clause-none c =
    let stands : c.standing.result ≡ Some c.args.offer.now.source.key = search rules in
    (c.if-offer-ge-MAX_AGE.false, subst (IsKeyStanding c.args.self.areas.now c.args.area (Network c.args.offer.now.source.key.id)) stands c.standing.ensures, c.in-None.ensures.value)

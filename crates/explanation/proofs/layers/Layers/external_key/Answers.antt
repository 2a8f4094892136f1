use Rattle.std.proofs.Common.{rules, inl}
use Rattle.explanation.specs.Offered.{IsBoundaryReached}
use Rattle.explanation.proofs.Keys.{lacks_key, reached_key}
use Rattle.explanation.proofs.layers.Layers.external_key.Goals as goal

pub returns-then-external-eq0-clause-key : goal.returns-then-external-eq0-clause-key
returns-then-external-eq0-clause-key c =
    let preferred = c.in-Some-preferred.preferred.now in
    let reached : IsBoundaryReached c.args.self c.args.offer.now.source.key.router = (preferred, search rules) in
    (c.in_default.ensures.none, reached, (c.class-class.result, c.cost-distance.result, inl (c.if-external-eq0.true, (preferred, reached.1, c.class-class.ensures, c.cost-distance.ensures.value)), c.key_by.ensures))

pub returns-clause-key : goal.returns-clause-key
returns-clause-key c = reached_key c.args.self c.args.offer.now c.args.metric c.args.external c.in_default.ensures.none (c.in-Some-preferred.preferred.now, search rules) c.forwarded_key.result c.forwarded_key.ensures.key

pub returns-clause-none : goal.returns-clause-none
returns-clause-none c = lacks_key c.args.self c.args.offer.now c.args.metric c.args.external c.in_default.ensures.none (c.in-Some-preferred.preferred.now, search rules) c.forwarded_key.result c.forwarded_key.ensures.none

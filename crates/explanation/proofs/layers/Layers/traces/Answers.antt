use Rattle.std.proofs.Common.{◌<◌, ap, sym, subst, ◌∙◌, arith}
use Rattle.ospf_types.specs.declared.key.Scope.{Scope}
use Rattle.explanation.specs.declared.offer.OfferKind.{OfferKind}
use Rattle.explanation.specs.Outside.{AreTracesAs, match_by}
use Rattle.explanation.proofs.Candidates.{forwarded_as, outside_as, within_as}
use Rattle.explanation.proofs.layers.Layers.traces.Goals as goal

pub returns-then-address-eq0 : goal.returns-then-address-eq0
returns-then-address-eq0 c =
    let w = c.args.self in
    let o = c.args.offer.now in
    let paths = c.args.paths.now in
    let traces = c.in_ok-traces.traces.items in
    subst (λ (k : OfferKind). AreTracesAs w o o.source.scope k paths traces) (sym c.in-AsExternal.is)
    (outside_as w o paths o.source.scope c.in-AsExternal.field-0 c.in-AsExternal.external traces c.if-address-eq0.true c.in_ok-traces.ensures)

pub returns-in-AsExternal : goal.returns-in-AsExternal
returns-in-AsExternal c =
    let w = c.args.self in
    let o = c.args.offer.now in
    let paths = c.args.paths.now in
    let traces = c.in_ok-traces-2.traces.items in
    let other = c.if-address-eq0.false in
    let some : 0 < c.in-AsExternal.external.forwarding = omega (arith, other) in
    subst (λ (k : OfferKind). AreTracesAs w o o.source.scope k paths traces) (sym c.in-AsExternal.is)
    (forwarded_as w o paths o.source.scope c.in-AsExternal.field-0 c.in-AsExternal.external traces some c.in_ok-traces-2.ensures)

pub returns-in_ok-traces-in-Area : goal.returns-in_ok-traces-in-Area
returns-in_ok-traces-in-Area c =
    let w = c.args.self in
    let o = c.args.offer.now in
    let paths = c.args.paths.now in
    let traces = c.in_ok-traces-in-Area.traces.items in
    subst (λ (scope : Scope). AreTracesAs w o scope o.kind paths traces) (sym c.in-Area.is)
    (within_as w o paths c.in-Area.area traces o.kind (λ metric external e. c.in_default.not-AsExternal metric external e) c.in_ok-traces-in-Area.ensures)

pub forward_traces-requires-clause-matched : goal.forward_traces-requires-clause-matched
forward_traces-requires-clause-matched c = λ p found. c.requires.matched p (ap (match_by c.args.self) c.in-AsExternal.is ∙ found)

use Rattle.std.proofs.Common.{sym, inl, ◌∙◌}
use Rattle.explanation.specs.Outside.{GivesOnward}
use Rattle.explanation.proofs.Forwarding.{traces_found}
use Rattle.explanation.proofs.TraceLists.{all_each, more_each}
use Rattle.explanation.proofs.layers.Layers.forward_traces.Goals as goal

pub loop-inner-preserved : goal.loop-inner-preserved
loop-inner-preserved c =
    let f = c.args.forwarded in
    let inners = c.traces_to-inner-items.result.now in
    more_each (GivesOnward f.address f.offer.now f.paths.now c.in-Some.network) inners c.loop-inner.inner-index c.inner-item.result c.loop-inner.traces.items c.push_onward.new.traces.items c.loop-inner-test.true c.inner-item.is
    c.loop-inner.invariant c.in_ok-push_onward.ensures

pub returns : goal.returns
returns c =
    let w = c.args.self in
    let f = c.args.forwarded in
    let inners = c.traces_to-inner-items.result.now in
    let p = c.in-Some.network in
    inl (
      p,
      inners,
      sym c.matched.ensures ∙ c.in-Some.is,
      traces_found w c.args.forwards.now.networks c.args.forwards.now.items.items c.requires.right p inners c.traces_to-inner-items.ensures,
      all_each (GivesOnward f.address f.offer.now f.paths.now p) inners c.loop-inner.inner-index c.loop-inner.traces.items c.loop-inner-test.false c.loop-inner.invariant,
    )

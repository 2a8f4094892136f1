use Rattle.std.proofs.Common.{take, sym, subst}
use Rattle.std.proofs.lemmas.List.{get_or_default}
use Rattle.explanation.specs.Traces.{AreOwnTraces, GivesOwn}
use Rattle.explanation.proofs.TraceLists.{all_each, more_each, none_each}
use Rattle.explanation.proofs.layers.Layers.own_traces.Goals as goal

pub loop-path-init : goal.loop-path-init
loop-path-init c =
    let o = c.args.offer.now in
    subst (AreOwnTraces c.args.self c.args.area o (take 0 c.args.paths.now)) (sym c.new-traces.ensures.items) (none_each (GivesOwn c.args.self c.args.area o) c.args.paths.now)

pub loop-path-preserved : goal.loop-path-preserved
loop-path-preserved c =
    let o = c.args.offer.now in
    more_each (GivesOwn c.args.self c.args.area o) c.args.paths.now c.loop-path.path-index _ c.loop-path.traces.items c.push_own.new.traces.items c.loop-path-test.true
    (get_or_default c.args.paths.now c.loop-path.path-index _ _ c.loop-path-test.true) c.loop-path.invariant c.in_ok-push_own.ensures

pub returns : goal.returns
returns c =
    let o = c.args.offer.now in
    all_each (GivesOwn c.args.self c.args.area o) c.args.paths.now c.loop-path.path-index c.loop-path.traces.items c.loop-path-test.false c.loop-path.invariant

use Rattle.std.proofs.Common.{take, sym, subst}
use Rattle.std.proofs.lemmas.List.{get_or_default}
use Rattle.explanation.specs.Traces.{AreTracesTo, GivesTo}
use Rattle.explanation.proofs.TraceLists.{all_each, more_each, none_each}
use Rattle.explanation.proofs.layers.Layers.traces_to.Goals as goal

pub loop-path-init : goal.loop-path-init
loop-path-init c =
    let areas = c.args.self.areas.now in
    let t = c.args.target in
    subst (AreTracesTo areas t.area t.vertex t.advertiser t.on.now (take 0 c.args.paths.now)) (sym c.new-traces.ensures.items) (none_each (GivesTo areas t.area t.vertex t.advertiser t.on.now) c.args.paths.now)

pub loop-path-preserved : goal.loop-path-preserved
loop-path-preserved c =
    let areas = c.args.self.areas.now in
    let t = c.args.target in
    more_each (GivesTo areas t.area t.vertex t.advertiser t.on.now) c.args.paths.now c.loop-path.path-index _ c.loop-path.traces.items c.push_trace.new.traces.items c.loop-path-test.true
    (get_or_default c.args.paths.now c.loop-path.path-index _ _ c.loop-path-test.true) c.loop-path.invariant c.in_ok-push_trace.ensures

pub returns : goal.returns
returns c =
    let areas = c.args.self.areas.now in
    let t = c.args.target in
    all_each (GivesTo areas t.area t.vertex t.advertiser t.on.now) c.args.paths.now c.loop-path.path-index c.loop-path.traces.items c.loop-path-test.false c.loop-path.invariant

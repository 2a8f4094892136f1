use Rattle.std.proofs.Common.{List, subst}
use Rattle.std.proofs.lemmas.List.{take_all}
use Rattle.graph_links.specs.declared.link_end.LinkEnd.{LinkEnd}
use Rattle.vertex_graph.specs.Stagings.{TouchesOthers}
use Rattle.vertex_graph.proofs.HandedIn.{touches_none, touches_more}
use Rattle.vertex_graph.proofs.staging.touch.Goals as goal

pub loop-place-init : goal.loop-place-init
loop-place-init c = record { kept = λ v h. h; others = touches_none c.args.others.ends.now c.args.touched.now.items }

pub loop-place-preserved : goal.loop-place-preserved
loop-place-preserved c = record {
  kept = λ v h. c.in_ok-touch_end.ensures.kept v (c.loop-place.invariant.kept v h);
  others = touches_more c.args.ends.now c.args.others.ends.now c.loop-place.place _ c.loop-place.touched.items c.touch_end.new.touched.items c.loop-place-test.true c.loop-place.invariant.others c.in_ok-touch_end.ensures.kept c.in_ok-touch_end.ensures.other;
}

pub returns-clause-kept : goal.returns-clause-kept
returns-clause-kept c = c.loop-place.invariant.kept

pub returns-clause-others : goal.returns-clause-others
returns-clause-others c = subst (λ (es : List LinkEnd). TouchesOthers es c.args.others.ends.now c.loop-place.touched.items) (take_all c.loop-place.place c.args.ends.now c.loop-place-test.false) c.loop-place.invariant.others

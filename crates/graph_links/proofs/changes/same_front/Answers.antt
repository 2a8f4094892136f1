use Rattle.std.proofs.Common.{◌<◌, ◌∙◌, arith, length, refl, sym}
use Rattle.std.proofs.lemmas.Bool.Decides.{nat_tests}
use Rattle.graph_links.proofs.Taking.{same_more, same_whole}
use Rattle.graph_links.proofs.changes.same_front.Goals as goal

pub loop-place-init : goal.loop-place-init
loop-place-init c = record { within = omega arith; same = refl }

pub returns-in_default-clause-same : goal.returns-in_default-clause-same
returns-in_default-clause-same c = c.loop-place.invariant.same

pub returns-in_default-2-clause-within_other : goal.returns-in_default-2-clause-within_other
returns-in_default-2-clause-within_other c = c.loop-place.invariant.within

pub returns-in_default-2-clause-same : goal.returns-in_default-2-clause-same
returns-in_default-2-clause-same c = c.loop-place.invariant.same

pub loop-place-preserved : goal.loop-place-preserved
loop-place-preserved c =
    let i = c.loop-place.place in
    let within : i < length c.args.other.now = let test = c.in-Some.ensures.lookup.0 in grind (arith, nat_tests) in
    record {
      within = omega (arith, within);
      same = same_more c.args.one.now c.args.other.now i c.index-one-place.result c.in-Some.same.now c.loop-place-test.true within c.loop-place.invariant.same (sym c.index-one-place.is ∙ c.is_same.ensures.0 c.if-is_same.true ∙ c.in-Some.ensures.lookup.1);
    }

pub returns-clause-within_other : goal.returns-clause-within_other
returns-clause-within_other c =
    let within = c.loop-place.invariant.within in
    let past = c.loop-place-test.false in
    omega (arith, within, past)

pub returns-clause-same : goal.returns-clause-same
returns-clause-same c = same_whole c.args.one.now c.args.other.now c.loop-place.place c.loop-place-test.false c.loop-place.auto.place-end c.loop-place.invariant.same

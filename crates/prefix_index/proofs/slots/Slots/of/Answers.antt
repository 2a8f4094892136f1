use Rattle.std.proofs.Common.{get_or, refl, sym, arith}
use Rattle.prefix_index.proofs.Adding.{added_more, added_all}
use Rattle.prefix_index.proofs.Lookups.{has_at, named_at}
use Rattle.prefix_index.proofs.slots.Slots.of.Goals as goal

pub loop-place-preserved : goal.loop-place-preserved
loop-place-preserved g c =
    let es = c.args.entries.now in
    let place = c.loop-place.place in
    let e = c.index-entries-place.result in
    added_more c.loop-place.invariant c.in_ok-add.ensures.more (get_or es place e).0 (has_at es place (get_or es place e).0 e c.loop-place-test.true refl) (λ q has. sym (named_at es place q e has)) c.in_ok-add.ensures.placed

pub returns-clause-slotted : goal.returns-clause-slotted
returns-clause-slotted g c = added_all c.loop-place.invariant (omega arith)

pub returns-clause-few : goal.returns-clause-few
returns-clause-few g c = c.loop-place.invariant.few

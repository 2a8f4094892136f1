use Rattle.std.proofs.Common.{◌≡◌, ◌∙◌, true, false, sym}
use Rattle.event_state.proofs.RangeLists.{same_more, same_at}
use Rattle.event_state.proofs.ranges.ranges_differ.Goals as goal

pub returns-then-not-are_same : goal.returns-then-not-are_same
returns-then-not-are_same c = (
  λ e. absurd cc,
  λ same.
      let ranges = c.as_slice.ensures ∙ same_at c.args.areas.now c.args.new.now c.loop-i.i c.index-areas-i.result c.index-new-i.result c.loop-i-test.true same ∙ sym c.as_slice-in-loop-i.ensures in
      let wrong : true ≡ false = sym (c.are_same.ensures.1 ranges) ∙ c.if-not-are_same.true in
      absurd cc,
)

pub loop-i-preserved : goal.loop-i-preserved
loop-i-preserved c =
    let ranges = sym c.as_slice.ensures ∙ c.are_same.ensures.0 c.if-not-are_same.false ∙ c.as_slice-in-loop-i.ensures in
    same_more c.args.areas.now c.args.new.now c.loop-i.i c.index-areas-i.result c.index-new-i.result c.requires c.loop-i-test.true ranges c.loop-i.invariant

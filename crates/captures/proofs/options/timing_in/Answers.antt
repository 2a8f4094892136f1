use Rattle.std.proofs.Common.{Err, sym, ap, ◌∙◌}
use Rattle.std.proofs.lemmas.Result.{err_from_is_err_and}
use Rattle.captures.proofs.Walking.{from_place, walk_last, walk_cut, walk_fails, walk_on, walk_done}
use Rattle.captures.proofs.options.timing_in.Goals as goal

pub returns-then-is_last : goal.returns-then-is_last
returns-then-is_last c =
    walk_last _ _ _ c.loop.rest.now _ _ (sym c.is_last.ensures ∙ c.if-is_last.true) c.loop.invariant

pub returns-then-is_cut_off : goal.returns-then-is_cut_off
returns-then-is_cut_off c =
    walk_cut _ _ _ c.loop.rest.now _ _ c.loop-test.true (sym c.is_last.ensures ∙ c.if-is_last.false) (sym c.is_cut_off.ensures ∙ c.if-is_cut_off.true) c.loop.invariant

pub returns-in_err-timing : goal.returns-in_err-timing
returns-in_err-timing c =
    let fails = sym c.timing_with.ensures ∙ c.in_err-timing.was in
    let error = err_from_is_err_and c.from_residual.result c.from_residual.ensures.1 in
    let whole = walk_fails _ _ _ c.loop.rest.now _ _ _ c.loop-test.true (sym c.is_last.ensures ∙ c.if-is_last.false) (sym c.is_cut_off.ensures ∙ c.if-is_cut_off.false) fails c.loop.invariant in
    error.1 ∙ ap Err error.2 ∙ whole

pub loop-preserved : goal.loop-preserved
loop-preserved c =
    let goes = sym c.timing_with.ensures ∙ c.in_ok-timing.was in
    rw (from_place c.size.result c.loop.rest.now, c.size.ensures)
    (walk_on _ _ _ c.loop.rest.now _ _ _ c.loop-test.true (sym c.is_last.ensures ∙ c.if-is_last.false) (sym c.is_cut_off.ensures ∙ c.if-is_cut_off.false) goes c.loop.invariant)

pub returns : goal.returns
returns c = walk_done _ _ _ c.loop.rest.now _ _ c.loop-test.false c.loop.invariant

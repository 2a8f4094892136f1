use Rattle.std.proofs.Common.{◌+◌, ◌-◌, ◌++◌, length, ap, sym, ◌∙◌, arith}
use Rattle.std.proofs.lemmas.List.{append-nil}
use Rattle.std.proofs.lemmas.Result.{on_err_weaker, on_ok_weaker}
use Rattle.lanes.proofs.RowsFrom.{joined, joined_last, rows_from_none, kept_further, on_err_any}
use Rattle.lanes.proofs.rows.append.Goals as goal
use Rattle.lanes.proofs.rows.append.Goals.{then-is_among+in_ok-append_one_by_one, else-is_among}

pub returns-in_err-append_one_by_one-clause-kept : goal.returns-in_err-append_one_by_one-clause-kept
returns-in_err-append_one_by_one-clause-kept g c =
    on_err_any c.from_residual.result
    (kept_further c.args.rows.now.items c.loop-first.rows.items c.append_one_by_one.new.rows.items _ _ _ c.args.rows.now.ok.0 c.loop-first.rows.ok.0 c.loop-first.invariant.so_far c.in_err-append_one_by_one.ensures.kept)

pub loop-first-preserved : goal.loop-first-preserved
loop-first-preserved g c =
    let first = c.loop-first.first in
    let before = c.loop-first.rows.items in
    record {
      within = omega arith;
      so_far = joined (λ x. g.T.PartialEq.eq x c.args.value) c.args.column.now first (first + 32 - first) (first + 32) c.args.rows.now.items before c.if-is_among.rows.items c.loop-first.invariant.within (omega arith) c.loop-first.invariant.so_far
          (elim c.if-is_among.branch [
            | then-is_among+in_ok-append_one_by_one w ↦ rw w.rows-is w.in_ok-append_one_by_one.ensures.found
            | else-is_among w ↦
                let none = sym c.is_among.ensures ∙ w.if-is_among.false in
                rw w.rows-is (sym (append-nil before) ∙ ap (λ rows. before ++ rows) (sym (rows_from_none (λ x. g.T.PartialEq.eq x c.args.value) first _ none)))
          ]);
    }

pub returns-clause-found : goal.returns-clause-found
returns-clause-found g c =
    let column = c.args.column.now in
    let first = c.loop-first.first in
    on_ok_weaker c.append_one_by_one-2.result
    (joined_last (λ x. g.T.PartialEq.eq x c.args.value) column first (length column - first) c.args.rows.now.items c.loop-first.rows.items c.append_one_by_one-2.new.rows.items c.loop-first.invariant.within (omega arith) c.loop-first.invariant.so_far)
    c.append_one_by_one-2.ensures.found

pub returns-clause-kept : goal.returns-clause-kept
returns-clause-kept g c =
    on_err_weaker c.append_one_by_one-2.result
    (kept_further c.args.rows.now.items c.loop-first.rows.items c.append_one_by_one-2.new.rows.items _ _ _ c.args.rows.now.ok.0 c.loop-first.rows.ok.0 c.loop-first.invariant.so_far)
    c.append_one_by_one-2.ensures.kept

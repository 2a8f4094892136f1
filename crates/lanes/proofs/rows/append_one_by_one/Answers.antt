use Rattle.std.proofs.Common.{◌≡◌, ◌+◌, true, false, sym, ◌∙◌, arith}
use Rattle.std.proofs.lemmas.Grind.{common_steps}
use Rattle.lanes.proofs.RowsFrom.{appended, then_appended, else_appended}
use Rattle.lanes.proofs.rows.append_one_by_one.Goals as goal
use Rattle.lanes.proofs.rows.append_one_by_one.Goals.{then-eq+in_ok-push, else-eq}

pub loop-place-preserved : goal.loop-place-preserved
loop-place-preserved g c =
    let p = λ (x : g.row.T.Denot). g.T.PartialEq.eq x c.args.value in
    let row = c.args.first + c.loop-place.place in
    let x = c.index-column-place.result in
    let before = c.loop-place.rows.items in
    appended p c.args.first c.args.column.now c.loop-place.place x c.args.rows.now.items before c.if-eq.rows.items (omega arith) c.index-column-place.is c.loop-place.invariant
    (elim c.if-eq.branch [
      | then-eq+in_ok-push w ↦ let passes : g.T.PartialEq.eq x c.args.value ≡ true = sym c.eq.ensures ∙ w.if-eq.true in let t = then_appended p x row before passes in grind (arith, common_steps, t)
      | else-eq w ↦ let fails : g.T.PartialEq.eq x c.args.value ≡ false = sym c.eq.ensures ∙ w.if-eq.false in let t = else_appended p x row before fails in cc
    ])

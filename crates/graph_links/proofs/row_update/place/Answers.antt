use Rattle.std.proofs.Common.{List, ◌∷◌, [], ap, length, subst, sym, ◌∙◌, arith}
use Rattle.std.proofs.lemmas.List.{length-append}
use Rattle.graph_links.specs.declared.row_update.RowUpdate.{RowUpdate}
use Rattle.graph_links.specs.Sides.{AreRowsPlaced}
use Rattle.graph_links.proofs.Placing.{place_last}
use Rattle.graph_links.proofs.row_update.place.Goals as goal

pub loop-one-preserved : goal.loop-one-preserved
loop-one-preserved c =
    let one = c.in-Some.one in
    let rest = c.pop.new.self.items in
    let steps = c.in-Some.ensures.items in
    record {
      rest = λ rows h. c.loop-one.invariant.rest rows (subst (λ (fs : List RowUpdate). AreRowsPlaced fs c.loop-one.rows.entries rows) (sym steps) (place_last one rest c.loop-one.rows.entries c.place_one.new.rows.entries rows c.place_one.ensures.placed h));
      room = omega (arith, c.loop-one.invariant.room, ap length steps ∙ length-append rest (one ∷ []), c.place_one.ensures.room);
    }

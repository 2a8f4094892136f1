use Rattle.std.proofs.Common.{List, sym, subst}
use Rattle.area_drawings.specs.declared.reached.ReachedVertex.{ReachedVertex}
use Rattle.area_drawings.specs.Columns.{AreColumnsOf}
use Rattle.area_drawings.proofs.Drawn.{columns_moved}
use Rattle.area_drawings.proofs.area.arrange.Goals as goal

pub place_all-requires : goal.place_all-requires
place_all-requires c =
    let columns = c.args.columns.now in
    subst (λ (rs : List ReachedVertex). AreColumnsOf rs columns) (sym c.deref-3.ensures.value) (columns_moved c.args.reached.now c.in_ok-ordered.ordered.items columns c.in_ok-ordered.ensures c.requires)

use Rattle.std.proofs.Common.{◌++◌, ◌∷◌, [], sym, subst}
use Rattle.vertex_queue.specs.Marks.{Marks, AreMarked}
use Rattle.vertex_queue.proofs.Marking.{marked_next, marked_still}
use Rattle.vertex_queue.proofs.vertex_set.mark_next.Goals as goal

pub returns-in_err-insert-clause-still : goal.returns-in_err-insert-clause-still
returns-in_err-insert-clause-still c = subst (λ (m : Marks). AreMarked m c.args.list.now) (sym c.in_err-insert.ensures.err) c.requires.marked

pub returns-clause-grown : goal.returns-clause-grown
returns-clause-grown c =
    let list = c.args.list.now in
    let v = c.args.vertex.now in
    subst (λ (m : Marks). AreMarked m (list ++ v ∷ [])) (sym c.in_ok-insert.ensures.ok) (marked_next c.args.marks.now list v c.requires.marked c.requires.fresh)

pub returns-clause-still : goal.returns-clause-still
returns-clause-still c =
    let list = c.args.list.now in
    let v = c.args.vertex.now in
    subst (λ (m : Marks). AreMarked m list) (sym c.in_ok-insert.ensures.ok) (marked_still c.args.marks.now list v _ c.requires.marked c.requires.fresh)

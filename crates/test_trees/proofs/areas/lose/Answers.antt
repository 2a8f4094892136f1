use Rattle.std.proofs.Common.{[], ◌∷◌, sym, subst}
use Rattle.lsdb.specs.Databases.{Database}
use Rattle.ospf_types.specs.declared.key.Key.{Key}
use Rattle.area_trees.specs.Areas.{DifferAmong}
use Rattle.test_trees.proofs.Ageing.{differ_aged}
use Rattle.test_trees.proofs.areas.lose.Goals as goal

pub follow-requires-clause-before : goal.follow-requires-clause-before
follow-requires-clause-before c =
    let before = c.args.database.now.lsas in
    let greatest : Key = record { kind = 2; id = 3221225986; router = 3 } in
    let r = c.requires.tree in
    (r.0, before, r.1, r.2, subst (λ (d : Database). DifferAmong before d (greatest ∷ [])) (sym c.age_out.ensures.aged) (differ_aged before greatest))

pub returns : goal.returns
returns c = let r = c.requires.tree in (r.0, r.1, c.in_ok-follow.ensures.right r.0 c.args.database.now.lsas r.1 r.2)

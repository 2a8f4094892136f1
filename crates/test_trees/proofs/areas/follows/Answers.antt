use Rattle.test_trees.proofs.areas.follows.Goals as goal

pub interfaces-requires : goal.interfaces-requires
interfaces-requires c = let r = c.in_ok-lose.ensures in (r.0, c.lose.new.database.lsas, r.1, r.2)

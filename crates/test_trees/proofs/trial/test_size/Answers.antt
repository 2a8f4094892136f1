use Rattle.std.proofs.Common.{arith}
use Rattle.vertex_graph.specs.Graphs.{handed_of}
use Rattle.test_trees.proofs.Few.{few_after, handed_length}
use Rattle.test_trees.proofs.trial.test_size.Goals as goal

pub returns-then-lsas-lt1000-clause-few : goal.returns-then-lsas-lt1000-clause-few
returns-then-lsas-lt1000-clause-few c =
    few_after c.args.graph.now (handed_of c.args.lsas.now) (omega (arith, c.if-len-lt1000.true, c.if-lsas-lt1000.true, c.len.ensures, handed_length c.args.lsas.now))

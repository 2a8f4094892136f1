use Rattle.std.proofs.lemmas.Result.{on_ok_weaker}
use Rattle.spf.proofs.HopUnions.{union_first}
use Rattle.spf.proofs.gathering.add_first.Goals as goal

pub returns-in-Some : goal.returns-in-Some
returns-in-Some c = on_ok_weaker c.put.result (union_first c.args.set.now c.put.new.self c.in-Some.hop c.args.to c.args.label.now c.in-Some.ensures) c.put.ensures.added

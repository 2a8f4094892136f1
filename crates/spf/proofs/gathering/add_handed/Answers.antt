use Rattle.std.proofs.lemmas.Result.{on_ok_weaker}
use Rattle.spf.proofs.HopUnions.{union_stays}
use Rattle.spf.proofs.gathering.add_handed.Goals as goal

pub returns-in-Peer : goal.returns-in-Peer
returns-in-Peer c = on_ok_weaker c.put.result (union_stays c.args.set.now c.put.new.self c.args.hop c.args.label.now c.in-Peer.is) c.put.ensures.added

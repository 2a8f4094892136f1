use Rattle.std.proofs.Common.{refl, arith}
use Rattle.engine.proofs.Rolling.{begun_as}
use Rattle.engine.proofs.engine_state.follow.Goals as goal

pub loop-k-init : goal.loop-k-init
loop-k-init c = (refl, begun_as c.args.rolled.now.list c.args.journal.now c.args.history.now.list _ (omega (arith, c.len.ensures, c.len-2.ensures, c.requires.within)) c.requires.begun)

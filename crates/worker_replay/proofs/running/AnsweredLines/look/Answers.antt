use Rattle.worker_replay.proofs.Ran.{looked}
use Rattle.worker_replay.proofs.running.AnsweredLines.look.Goals as goal

pub returns-clause-looks : goal.returns-clause-looks
returns-clause-looks c = looked c.args.self.format c.args.forwarder c.in-Ok.seen c.args.self.first c.args.self.asks.items c.as_slice.result.now c.args.self.replies.items c.args.self.rolled _ _ c.in-Ok.ensures c.in_ok-put.ensures c.new-text.ensures.bytes c.as_slice.ensures.value

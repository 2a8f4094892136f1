use Rattle.std.specs.Vec.Iter.{into_iter_items}
use Rattle.worker_replay.proofs.Tokens.{Learning}
use Rattle.worker_replay.proofs.learning.learn_all.Given as goal

abbrev pub invariant-loop-answer : goal.invariant-loop-answer
invariant-loop-answer l = Learning l.fn.forwarder.name l.fn.answers.items (into_iter_items l.answer-iterator) l.forwarder l.replies.items

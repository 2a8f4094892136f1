use Rattle.std.proofs.Common.{arith, string_bytes}
use Rattle.std.proofs.lemmas.Result.{IfOk-weaker}
use Rattle.worker_replay.specs.Parts.{LooksOnce, HasPrinted}
use Rattle.worker_replay.proofs.Ran.{own, enough, as_many_lines, has_printed, roll_answered}
use Rattle.worker_replay.proofs.running.NumberedLines.run.Goals as goal

pub learn_all-requires : goal.learn_all-requires
learn_all-requires g c = own c.args.engine.now c.args.forwarder c.in_ok-events.field-0.events.items c.in_ok-answers.answers.items c.requires.named c.in_ok-answers.ensures.answered

pub look-requires-clause-replies : goal.look-requires-clause-replies
look-requires-clause-replies g c =
    enough c.args.engine.now c.args.self.lines.items c.in_ok-events.field-0.events.items c.in_ok-events.field-0.asks.items c.in_ok-answers.answers.items c.in_ok-forwarder.replies.items c.in_ok-events.ensures.events c.in_ok-events.ensures.asks
    c.in_ok-answers.ensures.answered c.in_ok-forwarder.ensures.replies

pub look-requires-clause-few : goal.look-requires-clause-few
look-requires-clause-few g c = omega (arith, as_many_lines c.args.self.lines.items c.in_ok-events.field-0.asks.items c.in_ok-events.ensures.asks, c.requires.few)

pub returns-clause-printed : goal.returns-clause-printed
returns-clause-printed g c =
    IfOk-weaker c.look.result (λ text. LooksOnce c.args.format c.in_ok-forwarder.forwarder c.args.self.first c.in_ok-events.field-0.asks.items c.in_ok-forwarder.replies.items c.roll-rolled.result (string_bytes text))
    (λ text. HasPrinted c.args.format c.args.engine.now c.args.self.lines.items c.args.self.first (string_bytes text))
    (λ text looks. has_printed c.args.format c.args.engine.now c.args.self.lines.items c.in_ok-events.field-0.events.items c.in_ok-events.field-0.asks.items c.in_ok-answers.answers.items c.args.forwarder c.in_ok-forwarder.forwarder c.in_ok-forwarder.replies.items
    c.roll-rolled.result c.args.self.first (string_bytes text) c.in_ok-events.ensures.events c.in_ok-events.ensures.asks c.in_ok-answers.ensures.answered c.requires.named c.in_ok-forwarder.ensures.name c.in_ok-forwarder.ensures.learned
    c.in_ok-forwarder.ensures.replies
    (roll_answered c.args.engine.now c.args.self.lines.items c.in_ok-events.field-0.rolls c.roll-rolled.result c.in_ok-events.ensures.rolls c.roll-rolled.ensures.asked c.roll-rolled.ensures.answer) looks)
    c.look.ensures.looks

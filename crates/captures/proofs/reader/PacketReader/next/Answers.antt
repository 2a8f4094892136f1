use Rattle.std.proofs.Common.{[], ◌∷◌, inr, subst}
use Rattle.captures.specs.Positions.{shown}
use Rattle.captures.specs.ReaderSteps.{StepsTo}
use Rattle.captures.proofs.ReaderWalking.{joined, next_failed}
use Rattle.captures.proofs.reader.PacketReader.next.Goals as goal

pub returns-in_err-step : goal.returns-in_err-step
returns-in_err-step g c =
    next_failed _ _ _ _ _ c.from_residual.result c.in_err-step.field-0.0 c.from_residual.ensures.1
    (joined c.loop.counter _ _ _ _ _ _ [] c.loop.invariant c.in_err-step.ensures.0) c.in_err-step.ensures.1

pub returns-in-Packet : goal.returns-in-Packet
returns-in-Packet g c = joined c.loop.counter _ _ _ _ _ _ (shown c.in-Packet.head c.step.new.bytes.items ∷ []) c.loop.invariant (subst (StepsTo c.loop.self (g.R.Read.remaining c.loop.input) c.step.new.self (g.R.Read.remaining c.step.new.input) c.step.new.bytes.items) c.in-Packet.is c.in_ok-step.ensures)

pub returns-in-End : goal.returns-in-End
returns-in-End g c = (joined c.loop.counter _ _ _ _ _ _ [] c.loop.invariant (subst (StepsTo c.loop.self (g.R.Read.remaining c.loop.input) c.step.new.self (g.R.Read.remaining c.step.new.input) c.step.new.bytes.items) c.in-End.is c.in_ok-step.ensures).0, (subst (StepsTo c.loop.self (g.R.Read.remaining c.loop.input) c.step.new.self (g.R.Read.remaining c.step.new.input) c.step.new.bytes.items) c.in-End.is c.in_ok-step.ensures).1)

pub loop-preserved : goal.loop-preserved
loop-preserved g c = inr (joined c.loop.counter _ _ _ _ _ _ [] c.loop.invariant (subst (StepsTo c.loop.self (g.R.Read.remaining c.loop.input) c.step.new.self (g.R.Read.remaining c.step.new.input) c.step.new.bytes.items) c.in-On.is c.in_ok-step.ensures))

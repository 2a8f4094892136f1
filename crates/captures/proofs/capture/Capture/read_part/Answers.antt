use Rattle.std.proofs.Common.{arith}
use Rattle.captures.proofs.SteadyBlocks.{front_steady}
use Rattle.captures.proofs.AllWritten.{reads_written}
use Rattle.captures.proofs.ToldBlocks.{was_written}
use Rattle.captures.proofs.capture.Capture.read_part.Goals as goal

pub returns-in_err-needed-clause-steady : goal.returns-in_err-needed-clause-steady
returns-in_err-needed-clause-steady c = front_steady c.args.self.now c.args.bytes.now

pub returns-in_err-needed-clause-written : goal.returns-in_err-needed-clause-written
returns-in_err-needed-clause-written c = reads_written c.args.self.now c.args.bytes.now

pub returns-in_err-push-in-Declared-clause-steady : goal.returns-in_err-push-in-Declared-clause-steady
returns-in_err-push-in-Declared-clause-steady c = front_steady c.args.self.now c.args.bytes.now

pub returns-in_err-push-in-Declared-clause-written : goal.returns-in_err-push-in-Declared-clause-written
returns-in_err-push-in-Declared-clause-written c = reads_written c.args.self.now c.args.bytes.now

pub returns-in-Short-clause-steady : goal.returns-in-Short-clause-steady
returns-in-Short-clause-steady c = front_steady c.args.self.now c.args.bytes.now

pub returns-in-Short-clause-written : goal.returns-in-Short-clause-written
returns-in-Short-clause-written c = reads_written c.args.self.now c.args.bytes.now

pub returns-in-Header-clause-steady : goal.returns-in-Header-clause-steady
returns-in-Header-clause-steady c = front_steady c.args.self.now c.args.bytes.now

pub returns-in-Header-clause-written : goal.returns-in-Header-clause-written
returns-in-Header-clause-written c = reads_written c.args.self.now c.args.bytes.now

pub returns-in_ok-push-in-Declared-clause-steady : goal.returns-in_ok-push-in-Declared-clause-steady
returns-in_ok-push-in-Declared-clause-steady c = front_steady c.args.self.now c.args.bytes.now

pub returns-in_ok-push-in-Declared-clause-written : goal.returns-in_ok-push-in-Declared-clause-written
returns-in_ok-push-in-Declared-clause-written c = reads_written c.args.self.now c.args.bytes.now

pub returns-in-Other-clause-steady : goal.returns-in-Other-clause-steady
returns-in-Other-clause-steady c = front_steady c.args.self.now c.args.bytes.now

pub returns-in-Other-clause-written : goal.returns-in-Other-clause-written
returns-in-Other-clause-written c = reads_written c.args.self.now c.args.bytes.now

pub returns-in-Captured-clause-steady : goal.returns-in-Captured-clause-steady
returns-in-Captured-clause-steady c = front_steady c.args.self.now c.args.bytes.now

pub returns-in-Captured-clause-written : goal.returns-in-Captured-clause-written
returns-in-Captured-clause-written c = reads_written c.args.self.now c.args.bytes.now

pub returns-in_err-needed-clause-only : goal.returns-in_err-needed-clause-only
returns-in_err-needed-clause-only c = was_written c.args.self.now c.args.bytes.now (λ i. omega (arith, c.type_inv.bytes i))

pub returns-in_err-push-in-Declared-clause-only : goal.returns-in_err-push-in-Declared-clause-only
returns-in_err-push-in-Declared-clause-only c = was_written c.args.self.now c.args.bytes.now (λ i. omega (arith, c.type_inv.bytes i))

pub returns-in-Short-clause-only : goal.returns-in-Short-clause-only
returns-in-Short-clause-only c = was_written c.args.self.now c.args.bytes.now (λ i. omega (arith, c.type_inv.bytes i))

pub returns-in-Header-clause-only : goal.returns-in-Header-clause-only
returns-in-Header-clause-only c = was_written c.args.self.now c.args.bytes.now (λ i. omega (arith, c.type_inv.bytes i))

pub returns-in_ok-push-in-Declared-clause-only : goal.returns-in_ok-push-in-Declared-clause-only
returns-in_ok-push-in-Declared-clause-only c = was_written c.args.self.now c.args.bytes.now (λ i. omega (arith, c.type_inv.bytes i))

pub returns-in-Other-clause-only : goal.returns-in-Other-clause-only
returns-in-Other-clause-only c = was_written c.args.self.now c.args.bytes.now (λ i. omega (arith, c.type_inv.bytes i))

pub returns-in-Captured-clause-only : goal.returns-in-Captured-clause-only
returns-in-Captured-clause-only c = was_written c.args.self.now c.args.bytes.now (λ i. omega (arith, c.type_inv.bytes i))

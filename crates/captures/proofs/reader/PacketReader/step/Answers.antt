use Rattle.std.proofs.Common.{◌≡◌, ◌∷◌, ◌∙◌, [], None, Ok, Err, ap, subst, sym, arith, rules}
use Rattle.input_reading.specs.declared.fault.ReadFault.TheVariants.{Memory}
use Rattle.captures.specs.ReaderSteps.{Steps}
use Rattle.captures.specs.Window.{pending}
use Rattle.captures.proofs.Going.{both_ways, from, shown_as}
use Rattle.captures.proofs.Stepping.{failed, from_pair, step_skip, step_packet, packet_lost, step_fault, step_memory, step_short, at}
use Rattle.captures.proofs.reader.PacketReader.step.Goals as goal

pub returns-in-Ok-Skip : goal.returns-in-Ok-Skip
returns-in-Ok-Skip g c =
    let near : c.self.inside.ahead ≡ 0 = omega (arith, c.if-self-gt0.false) in
    from c.self.view_is (step_skip _ _ _ _ _ _ _ _ near c.self.invariant c.as_slice.ensures c.read_part.ensures.answer c.read_part.ensures.reach c.read_part.ensures.steady c.in-Ok-Skip.length (c.in-Ok-Skip.is ∙ ap Ok c.in-Ok-Skip.field-0-is))

pub returns-in_err-extend_from_slice-in-Ok-Packet : goal.returns-in_err-extend_from_slice-in-Ok-Packet
returns-in_err-extend_from_slice-in-Ok-Packet g c =
    let near : c.self.inside.ahead ≡ 0 = omega (arith, c.if-self-gt0.false) in
    failed _ _ _ _ _ c.from_residual.result Memory c.from_residual.ensures.1
    (from c.self.view_is (packet_lost _ _ _ _ _ _ _ _ near c.self.invariant c.as_slice.ensures c.read_part.ensures.answer c.read_part.ensures.reach c.read_part.ensures.steady c.in-Ok-Packet.packet c.in-Ok-Packet.length (c.in-Ok-Packet.is ∙ ap Ok c.in-Ok-Packet.field-0-is))) tt

pub returns-in_ok-extend_from_slice-in-Ok-Packet : goal.returns-in_ok-extend_from_slice-in-Ok-Packet
returns-in_ok-extend_from_slice-in-Ok-Packet g c =
    let near : c.self.inside.ahead ≡ 0 = omega (arith, c.if-self-gt0.false) in
    let items : c.extend_from_slice.new.self.items ≡ c.in-Ok-Packet.packet.bytes.now = search rules in
    let taken = step_packet _ _ _ _ _ _ _ _ near c.self.invariant c.as_slice.ensures c.read_part.ensures.answer c.read_part.ensures.reach c.read_part.ensures.steady c.in-Ok-Packet.packet c.in-Ok-Packet.length (c.in-Ok-Packet.is ∙ ap Ok c.in-Ok-Packet.field-0-is) in
    shown_as (sym items) (from c.self.view_is (both_ways _ _ _ _ _ _ (_ ∷ []) [] taken (c.pass_pending.ensures.goes (g.R.Read.remaining c.args.input.now))))

pub returns-in-Err-Fault : goal.returns-in-Err-Fault
returns-in-Err-Fault g c =
    let near : c.self.inside.ahead ≡ 0 = omega (arith, c.if-self-gt0.false) in
    from_pair c.self.view_is (step_fault _ _ _ _ _ _ _ _ near c.self.invariant c.as_slice.ensures c.read_part.ensures.answer c.read_part.ensures.reach c.read_part.ensures.steady c.in-Err-Fault.kind (c.in-Err-Fault.is ∙ ap Err c.in-Err-Fault.field-0-is))

pub returns-in-Err-Memory : goal.returns-in-Err-Memory
returns-in-Err-Memory g c =
    let near : c.self.inside.ahead ≡ 0 = omega (arith, c.if-self-gt0.false) in
    (from c.self.view_is (step_memory _ _ _ _ _ _ _ _ near c.self.invariant c.as_slice.ensures c.read_part.ensures.answer c.read_part.ensures.reach c.read_part.ensures.steady (c.in-Err-Memory.is ∙ ap Err c.in-Err-Memory.field-0-is)), tt)

pub returns-then-self-gt0 : goal.returns-then-self-gt0
returns-then-self-gt0 g c = c.pass_ahead.ensures c.args.bytes.now.items

pub returns-in-Ok-More : goal.returns-in-Ok-More
returns-in-Ok-More g c =
    let r = c.self.inside in
    let near : r.ahead ≡ 0 = omega (arith, c.if-self-gt0.false) in
    let known = step_short _ _ _ _ _ _ None _ near c.self.invariant c.as_slice.ensures c.read_part.ensures.answer c.read_part.ensures.reach c.read_part.ensures.steady c.in-Ok-More.field-0-0 (c.in-Ok-More.is ∙ ap Ok c.in-Ok-More.field-0-is) in
    let same : at c.read_part.new.self r.ahead (pending r.window) r.place ≡ c.args.self.now = ap (λ u. at u r.ahead (pending r.window) r.place) known.0 ∙ c.self.view_is in
    subst (λ p. Steps p (g.R.Read.remaining c.args.input.now) c.read_further.new.self (g.R.Read.remaining c.read_further.new.input) c.args.bytes.now.items c.read_further.result) same (c.read_further.ensures c.args.bytes.now.items)

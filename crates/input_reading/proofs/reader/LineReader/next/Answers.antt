use Rattle.std.proofs.Common.{◌<◌, ◌∙◌, Ok, refl, arith}
use Rattle.input_reading.specs.declared.reader.Next.TheVariants.{Line}
use Rattle.input_reading.proofs.UnderWay.{last, lost_in, more, more_lost, whole, whole_lost}
use Rattle.input_reading.proofs.Unread.{had_none, impossible, no_fault, no_fault_of_input, not_read}
use Rattle.input_reading.proofs.reader.LineReader.next.Goals as goal

pub returns-in_err-place-clause-taken : goal.returns-in_err-place-clause-taken
returns-in_err-place-clause-taken g c =
    lost_in c.args.self.now (g.R.Read.remaining c.args.input.now) c.loop.self (g.R.Read.remaining c.loop.input) c.gather_line.new.line.items
    c.from_residual.result c.from_residual.ensures.0 (c.loop.invariant.under_way.raw, c.loop.invariant.under_way.taken)

pub returns-in_err-finish-clause-taken : goal.returns-in_err-finish-clause-taken
returns-in_err-finish-clause-taken g c =
    whole_lost c.args.self.now (g.R.Read.remaining c.args.input.now) c.loop.self (g.R.Read.remaining c.loop.input) c.loop.line.items c.loop.tail c.loop.invariant.under_way
    c.in_ok-place.field-0 c.pending.result.now c.gather_line.new.line.items c.gather_line.new.tail c.pending.ensures c.in_ok-place.ensures
    c.in-Some.place c.pass.new.self c.in-Some.is c.pass.ensures
    c.finish.new.line.items c.from_residual-in_err-finish.result c.from_residual-in_err-finish.ensures.0

pub returns-in-Some-clause-taken : goal.returns-in-Some-clause-taken
returns-in-Some-clause-taken g c =
    whole c.args.self.now (g.R.Read.remaining c.args.input.now) c.loop.self (g.R.Read.remaining c.loop.input) c.loop.line.items c.loop.tail c.loop.invariant.under_way
    c.in_ok-place.field-0 c.pending.result.now c.gather_line.new.line.items c.gather_line.new.tail c.pending.ensures c.in_ok-place.ensures
    c.in-Some.place c.pass.new.self c.in-Some.is c.pass.ensures
    c.finish.new.line.items c.in_ok-finish.ensures

pub returns-in_err-refill-clause-taken : goal.returns-in_err-refill-clause-taken
returns-in_err-refill-clause-taken g c =
    more_lost c.args.self.now (g.R.Read.remaining c.args.input.now) c.loop.self (g.R.Read.remaining c.loop.input) c.loop.line.items c.loop.tail c.loop.invariant.under_way
    c.in_ok-place.field-0 c.pending.result.now c.gather_line.new.line.items c.gather_line.new.tail c.pending.ensures c.in_ok-place.ensures
    c.refill.new.self (g.R.Read.remaining c.refill.new.input) c.in_default.is c.in_err-refill.ensures.bytes
    c.gather_line.new.line.items c.from_residual-in_err-refill.result c.from_residual-in_err-refill.ensures.0

pub returns-then-branch-eq0-clause-taken : goal.returns-then-branch-eq0-clause-taken
returns-then-branch-eq0-clause-taken g c =
    last c.args.self.now (g.R.Read.remaining c.args.input.now) c.loop.self (g.R.Read.remaining c.loop.input) c.loop.line.items c.loop.tail c.loop.invariant.under_way
    c.in_ok-place.field-0 c.pending.result.now c.gather_line.new.line.items c.gather_line.new.tail c.pending.ensures c.in_ok-place.ensures
    c.refill.new.self (g.R.Read.remaining c.refill.new.input) c.in_default.is c.in_ok-refill.ensures.bytes
    c.end_line.new.line.items c.end_line.result (c.in_ok-refill.ensures.count ∙ c.if-branch-eq0.true) (c.in_ok-refill.ensures.end c.if-branch-eq0.true) c.end_line.ensures

pub loop-preserved : goal.loop-preserved
loop-preserved g c = record {
  under_way =
      more c.args.self.now (g.R.Read.remaining c.args.input.now) c.loop.self (g.R.Read.remaining c.loop.input) c.loop.line.items c.loop.tail c.loop.invariant.under_way
      c.in_ok-place.field-0 c.pending.result.now c.gather_line.new.line.items c.gather_line.new.tail c.pending.ensures c.in_ok-place.ensures
      c.refill.new.self (g.R.Read.remaining c.refill.new.input) c.in_default.is c.in_ok-refill.ensures.bytes;
  looked = record {
    first = λ none. absurd (omega arith);
    later = λ _.
        had_none c.args.self.now c.loop.self c.args.input.now c.loop.input c.loop.counter c.loop.invariant.looked
        c.in_ok-place.field-0 c.pending.result.now c.loop.line.items c.gather_line.new.line.items c.loop.tail c.gather_line.new.tail c.in_default.is c.pending.ensures c.in_ok-place.ensures;
  };
}

pub returns-in_err-place-clause-unread : goal.returns-in_err-place-clause-unread
returns-in_err-place-clause-unread g c = λ some. (
  not_read c.args.self.now c.loop.self c.args.input.now c.loop.input c.loop.counter c.loop.invariant.looked some,
  no_fault_of_input c.from_residual.result c.from_residual.ensures.1,
)

pub returns-in_err-finish-clause-unread : goal.returns-in_err-finish-clause-unread
returns-in_err-finish-clause-unread g c = λ some. (
  not_read c.args.self.now c.loop.self c.args.input.now c.loop.input c.loop.counter c.loop.invariant.looked some,
  no_fault_of_input c.from_residual-in_err-finish.result c.from_residual-in_err-finish.ensures.1,
)

pub returns-in-Some-clause-unread : goal.returns-in-Some-clause-unread
returns-in-Some-clause-unread g c = λ some.
    (not_read c.args.self.now c.loop.self c.args.input.now c.loop.input c.loop.counter c.loop.invariant.looked some, no_fault (Ok Line) Line refl)

pub returns-in_err-refill-clause-unread : goal.returns-in_err-refill-clause-unread
returns-in_err-refill-clause-unread g c = λ some.
    let none = had_none c.args.self.now c.loop.self c.args.input.now c.loop.input c.loop.counter c.loop.invariant.looked
    c.in_ok-place.field-0 c.pending.result.now c.loop.line.items c.gather_line.new.line.items c.loop.tail c.gather_line.new.tail c.in_default.is c.pending.ensures c.in_ok-place.ensures in
    impossible c.args.self.now none some

pub returns-then-branch-eq0-clause-unread : goal.returns-then-branch-eq0-clause-unread
returns-then-branch-eq0-clause-unread g c = λ some.
    let none = had_none c.args.self.now c.loop.self c.args.input.now c.loop.input c.loop.counter c.loop.invariant.looked
    c.in_ok-place.field-0 c.pending.result.now c.loop.line.items c.gather_line.new.line.items c.loop.tail c.gather_line.new.tail c.in_default.is c.pending.ensures c.in_ok-place.ensures in
    impossible c.args.self.now none some

pub returns-clause-unread : goal.returns-clause-unread
returns-clause-unread g c = λ some.
    let turned : 0 < c.loop.counter = omega (arith, c.loop-test.false) in
    impossible c.args.self.now (c.loop.invariant.looked.later turned) some

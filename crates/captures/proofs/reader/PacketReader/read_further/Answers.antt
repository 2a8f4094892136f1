use Rattle.std.proofs.Common.{inr, sym, subst, arith}
use Rattle.captures.specs.Positions.{Stops}
use Rattle.captures.proofs.Stepping.{ends_cut, ends_whole, failed, stops, unread_short}
use Rattle.captures.proofs.reader.PacketReader.read_further.Goals as goal

pub returns-in_err-read_more : goal.returns-in_err-read_more
returns-in_err-read_more g c = λ bytes.
    failed _ _ _ _ bytes c.from_residual.result c.in_err-read_more.field-0.0 c.from_residual.ensures.1 c.in_err-read_more.ensures.0
    (stops c.in_err-read_more.field-0.0 c.read_more.new.self (g.R.Read.remaining c.read_more.new.input) (unread_short c.args.self.now c.read_more.new.self c.requires.short c.in_err-read_more.ensures.1))

pub returns-then-branch-gt0 : goal.returns-then-branch-gt0
returns-then-branch-gt0 g c = λ bytes. c.in_ok-read_more.ensures.0

pub returns-then-is_whole : goal.returns-then-is_whole
returns-then-is_whole g c = λ bytes.
    let ended = c.in_ok-read_more.ensures.1 (omega arith) in
    (c.in_ok-read_more.ensures.0, ends_whole c.args.self.now c.read_more.new.self (g.R.Read.remaining c.read_more.new.input) c.requires.short ended.0 ended.1 (sym c.if-is_whole.ensures))

pub returns : goal.returns
returns g c = λ bytes.
    let after = g.R.Read.remaining c.read_more.new.input in
    let ended = c.in_ok-read_more.ensures.1 (omega arith) in (
      c.in_ok-read_more.ensures.0,
      subst (λ e. Stops e c.read_more.new.self after) (sym c.cut_off.ensures)
          (inr (ends_cut c.args.self.now c.read_more.new.self after c.requires.short ended.0 ended.1 (sym c.if-is_whole.ensures))),
    )

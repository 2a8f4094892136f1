use Rattle.std.proofs.Common.{◌<◌, [], inr, ap, subst, sym, arith}
use Rattle.captures.proofs.Going.{both_ways}
use Rattle.captures.specs.Positions.{Stops}
use Rattle.captures.proofs.Stepping.{ends_ahead, failed, stops, unread_ahead}
use Rattle.captures.proofs.reader.PacketReader.pass_ahead.Goals as goal

pub returns-in_err-read_more : goal.returns-in_err-read_more
returns-in_err-read_more g c = λ bytes.
    let same = ap (λ p. p.ahead) c.self.view_is in
    let some : 0 < c.pass_pending.new.self.ahead = omega (arith, same, c.if-self-eq0.false) in
    failed _ _ _ _ bytes c.from_residual.result c.in_err-read_more.field-0.0 c.from_residual.ensures.1
    (both_ways _ _ _ _ _ _ [] [] (c.pass_pending.ensures.goes (g.R.Read.remaining c.args.input.now)) c.in_err-read_more.ensures.0)
    (stops c.in_err-read_more.field-0.0 c.read_more.new.self (g.R.Read.remaining c.read_more.new.input) (unread_ahead c.pass_pending.new.self c.read_more.new.self c.in_err-read_more.ensures.1 some (c.pass_pending.ensures.all some)))

pub returns-then-branch-eq0 : goal.returns-then-branch-eq0
returns-then-branch-eq0 g c = λ bytes.
    let after = g.R.Read.remaining c.read_more.new.input in
    let ended = c.in_ok-read_more.ensures.1 c.if-branch-eq0.true in
    let same = ap (λ p. p.ahead) c.self.view_is in
    let some : 0 < c.pass_pending.new.self.ahead = omega (arith, same, c.if-self-eq0.false) in (
      both_ways _ _ _ _ _ _ [] [] (c.pass_pending.ensures.goes (g.R.Read.remaining c.args.input.now)) c.in_ok-read_more.ensures.0,
      subst (λ e. Stops e c.read_more.new.self after) (sym c.cut_off.ensures)
          (inr (ends_ahead c.pass_pending.new.self c.read_more.new.self after ended.0 some (c.pass_pending.ensures.all some) ended.1)),
    )

pub returns : goal.returns
returns g c = λ bytes.
    both_ways _ _ _ _ _ _ [] [] (c.pass_pending.ensures.goes (g.R.Read.remaining c.args.input.now)) c.in_ok-read_more.ensures.0

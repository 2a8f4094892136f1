use Rattle.std.proofs.Common.{List, ℕ, ap, subst, ◌≡◌, Some, take, drop, length, ◌-◌}
use Rattle.packets.specs.Frames.{IsPast}
use Rattle.packets.proofs.Chained.{is_past, past_only}
use Rattle.packets.proofs.headers.past.Goals as goal

pub returns : goal.returns
returns c = λ rest.
    let given = is_past c.args.count c.args.bytes.now c.if-count-bytes.false in (
      λ e. let same : take (length c.args.bytes.now - c.args.count) (drop c.args.count c.args.bytes.now) ≡ rest = cc in
          subst (IsPast c.args.count c.args.bytes.now) same given,
      λ past. ap (λ (r : List ℕ). Some r) (past_only c.args.count c.args.bytes.now rest past),
    )

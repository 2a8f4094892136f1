use Rattle.std.proofs.Common.{rules}
use Rattle.packets.specs.Frames.{IsPast, IsBehindType}
use Rattle.packets.proofs.Chained.{then_found, then_none}
use Rattle.packets.proofs.headers.behind_cooked_v1.Goals as goal

pub returns : goal.returns
returns c =
    then_found (IsPast 14) IsBehindType c.args.frame.now c.past.result c.behind_type.result c.in_ok-past.field-0 c.past.ensures (search rules) c.behind_type.ensures

pub returns-in_err-past : goal.returns-in_err-past
returns-in_err-past c =
    then_none (IsPast 14) IsBehindType c.args.frame.now c.past.result c.from_residual.result c.past.ensures (search rules) (search rules)

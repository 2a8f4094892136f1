use Rattle.std.proofs.Common.{rules}
use Rattle.packets.specs.Frames.{IsPast, IsBehindType}
use Rattle.packets.proofs.Chained.{then_found, then_none}
use Rattle.packets.proofs.headers.behind_cooked_v2.Goals as goal

pub returns : goal.returns
returns c =
    then_found IsBehindType (IsPast 18) c.args.frame.now c.behind_type.result c.past.result c.in_ok-behind_type.field-0 c.behind_type.ensures (search rules) c.past.ensures

pub returns-in_err-behind_type : goal.returns-in_err-behind_type
returns-in_err-behind_type c =
    then_none IsBehindType (IsPast 18) c.args.frame.now c.behind_type.result c.from_residual.result c.behind_type.ensures (search rules) (search rules)

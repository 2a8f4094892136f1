use Rattle.std.proofs.Common.{rules}
use Rattle.packets.specs.Frames.{IsPast, IsBehindTags}
use Rattle.packets.proofs.Chained.{then_found, then_none}
use Rattle.packets.proofs.headers.behind_ethernet.Goals as goal

pub returns : goal.returns
returns c =
    then_found (IsPast 12) IsBehindTags c.args.frame.now c.past.result c.behind_tags.result c.in_ok-past.field-0 c.past.ensures (search rules) c.behind_tags.ensures

pub returns-in_err-past : goal.returns-in_err-past
returns-in_err-past c =
    then_none (IsPast 12) IsBehindTags c.args.frame.now c.past.result c.from_residual.result c.past.ensures (search rules) (search rules)

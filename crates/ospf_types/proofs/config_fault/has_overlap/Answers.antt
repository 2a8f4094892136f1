use Rattle.std.proofs.Common.{sym, ◌∙◌}
use Rattle.ospf_types.proofs.Neighbours.{neighbours_suffice}
use Rattle.ospf_types.proofs.config_fault.has_overlap.Goals as goal

pub returns-then-is_ascending : goal.returns-then-is_ascending
returns-then-is_ascending c =
    let ascending = sym c.is_ascending.ensures.value ∙ c.if-is_ascending.true in
    c.has_next_overlap.ensures ∙ neighbours_suffice c.args.ranges.now ascending (c.is_ascending.ensures.masked c.if-is_ascending.true)

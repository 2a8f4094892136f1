-- The range has this one network.
use Rattle.std.proofs.Common.{sym, ap, ◌∙◌}
use Rattle.std.specs.FinMap.{get}
use Rattle.ospf_types.specs.declared.prefix.Prefix.{Prefix}
use Rattle.active_ranges.specs.Active.{ActiveValue}
use Rattle.active_ranges.specs.Grouped.{member_of}
use Rattle.active_ranges.proofs.Grouped.{first_here, first_elsewhere}
use Rattle.active_ranges.proofs.active.ActiveRanges.put_first.Goals as goal

pub returns-clause-here : goal.returns-clause-here
returns-clause-here c =
    first_here c.self.inside.ranges.entries c.insert.new.self.entries c.self.inside.spent c.self.inside.spent c.args.range c.args.network c.in-Some.cost c.new-networks.result c.put.new.self c.new-networks.ensures c.in_ok-put.ensures c.in_ok-insert.ensures.updates.0
    ∙ sym c.in-Some.is

pub returns-clause-others : goal.returns-clause-others
returns-clause-others c = λ m other.
    let old = c.self.inside.ranges.entries in
    let none = λ (p : Prefix). ap (λ (v : ActiveValue). get v.members (member_of c.args.range p)) c.self.view_is ∙ c.requires.none p in
    first_elsewhere old c.insert.new.self.entries c.self.inside.spent c.self.inside.spent c.args.range c.args.network c.in-Some.cost c.new-networks.result c.put.new.self c.new-networks.ensures c.in_ok-put.ensures c.in_ok-insert.ensures.updates.0 none m other
    ∙ ap (λ (v : ActiveValue). get v.members m) c.self.view_is

-- The prefix is added, or it covers none of the networks.
use Rattle.summaries.specs.Touched.{IsOverNetworks}
use Rattle.route_choice.proofs.Adding.{gains_none, gains_one}
use Rattle.ospf_types.specs.declared.key.Dest.TheVariants.{Net}
use Rattle.summaries.proofs.affected.push_range.Goals as goal

pub returns-then-not-covers_one : goal.returns-then-not-covers_one
returns-then-not-covers_one c =
    gains_none (IsOverNetworks c.args.dests.now c.args.prefix) c.args.found.now.items (λ d over. c.covers_one.ensures c.if-not-covers_one.true over.1.0 over.1.1 over.1.2)

pub returns : goal.returns
returns c = gains_one (IsOverNetworks c.args.dests.now c.args.prefix) c.args.found.now.items c.push.new.self.items (Net c.args.prefix) c.in_ok-push.ensures.items (λ d over. over.0)

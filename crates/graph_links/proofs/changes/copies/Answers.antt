use Rattle.std.proofs.Common.{◌∙◌}
use Rattle.std.proofs.lemmas.List.{take_all}
use Rattle.graph_links.proofs.Taking.{copied_more}
use Rattle.graph_links.proofs.changes.copies.Goals as goal

pub loop-link-init : goal.loop-link-init
loop-link-init c = c.in_ok-made.ensures.items

pub loop-link-preserved : goal.loop-link-preserved
loop-link-preserved c =
    copied_more c.args.links.now c.loop-link.link-index c.link-item.result c.loop-link.made.items c.push.new.self.items c.in_ok-copy.field-0 c.loop-link-test.true c.loop-link.invariant (c.in_ok-copy.ensures ∙ c.link-item.is) c.in_ok-push.ensures.items

pub returns : goal.returns
returns c = c.loop-link.invariant ∙ take_all c.loop-link.link-index c.args.links.now c.loop-link-test.false

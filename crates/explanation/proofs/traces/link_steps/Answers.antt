use Rattle.ospf_types.proofs.Elements.{contains_at}
use Rattle.explanation.proofs.PathLinks.{all_steps, one_more}
use Rattle.explanation.proofs.traces.link_steps.Goals as goal

pub push_link-requires-clause-link : goal.push_link-requires-clause-link
push_link-requires-clause-link c = c.requires.links c.link-item.result (contains_at c.args.links.now c.loop-link.link-index c.link-item.result c.loop-link-test.true c.link-item.is)

pub loop-link-preserved : goal.loop-link-preserved
loop-link-preserved c = one_more c.args.area.now c.args.links.now c.loop-link.link-index c.link-item.result c.loop-link.steps.items c.push_link.new.steps.items c.loop-link-test.true c.link-item.is c.loop-link.invariant c.in_ok-push_link.ensures

pub returns : goal.returns
returns c = all_steps c.args.area.now c.args.links.now c.loop-link.link-index c.loop-link.steps.items c.loop-link-test.false c.loop-link.invariant

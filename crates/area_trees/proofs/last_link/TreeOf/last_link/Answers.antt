use Rattle.spf.proofs.OfSome.{contains_at}
use Rattle.area_trees.specs.LeastPaths.{IsNotBefore}
use Rattle.area_trees.proofs.LeastPaths.{none_more, some_last}
use Rattle.area_trees.proofs.last_link.TreeOf.last_link.Goals as goal

pub returns-in-Some : goal.returns-in-Some
returns-in-Some c =
    let here = contains_at c.links_to-link-items.result.now c.loop-link.link-index c.link-item.result c.loop-link-test.true c.link-item.is in
    let into = (c.links_to-link-items.ensures.exact c.link-item.result).0 here in
    record { ends = into.0; taken = into.1; before = c.in-Some.ensures.some }

pub loop-link-preserved : goal.loop-link-preserved
loop-link-preserved c =
    none_more (λ link. IsNotBefore c.args.self.graph.now c.args.self.tree.now link c.args.hop) c.links_to-link-items.result.now c.loop-link.link-index c.link-item.result
    c.loop-link-test.true c.link-item.is c.loop-link.invariant c.in_default.ensures.none

pub unreachable-requires : goal.unreachable-requires
unreachable-requires c =
    some_last c.requires.tree c.args.to c.args.hop c.links_to-link-items.result.now c.loop-link.link-index c.requires.hop c.links_to-link-items.ensures.exact c.loop-link-test.false c.loop-link.invariant

use Rattle.std.proofs.Common.{eqb, map}
use Rattle.std.specs.List.{dedup}
use Rattle.graph_links.specs.declared.link_end.LinkEnd.{LinkEnd}
use Rattle.graph_links.specs.EndOrder.{listed_end}
use Rattle.graph_links.proofs.Details.{rest_on}
use Rattle.graph_links.proofs.vertex_pair.each_once.Goals as goal

pub loop-end-preserved : goal.loop-end-preserved
loop-end-preserved c =
    rest_on c.loop-end.details c.list_once.new.details c.loop-end.last c.args.ends.now c.loop-end.end-index (listed_end 0) (dedup eqb (map (λ (e : LinkEnd). e.detail) c.args.ends.now)) c.loop-end-test.true c.loop-end.invariant c.in_ok-list_once.ensures

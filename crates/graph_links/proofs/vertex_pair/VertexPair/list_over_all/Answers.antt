use Rattle.std.proofs.Common.{List, subst}
use Rattle.std.proofs.lemmas.Result.{on_ok_weaker}
use Rattle.graph_links.specs.declared.parallel_links.ParallelLink.{ParallelLink}
use Rattle.graph_links.specs.Pairs.{AddsBy}
use Rattle.graph_links.proofs.vertex_pair.VertexPair.list_over_all.Goals as goal

pub returns-clause-listed : goal.returns-clause-listed
returns-clause-listed c =
    let ways : List ParallelLink = c.in_ok-ways.ways.items in
    on_ok_weaker c.list_by_ways.result
    (λ listed. record {
      ways = ways;
      exact = c.in_ok-ways.ensures.exact;
      each_once = c.in_ok-ways.ensures.each_once;
      added = subst (λ (ws : List ParallelLink). AddsBy c.args.self.now ws c.args.links.now.items c.list_by_ways.new.links.items) c.as_slice.ensures listed;
    }) c.list_by_ways.ensures.listed

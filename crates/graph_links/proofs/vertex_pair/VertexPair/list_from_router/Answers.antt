use Rattle.std.proofs.Common.{List, get_or, subst}
use Rattle.std.proofs.lemmas.Result.{on_ok_weaker}
use Rattle.graph_links.specs.declared.link_end.LinkEnd.{LinkEnd}
use Rattle.graph_links.specs.EndOrder.{listed_end}
use Rattle.graph_links.specs.Pairs.{AddsBy, plain_ways}
use Rattle.graph_links.proofs.Adding.{AreWaysBy}
use Rattle.graph_links.proofs.WaysOnce.{one_end, plain_are, plain_once}
use Rattle.graph_links.proofs.vertex_pair.VertexPair.list_from_router.Goals as goal

pub returns-in-len1-clause-listed : goal.returns-in-len1-clause-listed
returns-in-len1-clause-listed c =
    let pair = c.args.self.now in
    let only : LinkEnd = get_or pair.from.ends.now 0 (listed_end 0) in
    let root = pair.local.root in
    let ups = pair.local.interfaces.now in
    on_ok_weaker c.list_over_end.result
    (λ (listed : AddsBy pair (plain_ways only) c.args.links.now.items c.list_over_end.new.links.items). record {
      ways = plain_ways only;
      exact = subst (λ (es : List LinkEnd). AreWaysBy root ups c.args.router es (plain_ways only)) (one_end pair.from.ends.now (listed_end 0) c.in-len1.len_at_least c.in-len1.len_below) (plain_are root c.args.router ups only c.if-router-self.true);
      each_once = plain_once only;
      added = listed;
    }) c.list_over_end.ensures.listed

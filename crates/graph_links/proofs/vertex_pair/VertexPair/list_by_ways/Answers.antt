use Rattle.graph_links.proofs.WaysOnce.{links_on, links_all, cheap_on}
use Rattle.graph_links.proofs.vertex_pair.VertexPair.list_by_ways.Goals as goal

pub loop-way-preserved : goal.loop-way-preserved
loop-way-preserved c =
    let pair = c.args.self.now in
    record {
      listed = links_on pair.from.vertex pair.to.vertex c.args.ways.now c.loop-way.way-index _ c.args.links.now.items c.loop-way.links.items c.push.new.self.items c.link_by.result c.loop-way-test.true c.loop-way.invariant.listed c.in_ok-push.ensures.items c.link_by.ensures.value;
      cheap = λ cheap. cheap_on c.loop-way.links.items c.push.new.self.items c.link_by.result c.in_ok-push.ensures.items (c.loop-way.invariant.cheap cheap) c.link_by.ensures.cheap;
    }

pub returns-clause-listed : goal.returns-clause-listed
returns-clause-listed c =
    let pair = c.args.self.now in
    links_all pair.from.vertex pair.to.vertex c.args.ways.now c.loop-way.way-index c.args.links.now.items c.loop-way.links.items c.loop-way-test.false c.loop-way.invariant.listed

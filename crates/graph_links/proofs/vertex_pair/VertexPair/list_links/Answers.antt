use Rattle.std.proofs.Common.{List}
use Rattle.std.proofs.lemmas.Result.{on_ok_weaker}
use Rattle.graph_links.specs.declared.link.GraphLink.{GraphLink}
use Rattle.graph_links.specs.Pairs.{AddsOnto, AddsOver, IsOnto}
use Rattle.graph_links.proofs.Adding.{adds_same}
use Rattle.graph_links.proofs.Pairing.{IsFromTo, all_named, network_pair}
use Rattle.graph_links.proofs.WaysOnce.{adds_ways, apart_ways}
use Rattle.graph_links.proofs.vertex_pair.VertexPair.list_links.Goals as goal

pub returns-in-Router-clause-listed : goal.returns-in-Router-clause-listed
returns-in-Router-clause-listed c =
    let pair = c.args.self.now in
    let router = c.in-Router.router in
    let old : List GraphLink = c.args.links.now.items in
    let new : List GraphLink = c.list_from_router.new.links.items in
    on_ok_weaker c.list_from_router.result
    (λ (adds : AddsOver pair router old new) ends back own other.
    adds_ways pair.local.root router pair.local.interfaces.now pair.to.vertex ends back pair.from.ends.now adds.ways own.exact adds.exact
    pair.from.vertex old new c.in-Router.is adds.added (all_named pair.from.vertex back pair.to.ends.now other)) c.list_from_router.ensures.listed

pub returns-in-Router-clause-apart : goal.returns-in-Router-clause-apart
returns-in-Router-clause-apart c =
    let pair = c.args.self.now in
    let old : List GraphLink = c.args.links.now.items in
    let new : List GraphLink = c.list_from_router.new.links.items in
    on_ok_weaker c.list_from_router.result
    (λ (adds : AddsOver pair c.in-Router.router old new). apart_ways pair.from.vertex pair.to.vertex adds.ways old new adds.added adds.each_once) c.list_from_router.ensures.listed

pub returns-in-Network-clause-listed : goal.returns-in-Network-clause-listed
returns-in-Network-clause-listed c =
    let pair = c.args.self.now in
    let old : List GraphLink = c.args.links.now.items in
    let new : List GraphLink = c.list_from_network.new.links.items in
    on_ok_weaker c.list_from_network.result
    (λ (adds : AddsOnto pair old new) ends back own other.
    adds_same old new (IsOnto pair.from.vertex pair.to.vertex back) (IsFromTo pair.local.root pair.local.interfaces.now pair.from.vertex ends pair.to.vertex back)
    (network_pair pair.local.root pair.local.interfaces.now c.in-Network.field-0 pair.from.vertex pair.to.vertex ends back c.in-Network.is (all_named pair.to.vertex ends pair.from.ends.now own) (all_named pair.from.vertex back pair.to.ends.now other)) (adds back other)) c.list_from_network.ensures.listed

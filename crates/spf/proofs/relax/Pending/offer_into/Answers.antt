use Rattle.std.proofs.Common.{◌∙◌, ℕ, List, sym, ap, subst}
use Rattle.std.specs.FinMap.{get}
use Rattle.std.proofs.lemmas.List.{take_all}
use Rattle.ospf_types.specs.declared.entry.Vertex.{Vertex}
use Rattle.vertex_graph.specs.Graphs.{LinksOf, AreLinksTo}
use Rattle.spf.specs.Offers.{OverReached, Into, AreMade}
use Rattle.spf.proofs.Offering.{into_more}
use Rattle.spf.proofs.relax.Pending.offer_into.Goals as goal

pub offer_to-requires-clause-head : goal.offer_to-requires-clause-head
offer_to-requires-clause-head c = λ l within. ap (get c.args.distances.now) ((c.links_to_at-links.ensures.exact l).0 within).0 ∙ sym c.get-far.ensures.value

pub loop-vertex-preserved : goal.loop-vertex-preserved
loop-vertex-preserved c =
    let distance = get c.args.distances.now in
    let made : AreMade (OverReached c.args.graph.now.root distance c.links_to_at-links.result.now) distance (get c.loop-vertex.self.queue) (get c.offer_to.new.self.queue) c.loop-vertex.self.stale c.offer_to.new.self.stale =
    subst (λ (r : ℕ). AreMade (OverReached r distance c.links_to_at-links.result.now) distance (get c.loop-vertex.self.queue) (get c.offer_to.new.self.queue) c.loop-vertex.self.stale c.offer_to.new.self.stale)
    c.root-root.ensures.value c.in_ok-offer_to.ensures in
    into_more (LinksOf c.args.graph.now) c.args.graph.now.root c.args.vertices.now c.loop-vertex.vertex-index c.vertex-item.result c.links_to_at-links.result.now c.loop-vertex-test.true
    (subst (λ (v : Vertex). AreLinksTo c.args.graph.now v c.links_to_at-links.result.now) c.vertex-item.is c.links_to_at-links.ensures.exact) c.loop-vertex.invariant made

pub returns : goal.returns
returns c =
    let distance = get c.args.distances.now in
    subst (λ (vs : List Vertex). AreMade (Into (LinksOf c.args.graph.now) c.args.graph.now.root distance vs) distance (get c.args.self.now.queue) (get c.loop-vertex.self.queue) c.args.self.now.stale c.loop-vertex.self.stale)
    (take_all c.loop-vertex.vertex-index c.args.vertices.now c.loop-vertex-test.false) c.loop-vertex.invariant

use Rattle.std.proofs.Common.{sym, subst}
use Rattle.std.specs.Prelude.{IfSome}
use Rattle.ospf_types.specs.declared.entry.Vertex.{Vertex}
use Rattle.ospf_types.specs.declared.hop.NextHop.{NextHop}
use Rattle.ospf_types.specs.declared.hop.NextHop.TheVariants as hop
use Rattle.area_trees.specs.LeastPaths.{IsHandedBy, IsHopIfSome}
use Rattle.area_trees.proofs.LeastPaths.{handed_by_either}
use Rattle.area_trees.proofs.last_link.TreeOf.handed_on.Goals as goal

pub returns-in-Router-clause-some : goal.returns-in-Router-clause-some
returns-in-Router-clause-some c =
    let t = c.args.self.tree.now in
    let l = c.args.link.now in
    let i = c.in-Router.interface in
    let a = c.in-Router.address in
    subst (λ (h : NextHop). IfSome c.or.result (λ tail. IsHandedBy t l h tail)) (sym c.in-Router.is)
    (handed_by_either t l i a c.hop_at-in-Router.result c.hop_at-in-Router-2.result c.or.result (c.has_address.ensures.0 c.if-has_address.true)
    (subst (λ (v : Vertex). IsHopIfSome t v (hop.Router i a) c.hop_at-in-Router.result) c.vertex-tail.ensures c.hop_at-in-Router.ensures)
    (subst (λ (v : Vertex). IsHopIfSome t v (hop.Direct i) c.hop_at-in-Router-2.result) c.vertex-tail.ensures c.hop_at-in-Router-2.ensures) c.or.ensures)

use Rattle.std.proofs.Common.{ℕ, subst}
use Rattle.std.specs.FinMap.{get}
use Rattle.std.proofs.lemmas.Result.{on_ok_weaker}
use Rattle.vertex_graph.specs.Graphs.{LinksOf}
use Rattle.spf.specs.Offers.{OverLinks, AreMade}
use Rattle.spf.proofs.Offering.{out_made}
use Rattle.spf.proofs.relax.Pending.reach.Goals as goal

pub returns-clause-made : goal.returns-clause-made
returns-clause-made c =
    on_ok_weaker c.offer_from.result
    (λ (a : AreMade (OverLinks c.root.result c.links_from_at-links.result.now c.args.distance) (get c.set.new.self) (get c.args.self.now.queue) (get c.offer_from.new.self.queue) c.args.self.now.stale c.offer_from.new.self.stale).
    out_made (LinksOf c.args.graph.now) c.args.graph.now.root c.links_from_at-links.result.now c.args.vertex.now c.args.distance c.links_from_at-links.ensures.exact
    (subst (λ (r : ℕ). AreMade (OverLinks r c.links_from_at-links.result.now c.args.distance) (get c.set.new.self) (get c.args.self.now.queue) (get c.offer_from.new.self.queue) c.args.self.now.stale c.offer_from.new.self.stale) c.root.ensures.value a))
    c.offer_from.ensures

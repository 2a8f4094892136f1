use Rattle.std.specs.FinMap.{get}
use Rattle.std.proofs.Common.{refl, subst, sym, false, true}
use Rattle.ospf_types.specs.Distances.{FirstOnly}
use Rattle.ospf_types.specs.declared.entry.Vertex.{Vertex}
use Rattle.spf.specs.HandedOn.{IsUnion}
use Rattle.std.specs.Prelude.{◌≡◌}
use Rattle.std.proofs.lemmas.Result.{on_ok_weaker}
use Rattle.spf.proofs.HopUnions.{union_from_root, union_from_other}
use Rattle.spf.proofs.gathering.TreeInUpdate.add_given.Goals as goal

pub returns-then-is_at_root : goal.returns-then-is_at_root
returns-then-is_at_root c =
    on_ok_weaker c.add_first.result (λ first. union_from_root c.args.root (get c.args.self.distances.now) c.args.self.hops.now c.args.link.now (c.if-not-is_least.ensures.0 refl) c.args.set.now c.add_first.new.set (c.if-is_at_root.ensures.0 refl)
    (subst (λ (v : Vertex). IsUnion c.args.set.now c.add_first.new.set (FirstOnly v c.args.link.now.label)) c.vertex.ensures first)) c.add_first.ensures

pub returns-in-Some : goal.returns-in-Some
returns-in-Some c =
    on_ok_weaker c.add_handed_on.result (union_from_other c.args.root (get c.args.self.distances.now) c.args.self.hops.now c.args.link.now (c.if-not-is_least.ensures.0 refl) c.args.set.now c.add_handed_on.new.set c.in-Some.tail.now
    (λ is. let wrong : false ≡ true = c.if-is_at_root.ensures.1 is in cc) (sym c.in-Some.ensures)) c.add_handed_on.ensures

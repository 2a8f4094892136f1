use Rattle.std.proofs.Common.{ℕ, List, [], ap, subst, ◌∙◌}
use Rattle.std.specs.FinMap.{get}
use Rattle.ospf_types.specs.declared.hop.NextHop.{NextHop}
use Rattle.vertex_graph.specs.Graphs.{LinksOf}
use Rattle.spf.specs.HandedOn.{IsOfSome, IsGivenOver, IsUnion}
use Rattle.spf.specs.Parts.{hops_of}
use Rattle.spf.proofs.OfSome.{contains_at}
use Rattle.spf.proofs.HopUnions.{union_start, union_more, union_end, union_is_given}
use Rattle.spf.proofs.gathering.TreeInUpdate.gather.Goals as goal

pub loop-link-init : goal.loop-link-init
loop-link-init c = union_start (IsGivenOver c.root-root.result (get c.args.self.distances.now) (hops_of c.args.self.hops.now)) c.links_to_at-link-items.result.now c.new-set.result

pub add_given-requires : goal.add_given-requires
add_given-requires c =
    let here = contains_at c.links_to_at-link-items.result.now c.loop-link.link-index c.link-item.result c.loop-link-test.true c.link-item.is in
    ap (get c.args.self.distances.now) ((c.links_to_at-link-items.ensures.exact c.link-item.result).0 here).0 ∙ c.requires

pub loop-link-preserved : goal.loop-link-preserved
loop-link-preserved c =
    union_more (IsGivenOver c.root-root.result (get c.args.self.distances.now) (hops_of c.args.self.hops.now)) c.links_to_at-link-items.result.now c.loop-link.link-index c.link-item.result c.new-set.result c.loop-link.set c.add_given.new.set
    c.loop-link-test.true c.link-item.is c.loop-link.invariant c.in_ok-add_given.ensures

pub returns : goal.returns
returns c =
    let Given : ℕ → List NextHop → List NextHop → Type 0 = λ root old new. IsUnion old new (IsOfSome c.links_to_at-link-items.result.now (IsGivenOver root (get c.args.self.distances.now) (hops_of c.args.self.hops.now))) in
    union_is_given (LinksOf c.args.self.graph.now) c.args.self.graph.now.root (get c.args.self.distances.now) (hops_of c.args.self.hops.now) c.args.vertex.now c.links_to_at-link-items.result.now c.loop-link.set c.links_to_at-link-items.ensures.exact
    (subst (λ (root : ℕ). Given root [] c.loop-link.set) c.root-root.ensures.value (subst (λ (old : List NextHop). Given c.root-root.result old c.loop-link.set) c.new-set.ensures
    (union_end (IsGivenOver c.root-root.result (get c.args.self.distances.now) (hops_of c.args.self.hops.now)) c.links_to_at-link-items.result.now c.loop-link.link-index c.new-set.result c.loop-link.set c.loop-link-test.false c.loop-link.invariant)))

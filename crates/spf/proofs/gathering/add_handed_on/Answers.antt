use Rattle.std.proofs.Common.{◌≡◌, List, true, false, sym, subst}
use Rattle.std.specs.List.{Contains}
use Rattle.std.proofs.lemmas.Result.{on_ok_weaker}
use Rattle.ospf_types.specs.declared.hop.NextHop.{NextHop}
use Rattle.ospf_types.specs.declared.hop.NextHop.TheVariants as hop
use Rattle.spf.specs.HandedOn.{IsOfSome, IsHandedOn, IsUnion}
use Rattle.spf.proofs.HopUnions.{union_start, union_turn, union_end, union_whole}
use Rattle.spf.proofs.gathering.add_handed_on.Goals as goal

pub returns-then-not-has_direct : goal.returns-then-not-has_direct
returns-then-not-has_direct c =
    on_ok_weaker c.unite.result (union_whole c.args.tail.now c.args.label.now c.args.set.now c.unite.new.set (λ i has.
    let wrong : false ≡ true = c.if-not-has_direct.ensures.1 (i, subst (λ (hops : List NextHop). Contains hops (hop.Direct i)) (sym c.as_slice.ensures.value) has) in absurd cc)) c.unite.ensures

pub loop-hop-init : goal.loop-hop-init
loop-hop-init c = union_start (IsHandedOn c.args.label.now) c.as_slice-hop-items.result.now c.args.set.now

pub loop-hop-preserved : goal.loop-hop-preserved
loop-hop-preserved c =
    union_turn (IsHandedOn c.args.label.now) c.as_slice-hop-items.result.now c.loop-hop.hop-index _ c.args.set.now c.loop-hop.set c.add_handed.new.set c.loop-hop-test.true c.loop-hop.invariant c.in_ok-add_handed.ensures

pub returns : goal.returns
returns c =
    subst (λ (hops : List NextHop). IsUnion c.args.set.now c.loop-hop.set (IsOfSome hops (IsHandedOn c.args.label.now))) c.as_slice-hop-items.ensures.value
    (union_end (IsHandedOn c.args.label.now) c.as_slice-hop-items.result.now c.loop-hop.hop-index c.args.set.now c.loop-hop.set c.loop-hop-test.false c.loop-hop.invariant)

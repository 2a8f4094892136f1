use Rattle.std.proofs.Common.{◌≡◌, ℕ, List, subst}
use Rattle.ospf_types.specs.declared.hop.NextHop.{NextHop}
use Rattle.ospf_types.specs.declared.hop.NextHop.TheVariants as hop
use Rattle.spf.specs.HandedOn.{IsOfSome, IsUnion}
use Rattle.spf.proofs.HopUnions.{union_start, union_turn, union_end, union_one, union_addresses}
use Rattle.spf.proofs.gathering.add_addresses.Goals as goal

pub loop-address-init : goal.loop-address-init
loop-address-init c = union_start (λ (a : ℕ) (h : NextHop). h ≡ hop.Router c.args.interface a) c.addresses-address-items.result.now c.args.set.now

pub loop-address-preserved : goal.loop-address-preserved
loop-address-preserved c =
    union_turn (λ (a : ℕ) (h : NextHop). h ≡ hop.Router c.args.interface a) c.addresses-address-items.result.now c.loop-address.address-index _ c.args.set.now c.loop-address.set c.put.new.self c.loop-address-test.true c.loop-address.invariant
    (union_one c.loop-address.set c.put.new.self _ c.in_ok-put.ensures.added)

pub returns : goal.returns
returns c =
    union_addresses c.args.interface c.args.label.now c.args.set.now c.loop-address.set
    (subst (λ (addresses : List ℕ). IsUnion c.args.set.now c.loop-address.set (IsOfSome addresses (λ (a : ℕ) (h : NextHop). h ≡ hop.Router c.args.interface a))) c.addresses-address-items.ensures
    (union_end (λ (a : ℕ) (h : NextHop). h ≡ hop.Router c.args.interface a) c.addresses-address-items.result.now c.loop-address.address-index c.args.set.now c.loop-address.set c.loop-address-test.false c.loop-address.invariant))

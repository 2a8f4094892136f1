use Rattle.std.proofs.Common.{◌≡◌, ℕ, take}
use Rattle.ospf_types.specs.declared.hop.NextHop.{NextHop}
use Rattle.ospf_types.specs.declared.hop.NextHop.TheVariants as hop
use Rattle.spf.specs.HandedOn.{IsOfSome, IsUnion}
use Rattle.spf.proofs.gathering.add_addresses.Given as goal

-- the addresses so far are added
abbrev pub invariant-loop-address : goal.invariant-loop-address
invariant-loop-address l = IsUnion l.initial.set l.set (IsOfSome (take l.address-index l.address-items) (λ (a : ℕ) (h : NextHop). h ≡ hop.Router l.interface a))

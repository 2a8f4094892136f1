-- `==` on destinations tests what their order does not tell apart.
use Rattle.std.proofs.Common.{◌≡◌, Bool, refl}
use Rattle.std.specs.Ordering.{eq_by_cmp}
use Rattle.ospf_types.specs.contracts.key.DestPartialEq.TheImpl as dest_equality
use Rattle.ospf_types.specs.declared.key.Dest.{Dest}
use Rattle.ospf_types.specs.declared.key.Dest.TheVariants.{Net, Router}
use Rattle.ospf_types.specs.Keys.{dest_cmp}
use Rattle.ospf_types.proofs.KeyOrders.{prefixes_order, numbers_order}

abbrev pub dests_equal : Dest → Dest → Bool
dests_equal = (dest_equality.eq-value).it

dests_equal_is : (d e : Dest) → dests_equal d e ≡ eq_by_cmp dest_cmp d e
dests_equal_is (Net p) (Net q) = λ i. prefixes_order i p q
dests_equal_is (Net p) (Router r) = refl
dests_equal_is (Router r) (Net q) = refl
dests_equal_is (Router r) (Router s) = λ i. numbers_order i r s

pub dests_order : dests_equal ≡ eq_by_cmp dest_cmp
dests_order i d e = dests_equal_is d e i

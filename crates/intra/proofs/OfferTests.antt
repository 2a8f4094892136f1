-- `==` on offers decides their equality, and so does their order.
use Rattle.std.proofs.Common.{◌≡◌, ◌≢◌, ◌&&◌, Bool, true, List, Ordering, Decides, nat_eq, subst, ap}
use Rattle.std.specs.Ordering.{nat_cmp, ordering_then, eq_by_cmp}
use Rattle.std.specs.Cmp.{IsTotalOrder, eq_by_cmp_equiv, nat_cmp_total}
use Rattle.std.specs.List.{AllPairs}
use Rattle.std.specs.List.Sorted.{IsStrictlySortedBy}
use Rattle.std.proofs.lemmas.Bool.Decides.{Decides-and, Decides-eqb, Decides-like, same_from_decides}
use Rattle.std.proofs.lemmas.Cmp.{on_total, then_total}
use Rattle.std.proofs.lemmas.Map.Keys.{IsDistinct-from_sorted}
use Rattle.std.proofs.lemmas.Map.Lookups.{CmpEqualImpliesEq, exact_pairs, exact_unsigned}
use Rattle.std.proofs.lemmas.Map.Made.{AllPairs-from_IsDistinct}
use Rattle.std.proofs.lemmas.Map.Views.{tells_apart}
use Rattle.ospf_types.specs.Network.{network_cmp}
use Rattle.ospf_types.proofs.KeyOrders.{prefixes_equal, prefixes_decided}
use Rattle.ospf_types.proofs.Orders.{network_total, network_exact}
use Rattle.intra.specs.declared.offered.OfferedPrefix.{OfferedPrefix}
use Rattle.intra.specs.contracts.offered.OfferedPrefixPartialEq.TheImpl as offer_equality

abbrev pub offers_equal : OfferedPrefix → OfferedPrefix → Bool
offers_equal = (offer_equality.eq-value).it

pub offers_decided : (a b : OfferedPrefix) → Decides (offers_equal a b) (a ≡ b)
offers_decided a b =
    Decides-like (prefixes_equal a.prefix b.prefix && nat_eq a.metric b.metric) (λ h i. record { prefix = h.0 i; metric = h.1 i }) (λ e. (ap (λ (o : OfferedPrefix). o.prefix) e, ap (λ (o : OfferedPrefix). o.metric) e))
    (Decides-and (prefixes_equal a.prefix b.prefix) (nat_eq a.metric b.metric) (prefixes_decided a.prefix b.prefix) (Decides-eqb a.metric b.metric))

-- by network, then metric
abbrev pub offer_cmp : OfferedPrefix → OfferedPrefix → Ordering
offer_cmp a b = ordering_then (network_cmp a.prefix b.prefix) (nat_cmp a.metric b.metric)

pub offer_total : IsTotalOrder offer_cmp
offer_total = then_total (on_total (λ (o : OfferedPrefix). o.prefix) network_total) (on_total (λ (o : OfferedPrefix). o.metric) nat_cmp_total)

pub offer_exact : CmpEqualImpliesEq offer_cmp
offer_exact a b tied =
    let both : (a.prefix, a.metric) ≡ (b.prefix, b.metric) = exact_pairs network_cmp nat_cmp network_exact exact_unsigned (a.prefix, a.metric) (b.prefix, b.metric) tied in
    λ i. record { prefix = (both i).0; metric = (both i).1 }

tie_decided : (a b : OfferedPrefix) → Decides (eq_by_cmp offer_cmp a b) (a ≡ b)
tie_decided a b = (λ tied. tells_apart offer_exact a b tied, λ same. subst (λ (o : OfferedPrefix). eq_by_cmp offer_cmp a o ≡ true) same ((eq_by_cmp_equiv offer_total).refl a))

pub offers_order : offers_equal ≡ eq_by_cmp offer_cmp
offers_order i a b = same_from_decides (offers_equal a b) (eq_by_cmp offer_cmp a b) (offers_decided a b) (tie_decided a b) i

-- in order none occurs twice
pub once_in_order : (offers : List OfferedPrefix) → IsStrictlySortedBy offer_cmp offers → AllPairs (λ a b. a ≢ b) offers
once_in_order offers sorted = AllPairs-from_IsDistinct tie_decided offers (IsDistinct-from_sorted offer_cmp offers sorted)

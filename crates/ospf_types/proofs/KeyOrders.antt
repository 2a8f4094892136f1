-- Prefixes and numbers as keys: `==` tests what their orders do not tell apart.
use Rattle.std.proofs.Common.{◌≡◌, ◌&&◌, ◌∙◌, ℕ, Bool, Ordering, Decides, nat_eq, refl, sym, ap}
use Rattle.std.specs.declared.cmp.Ordering.TheVariants.{Less, Equal, Greater}
use Rattle.std.specs.Ordering.{nat_cmp, eq_by_cmp, is_eq, ordering_then}
use Rattle.std.specs.Cmp.{eq_by_cmp_equiv, unsigned_ties}
use Rattle.std.proofs.lemmas.Map.Views.{tells_apart}
use Rattle.ospf_types.specs.contracts.prefix.PrefixPartialEq.TheImpl as prefix_equality
use Rattle.ospf_types.specs.Network.{Network as NetworkValue, network_cmp}
use Rattle.ospf_types.proofs.Orders.{network_total, network_exact}

-- ---- prefixes

abbrev pub prefixes_equal : NetworkValue → NetworkValue → Bool
prefixes_equal = (prefix_equality.eq-value).it

both_tie : (a b : Ordering) → is_eq a && is_eq b ≡ is_eq (ordering_then a b)
both_tie Less b = refl
both_tie Equal b = refl
both_tie Greater b = refl

prefixes_equal_is : (p q : NetworkValue) → prefixes_equal p q ≡ eq_by_cmp network_cmp p q
prefixes_equal_is p q =
    (λ i. unsigned_ties p.address q.address i && unsigned_ties p.length q.length i) ∙ both_tie (nat_cmp p.address q.address) (nat_cmp p.length q.length)

pub prefixes_order : prefixes_equal ≡ eq_by_cmp network_cmp
prefixes_order i p q = prefixes_equal_is p q i

-- `==` on prefixes decides whether they are equal
pub prefixes_decided : (p q : NetworkValue) → Decides (prefixes_equal p q) (p ≡ q)
prefixes_decided p q = (
  λ t. tells_apart network_exact p q (sym (prefixes_equal_is p q) ∙ t),
  λ same. prefixes_equal_is p q ∙ ap (λ (x : NetworkValue). eq_by_cmp network_cmp p x) (sym same) ∙ (eq_by_cmp_equiv network_total).refl p,
)

-- ---- numbers

abbrev pub numbers_equal : ℕ → ℕ → Bool
numbers_equal = nat_eq

pub numbers_order : numbers_equal ≡ eq_by_cmp nat_cmp
numbers_order i a b = unsigned_ties a b i

-- The derived orders of next hops and of paths are `hop_cmp` and `path_cmp`, by kind, interface,
-- address and advertiser; next hops are equal as values.
use Rattle.std.proofs.Common.{◌≡◌, ℕ, Option, Some, None, Ordering, refl, sym, ap, subst, ◌&&◌, Decides, nat_eq}
use Rattle.std.specs.Option.{option_cmp, option_eq}
use Rattle.std.specs.Ordering.{nat_cmp, ordering_then}
use Rattle.ospf_types.specs.declared.hop.NextHop.{NextHop}
use Rattle.ospf_types.specs.declared.hop.NextHop.TheVariants.{Direct, Peer, Router}
use Rattle.ospf_types.specs.declared.hop.Path.{Path}
use Rattle.ospf_types.specs.contracts.hop.NextHopPartialEq.TheImpl as hop_equality
use Rattle.ospf_types.specs.contracts.hop.NextHopOrd.TheImpl as hop_order
use Rattle.ospf_types.specs.contracts.hop.PathOrd.TheImpl as path_order
use Rattle.ospf_types.specs.contracts.hop.PathPartialEq.TheImpl as path_equality
use Rattle.std.proofs.lemmas.Bool.Decides.{Decides-and, Decides-eqb, Decides-like}
use Rattle.std.proofs.lemmas.Map.Lookups.{CmpEqualImpliesEq}
use Rattle.ospf_types.specs.Hops.{hop_cmp, advertiser_cmp, path_cmp}
use Rattle.ospf_types.proofs.Orders.{path_exact, then_equal}

hop_cmp_at : (x y : NextHop) → hop_order.ghosts.cmp x y ≡ hop_cmp x y
hop_cmp_at (Direct a) (Direct b) = sym (then_equal (nat_cmp a b))
hop_cmp_at (Direct a) (Peer b) = refl
hop_cmp_at (Direct a) (Router b c) = refl
hop_cmp_at (Peer a) (Direct b) = refl
hop_cmp_at (Peer a) (Peer b) = sym (then_equal (nat_cmp a b))
hop_cmp_at (Peer a) (Router b c) = refl
hop_cmp_at (Router a c) (Direct b) = refl
hop_cmp_at (Router a c) (Peer b) = refl
hop_cmp_at (Router a c) (Router b d) = refl

pub hop_cmp_is : hop_order.ghosts.cmp ≡ hop_cmp
hop_cmp_is = λ i x y. hop_cmp_at x y i

advertiser_cmp_is : (x y : Option ℕ) → option_cmp nat_cmp x y ≡ advertiser_cmp x y
advertiser_cmp_is None None = refl
advertiser_cmp_is None (Some y) = refl
advertiser_cmp_is (Some x) None = refl
advertiser_cmp_is (Some x) (Some y) = refl

path_cmp_at : (x y : Path) → path_order.ghosts.cmp x y ≡ path_cmp x y
path_cmp_at x y = λ i. ordering_then (hop_cmp_at x.hop y.hop i) (advertiser_cmp_is x.advertiser y.advertiser i)

pub path_cmp_is : path_order.ghosts.cmp ≡ path_cmp
path_cmp_is = λ i x y. path_cmp_at x y i

-- paths that tie are one
pub path_order_exact : CmpEqualImpliesEq path_order.ghosts.cmp
path_order_exact = subst (λ (R : Path → Path → Ordering). CmpEqualImpliesEq R) (sym path_cmp_is) path_exact

-- the derived equality of next hops is the equality of values
pub hop_eq-Decides : (x y : NextHop) → Decides (hop_equality.ghosts.eq x y) (x ≡ y)
hop_eq-Decides (Direct a) (Direct b) = Decides-like (nat_eq a b) (λ h. ap Direct h) (λ e. cc) (Decides-eqb a b)
hop_eq-Decides (Direct a) (Peer b) = (λ h. cc, λ e. cc)
hop_eq-Decides (Direct a) (Router b d) = (λ h. cc, λ e. cc)
hop_eq-Decides (Peer a) (Direct b) = (λ h. cc, λ e. cc)
hop_eq-Decides (Peer a) (Peer b) = Decides-like (nat_eq a b) (λ h. ap Peer h) (λ e. cc) (Decides-eqb a b)
hop_eq-Decides (Peer a) (Router b d) = (λ h. cc, λ e. cc)
hop_eq-Decides (Router a c) (Direct b) = (λ h. cc, λ e. cc)
hop_eq-Decides (Router a c) (Peer b) = (λ h. cc, λ e. cc)
hop_eq-Decides (Router a c) (Router b d) = Decides-like (nat_eq a b && nat_eq c d) (λ h. λ i. Router (h.0 i) (h.1 i)) (λ e. (cc, cc)) (Decides-and (nat_eq a b) (nat_eq c d) (Decides-eqb a b) (Decides-eqb c d))

some_decides : (x y : Option ℕ) → Decides (option_eq nat_eq x y) (x ≡ y)
some_decides None None = (λ h. refl, λ e. refl)
some_decides None (Some y) = (λ h. cc, λ e. cc)
some_decides (Some x) None = (λ h. cc, λ e. cc)
some_decides (Some x) (Some y) = Decides-like (nat_eq x y) (λ h. ap Some h) (λ e. cc) (Decides-eqb x y)

-- and that of paths
pub path_eq-Decides : (x y : Path) → Decides (path_equality.ghosts.eq x y) (x ≡ y)
path_eq-Decides x y =
    let both = Decides-and (hop_equality.ghosts.eq x.hop y.hop) (option_eq nat_eq x.advertiser y.advertiser) (hop_eq-Decides x.hop y.hop) (some_decides x.advertiser y.advertiser) in (
      λ t. let same = both.0 t in λ i. record { hop = same.0 i; advertiser = same.1 i },
      λ same. both.1 (ap (λ (p : Path). p.hop) same, ap (λ (p : Path). p.advertiser) same),
    )

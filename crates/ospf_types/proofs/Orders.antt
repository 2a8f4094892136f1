-- The orders of networks, keys, scopes, destinations, costs in areas, next hops and paths are
-- total, and only equal values tie.
use Rattle.std.proofs.Common.{◌≡◌, ℕ, Option, Some, None, Ordering, refl, sym, ap, subst, arith}
use Rattle.std.specs.declared.cmp.Ordering.TheVariants.{Less, Equal, Greater}
use Rattle.std.specs.Ordering.{nat_cmp, ordering_then}
use Rattle.std.specs.Cmp.{IsTotalOrder, nat_cmp_total}
use Rattle.std.proofs.lemmas.Cmp.{on_total, then_total, back_total}
use Rattle.std.proofs.lemmas.Map.Lookups.{CmpEqualImpliesEq, exact_pairs, exact_unsigned}
use Rattle.ospf_types.specs.declared.hop.NextHop.{NextHop}
use Rattle.ospf_types.specs.declared.hop.NextHop.TheVariants.{Direct, Peer, Router}
use Rattle.ospf_types.specs.declared.hop.Path.{Path}
use Rattle.ospf_types.specs.declared.key.Dest.{Dest}
use Rattle.ospf_types.specs.declared.key.Dest.TheVariants as dest_value
use Rattle.ospf_types.specs.declared.key.Key.{Key}
use Rattle.ospf_types.specs.declared.key.Scope.{Scope}
use Rattle.ospf_types.specs.declared.key.Scope.TheVariants.{Area, As}
use Rattle.ospf_types.specs.Network.{Network, network_cmp}
use Rattle.ospf_types.specs.Keys.{key_cmp, scope_rank, scope_cmp, dest_cmp}
use Rattle.ospf_types.specs.Intra.{area_cost_cmp}
use Rattle.ospf_types.specs.Boundary.{Preference, preference_cmp}
use Rattle.ospf_types.specs.External.{ExternalPreference, external_cmp}
use Rattle.ospf_types.specs.Hops.{hop_rank, hop_cmp, advertiser_rank, advertiser_cmp, path_cmp}

pub network_total : IsTotalOrder network_cmp
network_total = then_total (on_total (λ p. p.address) nat_cmp_total) (on_total (λ p. p.length) nat_cmp_total)

pub network_exact : CmpEqualImpliesEq network_cmp
network_exact a b h = ap (λ (p : ℕ × ℕ). let n : Network = record { address = p.0; length = p.1 } in n) (exact_pairs nat_cmp nat_cmp exact_unsigned exact_unsigned (a.address, a.length) (b.address, b.length) h)

pub key_total : IsTotalOrder key_cmp
key_total = then_total (on_total (λ k. k.kind) nat_cmp_total) (then_total (on_total (λ k. k.id) nat_cmp_total) (on_total (λ k. k.router) nat_cmp_total))

pub key_exact : CmpEqualImpliesEq key_cmp
key_exact a b h =
    ap (λ (p : ℕ × (ℕ × ℕ)). let k : Key = record { kind = p.0; id = p.1.0; router = p.1.1 } in k)
    (exact_pairs nat_cmp (λ (x y : ℕ × ℕ). ordering_then (nat_cmp x.0 y.0) (nat_cmp x.1 y.1)) exact_unsigned (exact_pairs nat_cmp nat_cmp exact_unsigned exact_unsigned) (a.kind, (a.id, a.router)) (b.kind, (b.id, b.router)) h)

pub scope_total : IsTotalOrder scope_cmp
scope_total = then_total (on_total (λ s. (scope_rank s).0) nat_cmp_total) (on_total (λ s. (scope_rank s).1) nat_cmp_total)

-- scopes of one rank are one
same_scope : (x y : Scope) → (scope_rank x).0 ≡ (scope_rank y).0 → (scope_rank x).1 ≡ (scope_rank y).1 → x ≡ y
same_scope (Area a) (Area b) kind id = ap Area id
same_scope (Area a) As kind id = absurd (omega arith)
same_scope As (Area b) kind id = absurd (omega arith)
same_scope As As kind id = λ _. As

pub scope_exact : CmpEqualImpliesEq scope_cmp
scope_exact x y h =
    let e = exact_pairs nat_cmp nat_cmp exact_unsigned exact_unsigned (scope_rank x) (scope_rank y) h in
    same_scope x y (ap (λ (p : ℕ × ℕ). p.0) e) (ap (λ (p : ℕ × ℕ). p.1) e)

pub then_equal : (o : Ordering) → ordering_then o Equal ≡ o
then_equal Less = refl
then_equal Equal = refl
then_equal Greater = refl

-- destinations by three numbers
abbrev dest_rank : Dest → ℕ × (ℕ × ℕ)
dest_rank (dest_value.Net p) = (0, (p.address, p.length))
dest_rank (dest_value.Router r) = (1, (r, 0))

abbrev dest_rank_cmp : Dest → Dest → Ordering
dest_rank_cmp x y = ordering_then (nat_cmp (dest_rank x).0 (dest_rank y).0) (ordering_then (nat_cmp (dest_rank x).1.0 (dest_rank y).1.0) (nat_cmp (dest_rank x).1.1 (dest_rank y).1.1))

dest_rank_cmp_at : (x y : Dest) → dest_rank_cmp x y ≡ dest_cmp x y
dest_rank_cmp_at (dest_value.Net p) (dest_value.Net q) = refl
dest_rank_cmp_at (dest_value.Net p) (dest_value.Router s) = refl
dest_rank_cmp_at (dest_value.Router r) (dest_value.Net q) = refl
dest_rank_cmp_at (dest_value.Router r) (dest_value.Router s) = then_equal (nat_cmp r s)

pub dest_total : IsTotalOrder dest_cmp
dest_total =
    subst (λ (R : Dest → Dest → Ordering). IsTotalOrder R) (λ i x y. dest_rank_cmp_at x y i)
    (then_total (on_total (λ d. (dest_rank d).0) nat_cmp_total) (then_total (on_total (λ d. (dest_rank d).1.0) nat_cmp_total) (on_total (λ d. (dest_rank d).1.1) nat_cmp_total)))

pub dest_exact : CmpEqualImpliesEq dest_cmp
dest_exact (dest_value.Net p) (dest_value.Net q) h = ap dest_value.Net (network_exact p q h)
dest_exact (dest_value.Net p) (dest_value.Router s) h = absurd cc
dest_exact (dest_value.Router r) (dest_value.Net q) h = absurd cc
dest_exact (dest_value.Router r) (dest_value.Router s) h = ap dest_value.Router (exact_unsigned r s h)

pub area_cost_total : IsTotalOrder area_cost_cmp
area_cost_total = then_total (on_total (λ k. k.0) nat_cmp_total) (on_total (λ k. k.1) (back_total nat_cmp_total))

pub area_cost_exact : CmpEqualImpliesEq area_cost_cmp
area_cost_exact a b h = exact_pairs nat_cmp (λ x y. nat_cmp y x) exact_unsigned (λ x y h. sym (exact_unsigned y x h)) a b h

pub preference_total : IsTotalOrder preference_cmp
preference_total = then_total (on_total (λ p. p.class) nat_cmp_total) (then_total (on_total (λ p. p.cost) nat_cmp_total) (on_total (λ p. p.area) (back_total nat_cmp_total)))

pub preference_exact : CmpEqualImpliesEq preference_cmp
preference_exact a b h =
    ap (λ (p : ℕ × (ℕ × ℕ)). let k : Preference = record { class = p.0; cost = p.1.0; area = p.1.1 } in k)
    (exact_pairs nat_cmp area_cost_cmp exact_unsigned area_cost_exact (a.class, (a.cost, a.area)) (b.class, (b.cost, b.area)) h)

pub external_total : IsTotalOrder external_cmp
external_total = then_total (on_total (λ p. p.kind) nat_cmp_total) (then_total (on_total (λ p. p.metric) nat_cmp_total) (then_total (on_total (λ p. p.class) nat_cmp_total) (on_total (λ p. p.cost) nat_cmp_total)))

pub external_exact : CmpEqualImpliesEq external_cmp
external_exact a b h =
    ap (λ (p : ℕ × (ℕ × (ℕ × ℕ))). let k : ExternalPreference = record { kind = p.0; metric = p.1.0; class = p.1.1.0; cost = p.1.1.1 } in k)
    (exact_pairs nat_cmp (λ (x y : ℕ × (ℕ × ℕ)). ordering_then (nat_cmp x.0 y.0) (ordering_then (nat_cmp x.1.0 y.1.0) (nat_cmp x.1.1 y.1.1))) exact_unsigned
    (exact_pairs nat_cmp (λ (x y : ℕ × ℕ). ordering_then (nat_cmp x.0 y.0) (nat_cmp x.1 y.1)) exact_unsigned (exact_pairs nat_cmp nat_cmp exact_unsigned exact_unsigned))
    (a.kind, (a.metric, (a.class, a.cost))) (b.kind, (b.metric, (b.class, b.cost))) h)

pub hop_total : IsTotalOrder hop_cmp
hop_total = then_total (on_total (λ h. (hop_rank h).0) nat_cmp_total) (then_total (on_total (λ h. (hop_rank h).1) nat_cmp_total) (on_total (λ h. (hop_rank h).2) nat_cmp_total))

advertiser_total : IsTotalOrder advertiser_cmp
advertiser_total = then_total (on_total (λ a. (advertiser_rank a).0) nat_cmp_total) (on_total (λ a. (advertiser_rank a).1) nat_cmp_total)

pub path_total : IsTotalOrder path_cmp
path_total = then_total (on_total (λ p. p.hop) hop_total) (on_total (λ p. p.advertiser) advertiser_total)

-- next hops of one rank are one
same_hop : (x y : NextHop) → (hop_rank x).0 ≡ (hop_rank y).0 → (hop_rank x).1 ≡ (hop_rank y).1 → (hop_rank x).2 ≡ (hop_rank y).2 → x ≡ y
same_hop (Direct a) (Direct b) kind id address = ap Direct id
same_hop (Direct a) (Peer b) kind id address = absurd (omega arith)
same_hop (Direct a) (Router b d) kind id address = absurd (omega arith)
same_hop (Peer a) (Direct b) kind id address = absurd (omega arith)
same_hop (Peer a) (Peer b) kind id address = ap Peer id
same_hop (Peer a) (Router b d) kind id address = absurd (omega arith)
same_hop (Router a c) (Direct b) kind id address = absurd (omega arith)
same_hop (Router a c) (Peer b) kind id address = absurd (omega arith)
same_hop (Router a c) (Router b d) kind id address = λ i. Router (id i) (address i)

same_advertiser : (x y : Option ℕ) → (advertiser_rank x).0 ≡ (advertiser_rank y).0 → (advertiser_rank x).1 ≡ (advertiser_rank y).1 → x ≡ y
same_advertiser None None there router = λ _. None
same_advertiser None (Some y) there router = absurd (omega arith)
same_advertiser (Some x) None there router = absurd (omega arith)
same_advertiser (Some x) (Some y) there router = ap Some router

pub hop_exact : CmpEqualImpliesEq hop_cmp
hop_exact x y h =
    let e = exact_pairs nat_cmp (λ (x y : ℕ × ℕ). ordering_then (nat_cmp x.0 y.0) (nat_cmp x.1 y.1)) exact_unsigned (exact_pairs nat_cmp nat_cmp exact_unsigned exact_unsigned) ((hop_rank x).0, ((hop_rank x).1, (hop_rank x).2)) ((hop_rank y).0, ((hop_rank y).1, (hop_rank y).2)) h in
    same_hop x y (ap (λ (p : ℕ × (ℕ × ℕ)). p.0) e) (ap (λ (p : ℕ × (ℕ × ℕ)). p.1.0) e) (ap (λ (p : ℕ × (ℕ × ℕ)). p.1.1) e)

advertiser_exact : CmpEqualImpliesEq advertiser_cmp
advertiser_exact x y h =
    let e = exact_pairs nat_cmp nat_cmp exact_unsigned exact_unsigned (advertiser_rank x) (advertiser_rank y) h in
    same_advertiser x y (ap (λ (p : ℕ × ℕ). p.0) e) (ap (λ (p : ℕ × ℕ). p.1) e)

pub path_exact : CmpEqualImpliesEq path_cmp
path_exact x y h =
    ap (λ (p : NextHop × Option ℕ). let r : Path = record { hop = p.0; advertiser = p.1 } in r) (exact_pairs hop_cmp advertiser_cmp hop_exact advertiser_exact (x.hop, x.advertiser) (y.hop, y.advertiser) h)

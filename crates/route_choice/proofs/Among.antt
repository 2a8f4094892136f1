-- What some destinations are, as a list: just those of which there is one among them; and
-- destinations in order.
use Rattle.std.proofs.Common.{◌≡◌, List, [], ◌∷◌, ◌++◌, map, Option, Some, None, refl, sym, ap, subst, ◌∙◌, inl, inr}
use Rattle.std.specs.Prelude.{ℕ, ◌↔◌}
use Rattle.std.specs.List.{AllByRecursion, Contains, filter_map}
use Rattle.std.specs.List.Sorted.{IsStrictlySortedBy}
use Rattle.std.specs.Ordering.{nat_cmp}
use Rattle.std.specs.declared.cmp.Ordering.TheVariants.{Less}
use Rattle.std.proofs.lemmas.List.Elements.{Contains-append_left, Contains-append_right, Contains-append_cases}
use Rattle.ospf_types.specs.declared.key.Dest.{Dest}
use Rattle.ospf_types.specs.declared.key.Dest.TheVariants.{Net, Router}
use Rattle.ospf_types.specs.declared.prefix.Prefix.{Prefix}
use Rattle.ospf_types.specs.Keys.{dest_cmp}
use Rattle.ospf_types.specs.Network.{network_cmp}
use Rattle.ospf_types.proofs.Elements.{no_element, first_element, later_element, first_or_later, mapped_element, mapped_from}
use Rattle.route_choice.specs.Dests.{network_of, router_of}

module _ {X Y : Type 0} (read : X → Option Y) (back : Y → X) (one : (y : Y) → read (back y) ≡ Some y) (only : (x : X) (y : Y) → read x ≡ Some y → x ≡ back y) where
  -- what is read of one more
  among_more : (x : X) (xs : List X) (y : Y) → Contains (filter_map read xs) y ↔ Contains xs (back y) → (o : Option Y) → read x ≡ o → Contains (filter_map read (x ∷ xs)) y ↔ Contains (x ∷ xs) (back y)
  among_more x xs y rest None none = subst (λ (ys : List Y). Contains ys y ↔ Contains (x ∷ xs) (back y)) (sym (passed none)) (
    λ c. later_element x (back y) xs (rest.0 c),
    λ c. elim (first_or_later x (back y) xs c) [
      | inl e ↦ let wrong : None ≡ Some y = sym none ∙ ap read (sym e) ∙ one y in absurd cc
      | inr later ↦ rest.1 later
    ],
  )
    where
      passed : read x ≡ None → filter_map read (x ∷ xs) ≡ filter_map read xs
      passed e = cc
  among_more x xs y rest (Some z) some = subst (λ (ys : List Y). Contains ys y ↔ Contains (x ∷ xs) (back y)) (sym (taken some)) (
    λ c. elim (first_or_later z y (filter_map read xs) c) [
      | inl e ↦ subst (λ (w : X). Contains (x ∷ xs) w) (only x z some ∙ ap back (sym e)) (first_element x xs)
      | inr later ↦ later_element x (back y) xs (rest.0 later)
    ],
    λ c. elim (first_or_later x (back y) xs c) [
      | inl e ↦
          let both : Some z ≡ Some y = sym some ∙ ap read (sym e) ∙ one y in
          let same : z ≡ y = cc in
          subst (λ (w : Y). Contains (z ∷ filter_map read xs) w) same (first_element z (filter_map read xs))
      | inr later ↦ later_element z y (filter_map read xs) (rest.1 later)
    ],
  )
    where
      taken : read x ≡ Some z → filter_map read (x ∷ xs) ≡ z ∷ filter_map read xs
      taken e = cc

  pub among_read : (xs : List X) (y : Y) → Contains (filter_map read xs) y ↔ Contains xs (back y)
  among_read [] y = (λ c. absurd (no_element y c), λ c. absurd (no_element (back y) c))
  among_read (x ∷ xs) y = among_more x xs y (among_read xs y) (read x) refl

pub networks_among : (dests : List Dest) (p : Prefix) → Contains (filter_map network_of dests) p ↔ Contains dests (Net p)
networks_among = among_read network_of Net (λ p. refl) only
  where
    only : (d : Dest) (p : Prefix) → network_of d ≡ Some p → d ≡ Net p
    only (Net q) p e = cc
    only (Router r) p e = absurd cc

pub routers_among : (dests : List Dest) (r : ℕ) → Contains (filter_map router_of dests) r ↔ Contains dests (Router r)
routers_among = among_read router_of Router (λ r. refl) only
  where
    only : (d : Dest) (r : ℕ) → router_of d ≡ Some r → d ≡ Router r
    only (Net q) r e = absurd cc
    only (Router q) r e = cc

-- ---- networks and then routers

-- networks in order come before routers in order
nets_sorted : (rs : List ℕ) → IsStrictlySortedBy nat_cmp rs → IsStrictlySortedBy dest_cmp (map Router rs)
unfolding IsStrictlySortedBy
nets_sorted [] sorted = tt
nets_sorted (r ∷ rs) sorted = (below rs sorted.0, nets_sorted rs sorted.1)
  where
    below : (qs : List ℕ) → AllByRecursion (λ q. nat_cmp r q ≡ Less) qs → AllByRecursion (λ d. dest_cmp (Router r) d ≡ Less) (map Router qs)
    below [] all = tt
    below (q ∷ qs) all = (all.0, below qs all.1)

pub dests_sorted : (ps : List Prefix) (rs : List ℕ) → IsStrictlySortedBy network_cmp ps → IsStrictlySortedBy nat_cmp rs → IsStrictlySortedBy dest_cmp (map Net ps ++ map Router rs)
unfolding IsStrictlySortedBy
dests_sorted [] rs nets routers = nets_sorted rs routers
dests_sorted (p ∷ ps) rs nets routers = (below ps nets.0, dests_sorted ps rs nets.1 routers)
  where
    past : (qs : List ℕ) → AllByRecursion (λ d. dest_cmp (Net p) d ≡ Less) (map Router qs)
    past [] = tt
    past (q ∷ qs) = (refl, past qs)

    below : (qs : List Prefix) → AllByRecursion (λ q. network_cmp p q ≡ Less) qs → AllByRecursion (λ d. dest_cmp (Net p) d ≡ Less) (map Net qs ++ map Router rs)
    below [] all = past rs
    below (q ∷ qs) all = (all.0, below qs all.1)

-- what is among networks and routers
module _ (ps : List Prefix) (rs : List ℕ) where
  abbrev Both : List Dest
  Both = map Net ps ++ map Router rs

  pub net_among : (p : Prefix) → Contains Both (Net p) ↔ Contains ps p
  net_among p = (
    λ c. elim (Contains-append_cases (map Net ps) (map Router rs) (Net p) c) [
      | inl net ↦ let w = mapped_from Net ps (Net p) net in let e : w.0 ≡ p = (let same : Net w.0 ≡ Net p = w.2 in cc) in subst (Contains ps) e w.1
      | inr router ↦ let w = mapped_from Router rs (Net p) router in absurd (let wrong : Router w.0 ≡ Net p = w.2 in cc)
    ],
    λ c. Contains-append_left (map Net ps) (map Router rs) (Net p) (mapped_element Net ps p c),
  )

  pub router_among : (r : ℕ) → Contains Both (Router r) ↔ Contains rs r
  router_among r = (
    λ c. elim (Contains-append_cases (map Net ps) (map Router rs) (Router r) c) [
      | inl net ↦ let w = mapped_from Net ps (Router r) net in absurd (let wrong : Net w.0 ≡ Router r = w.2 in cc)
      | inr router ↦ let w = mapped_from Router rs (Router r) router in let e : w.0 ≡ r = (let same : Router w.0 ≡ Router r = w.2 in cc) in subst (Contains rs) e w.1
    ],
    λ c. Contains-append_right (map Net ps) (map Router rs) (Router r) (mapped_element Router rs r c),
  )

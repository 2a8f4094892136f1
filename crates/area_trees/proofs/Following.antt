-- Network-LSAs that follow their database, key by key.
use Rattle.std.proofs.Common.{◌≡◌, ℕ, ◌+◌, ◌<◌, ◌≤◌, List, ◌∷◌, length, get_or, drop, sym, ap, subst, ◌∙◌, ◌⊎◌, inl, inr, ⊎_elim, Option}
use Rattle.std.specs.Prelude.{◌↔◌, Contains, IsSome}
use Rattle.std.proofs.lemmas.Bool.{cases_eq}
use Rattle.std.proofs.lemmas.List.{drop_more, drop_all}
use Rattle.ospf_types.specs.declared.key.Key.{Key}
use Rattle.ospf_types.specs.Lsa.{Body}
use Rattle.ospf_types.proofs.Elements.{no_element, first_or_later}
use Rattle.lsdb.specs.Databases.{Database}
use Rattle.area_trees.specs.Areas.{AreNetworksOf, DifferAmong, IsUsed, network_key}

-- the key of a network-LSA or another
network_or_other : (key : Key) (id router : ℕ) → (((key.kind ≡ 2) × (key.id ≡ id) × (key.router ≡ router))) ⊎ (((key.kind ≡ 2) × (key.id ≡ id) × (key.router ≡ router)) → ⊥)
network_or_other key id router = elim (cases_eq key.kind 2) [
  | inr n ↦ inr (λ h. n h.0)
  | inl kind ↦ elim (cases_eq key.id id) [
    | inr n ↦ inr (λ h. n h.1)
    | inl same ↦ elim (cases_eq key.router router) [ inr n ↦ inr (λ h. n h.2) | inl by ↦ inl (kind, same, by) ]
  ]
]

network_key_is : (key : Key) (id router : ℕ) → (key.kind ≡ 2) × (key.id ≡ id) × (key.router ≡ router) → key ≡ network_key id router
network_key_is key id router h = λ i. record { kind = h.0 i; id = h.1 i; router = h.2 i }

-- the network-LSAs belong to the database, but for these keys
abbrev pub AreRightBut : Database → List Key → List (ℕ × ℕ) → Type 0
AreRightBut d left networks = (id router : ℕ) → (Contains left (network_key id router) → ⊥) → Contains networks (id, router) ↔ IsUsed d (network_key id router)

pub right_at_first : (before after : Database) (keys : List Key) (networks : List (ℕ × ℕ)) → AreNetworksOf before networks → DifferAmong before after keys → AreRightBut after keys networks
right_at_first before after keys networks right differ id router apart =
    let same = differ (network_key id router) apart in
    let was = right id router in
    (λ c. subst (λ (o : Option Body). IsSome o) (sym same) (was.0 c), λ used. was.1 (subst (λ (o : Option Body). IsSome o) same used))

module _ (d : Database) (keys : List Key) (i : ℕ) where
  pub right_more : (old new : List (ℕ × ℕ)) (key first : Key) → i < length keys → key ≡ get_or keys i first → AreRightBut d (drop i keys) old
      → (key.kind ≡ 2 → Contains new (key.id, key.router) ↔ IsUsed d key)
      → ((id router : ℕ) → (((key.kind ≡ 2) × (key.id ≡ id) × (key.router ≡ router)) → ⊥) → Contains new (id, router) ↔ Contains old (id, router))
      → AreRightBut d (drop (i + 1) keys) new
  right_more old new key first lt is right own others id router apart = elim (network_or_other key id router) [
    | inl here ↦
        let at = own here.0 in
        let pair : (key.id, key.router) ≡ (id, router) = λ j. (here.1 j, here.2 j) in (
          λ c. subst (IsUsed d) (network_key_is key id router here) (at.0 (subst (λ (p : ℕ × ℕ). Contains new p) (sym pair) c)),
          λ used. subst (λ (p : ℕ × ℕ). Contains new p) pair (at.1 (subst (IsUsed d) (sym (network_key_is key id router here)) used)),
        )
    | inr other ↦
        let parts : drop i keys ≡ key ∷ drop (i + 1) keys = drop_more keys i first lt ∙ ap (λ (k : Key). k ∷ drop (i + 1) keys) (sym is) in
        let still = right id router (λ c. ⊎_elim
        (λ (same : network_key id router ≡ key). other (ap (λ (k : Key). k.kind) (sym same), ap (λ (k : Key). k.id) (sym same), ap (λ (k : Key). k.router) (sym same)))
        apart (first_or_later key (network_key id router) (drop (i + 1) keys) (subst (λ (ks : List Key). Contains ks (network_key id router)) parts c))) in
        let kept = others id router other in
        (λ c. still.0 (kept.0 c), λ used. kept.1 (still.1 used))
  ]

  pub right_all : (networks : List (ℕ × ℕ)) → length keys ≤ i → AreRightBut d (drop i keys) networks → AreNetworksOf d networks
  right_all networks past right id router = right id router (λ c. no_element (network_key id router) (subst (λ (ks : List Key). Contains ks (network_key id router)) (drop_all i keys past) c))

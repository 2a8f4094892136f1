-- An index that follows its database, key by key.
use Rattle.std.proofs.Common.{◌≡◌, ◌≢◌, ℕ, ◌+◌, ◌<◌, ◌≤◌, List, ◌∷◌, length, get_or, drop, refl, sym, ap, subst, ◌∙◌, ◌⊎◌, inl, inr, Option, Some, None}
use Rattle.std.specs.Prelude.{Contains, IsSome, option_and_then, option_map}
use Rattle.std.specs.FinMap as map
use Rattle.std.proofs.lemmas.List.{drop_more, drop_all}
use Rattle.ospf_types.specs.declared.key.Key.{Key}
use Rattle.ospf_types.specs.declared.key.Scope.{Scope}
use Rattle.ospf_types.specs.Keys.{key_cmp}
use Rattle.ospf_types.specs.Lsa.{Lsa, Body}
use Rattle.ospf_types.proofs.Elements.{no_element, first_or_later}
use Rattle.ospf_types.proofs.Orders.{key_total, key_exact, scope_total, scope_exact}
use Rattle.route_choice.proofs.KeyedMaps.{one_or_other}
use Rattle.lsdb.specs.Contents.{body_at, IsOrder, contents_of}
use Rattle.lsdb.specs.Databases.{Database, DatabaseValue}
use Rattle.advertised_index.specs.AdvertisedRoute.{advertised_at}
use Rattle.advertised_index.specs.Indexes.{OfferIndexValue, ChangedOffersValue, IsIndexOf, LsasDifferAmong, AreDestsAffected}
use Rattle.advertised_index.proofs.Effects.{touched_none, touched_both}

-- ---- the first of what is left, or a later one

pub left_or_now : {K : Type 0} (ks : List K) (i : ℕ) (k first x : K) → i < length ks → k ≡ get_or ks i first → Contains (drop i ks) x → (x ≡ k) ⊎ Contains (drop (i + 1) ks) x
left_or_now {K} ks i k first x lt is c =
    let parts : drop i ks ≡ k ∷ drop (i + 1) ks = drop_more ks i first lt ∙ ap (λ (k : K). k ∷ drop (i + 1) ks) (sym is) in
    first_or_later k x (drop (i + 1) ks) (subst (λ (ks : List K). Contains ks x) parts c)

pub none_left : {K : Type 0} (ks : List K) (i : ℕ) (x : K) → length ks ≤ i → Contains (drop i ks) x → ⊥
none_left {K} ks i x past c = no_element x (subst (λ (ks : List K). Contains ks x) (drop_all i ks past) c)

-- a named key or another
named_or_other : (named : Scope × Key) (scope : Scope) (k : Key) → (named ≡ (scope, k)) ⊎ (named ≢ (scope, k))
named_or_other named scope k =
    elim (one_or_other scope_total scope_exact scope named.0) [
      | inr other ↦ inr (λ same. other (ap (λ (n : Scope × Key). n.0) same))
      | inl of ↦ elim (one_or_other key_total key_exact k named.1) [ inr other ↦ inr (λ same. other (ap (λ (n : Scope × Key). n.1) same)) | inl is ↦ inl (λ i. (of i, is i)) ]
    ]

pub there_or_not : {X : Type 0} (o : Option X) → IsSome o ⊎ (o ≡ None)
there_or_not None = inr refl
there_or_not (Some x) = inl refl

-- ---- the index is right, but for the keys that are left

module _ (root : ℕ) (scope : Scope) (d : Database) where
  abbrev pub IsRightAt : OfferIndexValue → Key → Type 0
  IsRightAt i k = map.get i.routes k ≡ advertised_at root scope k (body_at d k)

  pub record IsFollowed (ahead : Key → Type 0) (old now : OfferIndexValue) (before after : ChangedOffersValue) : Type 0 where
    pub right : (k : Key) → (ahead k → ⊥) → IsRightAt now k
    pub touched : AreDestsAffected old now before after

  -- ---- named keys

  abbrev pub IsNamed : List (Scope × Key) → Key → Type 0
  IsNamed names k = Contains names (scope, k)

  pub followed_first : (names : List (Scope × Key)) (was : Database) (old : OfferIndexValue) (v : ChangedOffersValue) → IsIndexOf root scope was old → LsasDifferAmong names scope was d → IsFollowed (IsNamed names) old old v v
  followed_first names was old v index differ =
      record { right = λ k apart. index k ∙ ap (advertised_at root scope k) (sym (differ k apart)); touched = touched_none old v }

  module _ (names : List (Scope × Key)) (i : ℕ) where
    pub followed_more : (old now next : OfferIndexValue) (u v w : ChangedOffersValue) (named first : Scope × Key) → i < length names → named ≡ get_or names i first → IsFollowed (IsNamed (drop i names)) old now u v
        → (named.0 ≡ scope → IsRightAt next named.1) → ((k : Key) → named ≢ (scope, k) → map.get next.routes k ≡ map.get now.routes k) → AreDestsAffected now next v w → IsFollowed (IsNamed (drop (i + 1) names)) old next u w
    followed_more old now next u v w named first lt is followed taken others touched =
        record {
          right = λ k apart. elim (named_or_other named scope k) [
            | inl same ↦ subst (λ (n : Scope × Key). IsRightAt next n.1) same (taken (ap (λ (n : Scope × Key). n.0) same))
            | inr other ↦ others k other ∙ followed.right k (λ c. elim (left_or_now names i named first (scope, k) lt is c) [ inl same ↦ other (sym same) | inr later ↦ apart later ])
          ];
          touched = touched_both old now next u v w followed.touched touched;
        }

    pub followed_all : (old now : OfferIndexValue) (u v : ChangedOffersValue) → length names ≤ i → IsFollowed (IsNamed (drop i names)) old now u v → IsIndexOf root scope d now
    followed_all old now u v past followed k = followed.right k (none_left names i (scope, k) past)

  -- ---- all keys of the database

  pub nothing_there : (k : Key) → map.get d k ≡ None → advertised_at root scope k (body_at d k) ≡ None
  nothing_there k none = ap (λ (o : Option Lsa). advertised_at root scope k (option_map (λ (used : ℕ × Body). used.1) (option_and_then contents_of o))) none

  pub begun : (all : DatabaseValue) (v : ChangedOffersValue) → all.lsas ≡ d → IsOrder all → (old : OfferIndexValue) → old ≡ record { routes = map.empty } → IsFollowed (Contains all.order) old old v v
  begun all v is order old empty =
      record {
        right = λ k apart.
            let absent : IsSome (map.get d k) → ⊥ = λ some. apart ((order.there k).1 (subst (λ (e : Database). IsSome (map.get e k)) (sym is) some)) in
            ap (λ (i : OfferIndexValue). map.get i.routes k) empty ∙ map.get-empty key_cmp k ∙ sym (nothing_there k (elim (there_or_not (map.get d k)) [ inl some ↦ absurd (absent some) | inr none ↦ none ]));
        touched = touched_none old v;
      }

  module _ (keys : List Key) (i : ℕ) where
    pub gone_on : (old now next : OfferIndexValue) (u v w : ChangedOffersValue) (key first : Key) → i < length keys → key ≡ get_or keys i first → IsFollowed (Contains (drop i keys)) old now u v
        → IsRightAt next key → ((k : Key) → k ≢ key → map.get next.routes k ≡ map.get now.routes k) → AreDestsAffected now next v w → IsFollowed (Contains (drop (i + 1) keys)) old next u w
    gone_on old now next u v w key first lt is followed taken others touched =
        record {
          right = λ k apart. elim (one_or_other key_total key_exact key k) [
            | inl same ↦ subst (IsRightAt next) (sym same) taken
            | inr other ↦ others k other ∙ followed.right k (λ c. elim (left_or_now keys i key first k lt is c) [ inl same ↦ other same | inr later ↦ apart later ])
          ];
          touched = touched_both old now next u v w followed.touched touched;
        }

    pub gone_through : (old now : OfferIndexValue) (u v : ChangedOffersValue) → length keys ≤ i → IsFollowed (Contains (drop i keys)) old now u v → IsIndexOf root scope d now
    gone_through old now u v past followed k = followed.right k (none_left keys i k past)

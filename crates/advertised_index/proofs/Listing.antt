-- The groups that a route is of, and in which its key stands.
use Rattle.std.proofs.Common.{◌≡◌, ◌≢◌, ◌<◌, List, Option, Some, refl, sym, ap, subst, ◌∙◌, ◌⊎◌, inl, inr}
use Rattle.std.specs.Prelude.{Contains}
use Rattle.std.specs.FinMap.{get}
use Rattle.ospf_types.specs.declared.key.Key.{Key}
use Rattle.ospf_types.proofs.Orders.{key_total, key_exact}
use Rattle.route_choice.proofs.KeyedMaps.{one_or_other}
use Rattle.advertised_index.specs.AdvertisedRoute.{AdvertisedValue}
use Rattle.advertised_index.specs.Indexes.{AdvertisedByKey, IsOfGroup}
use Rattle.advertised_index.specs.declared.index_key.IndexKey.{IndexKey}
use Rattle.advertised_index.specs.declared.index_key.IndexKey.TheVariants.{To, By, Forwarded}
use Rattle.advertised_index.specs.LsasByKey.{IsIndexedUnder, IsMemberBy, AreMembersOf}
use Rattle.advertised_index.proofs.Groups.{Member}

-- what holds of the groups of a route
each_group : (P : IndexKey → Type 0) (k : Key) (a : AdvertisedValue) → P (To a.dest) → P (By k.router) → (0 < a.forwarding → P (Forwarded a.forwarding)) → (g : IndexKey) → IsOfGroup g k a → P g
each_group P k a to by forwarded (To d) is = subst (λ d. P (To d)) is to
each_group P k a to by forwarded (By r) is = subst (λ r. P (By r)) is by
each_group P k a to by forwarded (Forwarded n) is = subst (λ n. P (Forwarded n)) is.1 (forwarded (subst (λ n. 0 < n) (sym is.1) is.0))

module _ (k : Key) (o : Option AdvertisedValue) where
  pub member_at : (g : IndexKey) → IsIndexedUnder o k g → (m : Member) → m ≡ (g, k) → IsMemberBy o k m
  member_at g of m at = subst (IsMemberBy o k) (sym at) (refl, of)

  -- one more member by the route
  pub come_by : (first mid now : List Member) (g : IndexKey) → IsIndexedUnder o k g → ((m : Member) → Contains now m → Contains mid m ⊎ (m ≡ (g, k))) → ((m : Member) → Contains mid m → Contains first m ⊎ IsMemberBy o k m)
      → (m : Member) → Contains now m → Contains first m ⊎ IsMemberBy o k m
  come_by first mid now g of step so_far m c = elim (step m c) [ inl was ↦ so_far m was | inr at ↦ inr (member_at g of m at) ]

  module _ (a : AdvertisedValue) (is : o ≡ Some a) where
    pub of_each : (P : IndexKey → Type 0) → P (To a.dest) → P (By k.router) → (0 < a.forwarding → P (Forwarded a.forwarding)) → (g : IndexKey) → IsIndexedUnder o k g → P g
    of_each P to by forwarded g of =
        let both : Some a ≡ Some of.0 = sym is ∙ of.1 in
        let same : a ≡ of.0 = cc in
        each_group P k a to by forwarded g (subst (λ (b : AdvertisedValue). IsOfGroup g k b) (sym same) of.2)

    -- its key is in each group
    pub listed_in_all : (ms : List Member) → Contains ms (To a.dest, k) → Contains ms (By k.router, k) → (0 < a.forwarding → Contains ms (Forwarded a.forwarding, k)) → (m : Member) → IsMemberBy o k m → Contains ms m
    listed_in_all ms to by forwarded m by_route =
        subst (λ (j : Key). Contains ms (m.0, j)) (sym by_route.0) (of_each (λ g. Contains ms (g, k)) to by forwarded m.0 by_route.1)

    -- where the other route is of each group in which the member may be
    pub stays_in_each : (stays : Option AdvertisedValue) (m : Member) → (m ≡ (To a.dest, k) → IsIndexedUnder stays k (To a.dest)) → (m ≡ (By k.router, k) → IsIndexedUnder stays k (By k.router))
        → (0 < a.forwarding → m ≡ (Forwarded a.forwarding, k) → IsIndexedUnder stays k (Forwarded a.forwarding)) → IsMemberBy o k m → IsMemberBy stays k m
    stays_in_each stays m to by forwarded by_route = (by_route.0, of_each (λ g. m ≡ (g, k) → IsIndexedUnder stays k g) to by forwarded m.0 by_route.1 (λ i. (m.0, by_route.0 i)))

  pub stays_at : (stays : Option AdvertisedValue) (g : IndexKey) → IsIndexedUnder o k g → (m : Member) → (IsMemberBy o k m → IsMemberBy stays k m) → m ≡ (g, k) → IsIndexedUnder stays k g
  stays_at stays g of m both at = subst (IsIndexedUnder stays k) (ap (λ (n : Member). n.0) at) (both (member_at g of m at)).1

-- ---- another route under one key

module _ (routes : AdvertisedByKey) (old mid new : List Member) (key : Key) (was fresh : Option AdvertisedValue) (are : AreMembersOf routes old) (stood : get routes key ≡ was)
    (kept : (m : Member) → Contains old m → Contains mid m) (only : (m : Member) → Contains mid m → Contains old m ⊎ IsMemberBy fresh key m) where
  -- the key has left the groups of what was, but for those of what is
  pub exchanged : (next : AdvertisedByKey) → get next key ≡ fresh → ((k : Key) → k ≢ key → get next k ≡ get routes k) → ((m : Member) → IsMemberBy fresh key m → Contains mid m)
      → ((m : Member) → Contains mid m → (IsMemberBy was key m → IsMemberBy fresh key m) → Contains new m) → ((m : Member) → Contains new m → Contains mid m × (IsMemberBy was key m → IsMemberBy fresh key m)) → AreMembersOf next new
  exchanged next here others listed stays left m =
      elim (one_or_other key_total key_exact key m.1) [
        | inl same ↦
            let now : get next m.1 ≡ fresh = ap (get next) same ∙ here in
            let then : get routes m.1 ≡ was = ap (get routes) same ∙ stood in
            let at : (o : Option AdvertisedValue) → IsMemberBy o key m → IsIndexedUnder o m.1 m.0 = λ o by_route. subst (λ (k : Key). IsIndexedUnder o k m.0) (sym same) by_route.1 in
            let back : (o : Option AdvertisedValue) → IsIndexedUnder o m.1 m.0 → IsMemberBy o key m = λ o of. (same, subst (λ (k : Key). IsIndexedUnder o k m.0) same of) in (
              λ c.
                  let parts = left m c in
                  let by_fresh : IsMemberBy fresh key m = elim (only m parts.0) [
                    | inl had ↦ parts.1 (back was (subst (λ (o : Option AdvertisedValue). IsIndexedUnder o m.1 m.0) then ((are m).0 had)))
                    | inr came ↦ came
                  ] in
                  subst (λ (o : Option AdvertisedValue). IsIndexedUnder o m.1 m.0) (sym now) (at fresh by_fresh),
              λ of.
                  let by_fresh : IsMemberBy fresh key m = back fresh (subst (λ (o : Option AdvertisedValue). IsIndexedUnder o m.1 m.0) now of) in
                  stays m (listed m by_fresh) (λ by_was. by_fresh),
            )
        | inr other ↦
            let alike : get next m.1 ≡ get routes m.1 = others m.1 other in (
              λ c. elim (only m (left m c).0) [
                | inl had ↦ subst (λ (o : Option AdvertisedValue). IsIndexedUnder o m.1 m.0) (sym alike) ((are m).0 had)
                | inr came ↦ absurd (other came.0)
              ],
              λ of. stays m (kept m ((are m).1 (subst (λ (o : Option AdvertisedValue). IsIndexedUnder o m.1 m.0) alike of))) (λ by_was. absurd (other by_was.0)),
            )
      ]

  -- the key has left the groups of what was to come, but for those of what was
  pub undone : ((m : Member) → Contains mid m → (IsMemberBy fresh key m → IsMemberBy was key m) → Contains new m) → ((m : Member) → Contains new m → Contains mid m × (IsMemberBy fresh key m → IsMemberBy was key m)) → AreMembersOf routes new
  undone stays left m =
      let then : m.1 ≡ key → get routes m.1 ≡ was = λ same. ap (get routes) same ∙ stood in (
        λ c. elim (only m (left m c).0) [
          | inl had ↦ (are m).0 had
          | inr came ↦
              let by_was = (left m c).1 came in
              subst (λ (o : Option AdvertisedValue). IsIndexedUnder o m.1 m.0) (sym (then by_was.0)) (subst (λ (k : Key). IsIndexedUnder was k m.0) (sym by_was.0) by_was.1)
        ],
        λ of. stays m (kept m ((are m).1 of)) (λ by_fresh. (by_fresh.0, subst (λ (k : Key). IsIndexedUnder was k m.0) by_fresh.0 (subst (λ (o : Option AdvertisedValue). IsIndexedUnder o m.1 m.0) (then by_fresh.0) of))),
      )

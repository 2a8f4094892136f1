-- The routes to which the keys of groups lead, gathered key by key.
use Rattle.std.proofs.Common.{◌≡◌, ◌≢◌, ℕ, ◌<◌, List, [], ◌∷◌, ◌++◌, map, length, get_or, refl, sym, ap, subst, ◌∙◌, ◌⊎◌, inl, inr, arith}
use Rattle.std.specs.Prelude.{◌↔◌, Contains, Some, None}
use Rattle.std.specs.List.{AllPairs}
use Rattle.std.specs.FinMap.{get, find, from_entries, get-from_entries}
use Rattle.ospf_types.specs.declared.key.Dest.{Dest}
use Rattle.ospf_types.specs.declared.key.Key.{Key}
use Rattle.ospf_types.specs.declared.prefix.Prefix.{Prefix}
use Rattle.ospf_types.specs.Address.{HasAddress}
use Rattle.ospf_types.specs.Keys.{key_cmp}
use Rattle.std.proofs.lemmas.List.{get_or-map, length-map}
use Rattle.std.proofs.lemmas.List.Elements.{Contains-append_left, Contains-append_right, Contains-append_cases, Contains-get_or}
use Rattle.ospf_types.proofs.Elements.{no_element, first_element, later_element, first_or_later, mapped_element, mapped_from}
use Rattle.ospf_types.proofs.Orders.{key_total}
use Rattle.advertised_index.specs.AdvertisedRoute.{AdvertisedValue}
use Rattle.advertised_index.specs.Indexes.{AdvertisedByKey, OfferIndexValue, IsOfGroup, IsInGroup, GroupLeadsTo, IsForwardedTo, IsForwardedInto}
use Rattle.advertised_index.specs.declared.index_key.IndexKey.{IndexKey}
use Rattle.advertised_index.specs.LsasByKey.{AreMembersOf}
use Rattle.advertised_index.specs.KnownKeys.{HasKey}
use Rattle.advertised_index.proofs.Groups.{Member}

-- ---- the members of one group

module _ (routes : AdvertisedByKey) (ms : List Member) (i : OfferIndexValue) (is : record { routes = routes } ≡ i) (are : AreMembersOf routes ms) where
  -- a key of a group is in it
  pub listed_there : (group : IndexKey) (k : Key) → IsInGroup i group k → Contains ms (group, k)
  listed_there group k in_group = (are (group, k)).1 (in_group.0, ap (λ (j : OfferIndexValue). get j.routes k) is ∙ in_group.1, in_group.2)

  -- and only such keys
  pub listed_of : (group : IndexKey) (m : Member) → m.0 ≡ group → Contains ms m → IsInGroup i group m.1
  listed_of group m at c =
      let of = (are m).0 c in
      (of.0, ap (λ (j : OfferIndexValue). get j.routes m.1) (sym is) ∙ of.1, subst (λ (g : IndexKey). IsOfGroup g m.1 of.0) at of.2)

  -- some key of a group
  pub some_listed : (group : IndexKey) → HasKey ms group ↔ ((k : Key) × IsInGroup i group k)
  some_listed group = (λ has. (has.0, listed_of group (group, has.0) refl has.1), λ w. (w.0, listed_there group w.0 w.1))

-- where there are no routes, none stands anywhere
pub nothing_listed : (es : List (Key × AdvertisedValue)) (ms : List Member) → es ≡ [] → ms ≡ [] → AreMembersOf (from_entries es) ms
nothing_listed es ms none empty m = (
  λ c. absurd (no_element m (subst (λ (ns : List Member). Contains ns m) empty c)),
  λ of. absurd (let wrong : Some of.0 ≡ None = sym of.1 ∙ get-from_entries key_total es m.1 ∙ ap (find key_cmp m.1) none in cc),
)

module _ {X : Type 0} (R : Key → X → Type 0) where
  -- one of these keys gives it
  abbrev pub IsGiven : List Member → X → Type 0
  IsGiven ms x = (m : Member) × Contains ms m × R m.1 x

  -- what was there and what all give is here, but for what is left
  abbrev pub AreGathered : List X → List X → List Member → List Member → Type 0
  AreGathered before now all left = (x : X) → (Contains now x ⊎ IsGiven left x) ↔ (Contains before x ⊎ IsGiven all x)

  pub none_gathered : (before : List X) (all : List Member) → AreGathered before before all all
  none_gathered before all x = (λ h. h, λ h. h)

  pub one_gathered : (before now next : List X) (all left more : List Member) (m : Member) → left ≡ m ∷ more → AreGathered before now all left → ((x : X) → Contains next x ↔ (Contains now x ⊎ R m.1 x)) → AreGathered before next all more
  one_gathered before now next all left more m is are step x =
      let given : IsGiven (m ∷ more) x → Contains before x ⊎ IsGiven all x = λ w. (are x).0 (inr (subst (λ (ms : List Member). IsGiven ms x) (sym is) w)) in (
        λ h. elim h [
          | inl here ↦ elim ((step x).0 here) [ inl was ↦ (are x).0 (inl was) | inr new ↦ given (m, first_element m more, new) ]
          | inr later ↦ given (later.0, later_element m later.0 more later.1, later.2)
        ],
        λ h. elim ((are x).1 h) [
          | inl was ↦ inl ((step x).1 (inl was))
          | inr w ↦ elim (first_or_later m w.0 more (subst (λ (ms : List Member). Contains ms w.0) is w.1)) [
            | inl first ↦ inl ((step x).1 (inr (subst (λ (n : Member). R n.1 x) first w.2)))
            | inr later ↦ inr (w.0, later, w.2)
          ]
        ],
      )

  -- where nothing is left, and what all give is just what has this property
  pub all_gathered : (P : X → Type 0) (before now : List X) (all left : List Member) → left ≡ [] → AreGathered before now all left → ((x : X) → IsGiven all x → P x) → ((x : X) → P x → IsGiven all x)
      → (x : X) → Contains now x ↔ (Contains before x ⊎ P x)
  all_gathered P before now all left none are sound complete x = (
    λ c. elim ((are x).0 (inl c)) [ inl was ↦ inl was | inr w ↦ inr (sound x w) ],
    λ h.
        let back : (Contains before x ⊎ IsGiven all x) → Contains now x =
        λ w. elim ((are x).1 w) [ inl c ↦ c | inr left_over ↦ absurd (no_element left_over.0 (subst (λ (ms : List Member). Contains ms left_over.0) none left_over.1)) ] in
        elim h [ inl was ↦ back (inl was) | inr p ↦ back (inr (complete x p)) ],
  )

-- in one group no key occurs twice
pub keys_apart : (group : IndexKey) (all : List Member) → ((m : Member) → Contains all m → m.0 ≡ group) → AllPairs (λ m n. m ≢ n) all → AllPairs (λ j k. j ≢ k) (map (λ (m : Member). m.1) all)
keys_apart group all in_group apart a b d lt within =
    let long = length-map all (λ (m : Member). m.1) in
    let at : (n : ℕ) → n < length all → get_or (map (λ (m : Member). m.1) all) n d ≡ (get_or all n (group, d)).1 = λ n lt. get_or-map (λ (m : Member). m.1) all n (group, d) d lt in
    let inside : b < length all = omega (arith, within, long) in
    let before : a < length all = omega (arith, lt, inside) in
    λ same.
    apart a b (group, d) lt inside (λ i. (
      (in_group (get_or all a (group, d)) (Contains-get_or all a (group, d) before) ∙ sym (in_group (get_or all b (group, d)) (Contains-get_or all b (group, d) inside))) i,
      (sym (at a before) ∙ same ∙ at b inside) i,
    ))

-- ---- what each key gives

module _ (i : OfferIndexValue) where
  abbrev pub GivesDest : Key → Dest → Type 0
  GivesDest key dest = (a : AdvertisedValue) × (get i.routes key ≡ Some a) × (a.dest ≡ dest)

  -- all members of the group, and no others
  module _ (group : IndexKey) (all : List Member) (there : (k : Key) → IsInGroup i group k → Contains all (group, k)) (only : (m : Member) → Contains all m → IsInGroup i group m.1) where
    abbrev pub keys_in : List Member → List Key
    keys_in ms = map (λ (m : Member). m.1) ms

    pub keys_given : (before now : List Key) → now ≡ before ++ keys_in all → (k : Key) → Contains now k ↔ (Contains before k ⊎ IsInGroup i group k)
    keys_given before now is k = (
      λ c. elim (Contains-append_cases before (keys_in all) k (subst (λ (ks : List Key). Contains ks k) is c)) [
        | inl was ↦ inl was
        | inr new ↦ let m = mapped_from (λ (m : Member). m.1) all k new in inr (subst (IsInGroup i group) m.2 (only m.0 m.1))
      ],
      λ h. subst (λ (ks : List Key). Contains ks k) (sym is) (elim h [
        | inl was ↦ Contains-append_left before (keys_in all) k was
        | inr in_group ↦ Contains-append_right before (keys_in all) k (mapped_element (λ (m : Member). m.1) all (group, k) (there k in_group))
      ]),
    )

    pub dests_given : (before now : List Dest) (left : List Member) → left ≡ [] → AreGathered GivesDest before now all left → (d : Dest) → Contains now d ↔ (Contains before d ⊎ GroupLeadsTo i group d)
    dests_given before now left none are =
        all_gathered GivesDest (GroupLeadsTo i group) before now all left none are
        (λ d w.
        let in_group = only w.0 w.1 in
        let both : Some in_group.0 ≡ Some w.2.0 = sym in_group.1 ∙ w.2.1 in
        let same : in_group.0 ≡ w.2.0 = cc in
        (w.0.1, w.2.0, w.2.1, subst (λ (a : AdvertisedValue). IsOfGroup group w.0.1 a) same in_group.2, w.2.2))
        (λ d to. ((group, to.0), there to.0 (to.1, to.2, to.3), (to.1, to.2, to.4)))

-- ---- the forwarding addresses of a network

module _ (network : Prefix) where
  -- what was there is here, and of all addresses those in the network, but for what is left
  abbrev pub AreInside : List ℕ → List ℕ → List ℕ → List ℕ → Type 0
  AreInside before now all left = (a : ℕ) → (Contains now a ⊎ (Contains left a × HasAddress network a)) ↔ (Contains before a ⊎ (Contains all a × HasAddress network a))

  pub one_inside : (before now next all left more : List ℕ) (n : ℕ) → left ≡ n ∷ more → AreInside before now all left → ((a : ℕ) → Contains next a ↔ (Contains now a ⊎ ((a ≡ n) × HasAddress network a))) → AreInside before next all more
  one_inside before now next all left more n is are step a =
      let given : Contains (n ∷ more) a → HasAddress network a → Contains before a ⊎ (Contains all a × HasAddress network a) =
      λ c inside. (are a).0 (inr (subst (λ (ns : List ℕ). Contains ns a) (sym is) c, inside)) in (
        λ h. elim h [
          | inl here ↦ elim ((step a).0 here) [ inl was ↦ (are a).0 (inl was) | inr new ↦ given (subst (λ (m : ℕ). Contains (m ∷ more) a) new.0 (first_element a more)) new.1 ]
          | inr later ↦ given (later_element n a more later.0) later.1
        ],
        λ h. elim ((are a).1 h) [
          | inl was ↦ inl ((step a).1 (inl was))
          | inr w ↦ elim (first_or_later n a more (subst (λ (ns : List ℕ). Contains ns a) is w.0)) [
            | inl first ↦ inl ((step a).1 (inr (first, w.1)))
            | inr later ↦ inr (later, w.1)
          ]
        ],
      )

  pub all_inside : (i : OfferIndexValue) (before now all left : List ℕ) → left ≡ [] → AreInside before now all left → ((a : ℕ) → Contains all a → IsForwardedTo i a) → ((a : ℕ) → IsForwardedInto i network a → Contains all a)
      → (a : ℕ) → Contains now a ↔ (Contains before a ⊎ IsForwardedInto i network a)
  all_inside i before now all left none are only there a = (
    λ c. elim ((are a).0 (inl c)) [ inl was ↦ inl was | inr w ↦ inr (only a w.0, w.1) ],
    λ h.
        let back : (Contains before a ⊎ (Contains all a × HasAddress network a)) → Contains now a =
        λ w. elim ((are a).1 w) [ inl c ↦ c | inr left_over ↦ absurd (no_element a (subst (λ (ns : List ℕ). Contains ns a) none left_over.0)) ] in
        elim h [ inl was ↦ back (inl was) | inr to ↦ back (inr (there a to, to.1)) ],
  )

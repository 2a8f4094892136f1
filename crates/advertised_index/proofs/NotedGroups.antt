-- Which groups are noted, kind by kind, and which have a key.
use Rattle.std.proofs.Common.{◌≡◌, ◌≢◌, ◌⊎◌, ℕ, ◌≤◌, Bool, true, false, true≢false, not, List, [], ◌∷◌, length, inl, inr, refl, sym, ap, subst, ◌∙◌, arith}
use Rattle.std.specs.Prelude.{◌↔◌, IsTrue, Contains}
use Rattle.std.specs.declared.ops.Bound.TheVariants.{Included}
use Rattle.std.specs.Ordering.{nat_cmp, is_le, is_lt, is_eq, eq_by_cmp}
use Rattle.std.specs.BTreeMap.Range.{range_contains}
use Rattle.std.proofs.lemmas.Map.Views.{tells_apart}
use Rattle.ospf_types.specs.declared.key.Dest.{Dest}
use Rattle.ospf_types.specs.declared.key.Key.{Key}
use Rattle.ospf_types.proofs.Elements.{no_element, first_element}
use Rattle.advertised_index.specs.declared.index_key.IndexKey.{IndexKey}
use Rattle.advertised_index.specs.declared.index_key.IndexKey.TheVariants.{To, By, Forwarded}
use Rattle.advertised_index.specs.declared.known_keys.KnownKeys.{KnownKeys}
use Rattle.advertised_index.specs.KnownKeys.{IsNotable, IsNoted, HasKey, AreNoted, AreNotedBut}
use Rattle.advertised_index.proofs.Groups.{Member, derived_cmp, derived_exact, derived_ties}
use Rattle.advertised_index.proofs.MemberLists.{both, from_both}

module _ (old new : KnownKeys) where
  pub kept_each : ((d : Dest) → Contains old.dests.keys d → Contains new.dests.keys d) → ((a : ℕ) → Contains old.addresses.keys a → Contains new.addresses.keys a) → (g : IndexKey) → IsNoted old g → IsNoted new g
  kept_each dests addresses (To d) c = dests d c
  kept_each dests addresses (By r) c = absurd c
  kept_each dests addresses (Forwarded a) c = addresses a c

  module _ (group : IndexKey) where
    pub only_each : ((d : Dest) → Contains new.dests.keys d → Contains old.dests.keys d ⊎ (To d ≡ group)) → ((a : ℕ) → Contains new.addresses.keys a → Contains old.addresses.keys a ⊎ (Forwarded a ≡ group))
        → (g : IndexKey) → IsNoted new g → IsNoted old g ⊎ (g ≡ group)
    only_each dests addresses (To d) c = dests d c
    only_each dests addresses (By r) c = absurd c
    only_each dests addresses (Forwarded a) c = addresses a c

    pub left_each : ((d : Dest) → Contains old.dests.keys d → To d ≢ group → Contains new.dests.keys d) → ((a : ℕ) → Contains old.addresses.keys a → Forwarded a ≢ group → Contains new.addresses.keys a)
        → (g : IndexKey) → IsNoted old g → g ≢ group → IsNoted new g
    left_each dests addresses (To d) c other = dests d c other
    left_each dests addresses (By r) c other = absurd c
    left_each dests addresses (Forwarded a) c other = addresses a c other

-- none
pub none_noted : (n : KnownKeys) → n.dests.keys ≡ [] → n.addresses.keys ≡ [] → (g : IndexKey) → IsNoted n g → ⊥
none_noted n dests addresses (To d) c = no_element d (subst (λ (ds : List Dest). Contains ds d) dests c)
none_noted n dests addresses (By r) c = c
none_noted n dests addresses (Forwarded a) c = no_element a (subst (λ (ns : List ℕ). Contains ns a) addresses c)

-- nothing is in a list of no length
pub none_in : {X : Type 0} (xs : List X) → length xs ≡ 0 → (x : X) → Contains xs x → ⊥
none_in [] none x c = no_element x c
none_in (y ∷ ys) none x c = absurd (omega (arith, none))

-- some
pub some_number : (ns : List ℕ) (empty : Bool) → IsTrue empty ↔ (length ns ≡ 0) → IsTrue (not empty) ↔ ((a : ℕ) × Contains ns a)
some_number [] true is = (λ wrong. absurd (let e : false ≡ true = wrong in cc), λ w. absurd (no_element w.0 w.1))
some_number [] false is = absurd (true≢false (sym (is.1 refl)))
some_number (n ∷ ns) true is = absurd (omega (arith, is.0 refl))
some_number (n ∷ ns) false is = (λ _. (n, first_element n ns), λ _. refl)

-- ---- the numbers between two

module _ (lo hi a : ℕ) where
  pub number_between : lo ≤ a → a ≤ hi → range_contains nat_cmp (Included lo) (Included hi) a ≡ true
  number_between after before = both (is_le (nat_cmp lo a)) (is_lt (nat_cmp hi a)) (grind (arith, after)) (grind (arith, before))

  pub between_number : range_contains nat_cmp (Included lo) (Included hi) a ≡ true → (lo ≤ a) × (a ≤ hi)
  between_number in_range =
      let parts = from_both (is_le (nat_cmp lo a)) (is_lt (nat_cmp hi a)) in_range in
      (grind (arith, parts.0), grind (arith, parts.1))

-- ---- which groups have a key

-- what is noted is a group that can be
pub notable : (n : KnownKeys) (g : IndexKey) → IsNoted n g → IsNotable g
notable n (To d) c = tt
notable n (By r) c = absurd c
notable n (Forwarded a) c = tt

-- where no key stands
pub none_there : (ms : List Member) (n : KnownKeys) → ms ≡ [] → ((g : IndexKey) → IsNoted n g → ⊥) → AreNoted ms n
none_there ms n none nothing g can = (λ noted. absurd (nothing g noted), λ has. absurd (no_element (g, has.0) (subst (λ (ns : List Member). Contains ns (g, has.0)) none has.1)))

-- the same groups are noted
pub same_noted : (ms : List Member) (n m : KnownKeys) → AreNoted ms n → ((g : IndexKey) → IsNoted n g → IsNoted m g) → ((g : IndexKey) → IsNoted m g → IsNoted n g) → AreNoted ms m
same_noted ms n m are kept only g can = (λ noted. (are g can).0 (only g noted), λ has. kept g ((are g can).1 has))

module _ (old new : List Member) (n m : KnownKeys) (group : IndexKey) (key : Key) (are : AreNoted old n) where
  module _ (kept : (g : IndexKey) → IsNoted n g → IsNoted m g) (only : (g : IndexKey) → IsNoted m g → IsNoted n g ⊎ (g ≡ group)) where
    -- the group is noted, and may have no key yet
    pub noted_ahead : AreNotedBut group old m
    noted_ahead = record {
      all = λ g can has. kept g ((are g can).1 has);
      only = λ g noted. elim (only g noted) [ inl was ↦ inl ((are g (notable n g was)).0 was) | inr is ↦ inr is ];
    }

    -- the group is noted, and has the key
    pub noted_with : (IsNotable group → IsNoted m group) → ((x : Member) → Contains old x → Contains new x) → ((x : Member) → Contains new x → Contains old x ⊎ (x ≡ (group, key))) → Contains new (group, key) → AreNoted new m
    noted_with noted stays came there g can = (
      λ is_noted. elim (only g is_noted) [
        | inl was ↦ let has = (are g can).0 was in (has.0, stays (g, has.0) has.1)
        | inr is ↦ (key, subst (λ (h : IndexKey). Contains new (h, key)) (sym is) there)
      ],
      λ has. elim (came (g, has.0) has.1) [
        | inl was ↦ kept g ((are g can).1 (has.0, was))
        | inr is ↦
            let same : g ≡ group = ap (λ (x : Member). x.0) is in
            subst (IsNoted m) (sym same) (noted (subst IsNotable same can))
      ],
    )

  -- the key is gone, so that the group may have none
  pub noted_without : ((x : Member) → Contains old x → (x ≡ (group, key) → ⊥) → Contains new x) → ((x : Member) → Contains new x → Contains old x) → AreNotedBut group new n
  noted_without stays was = record {
    all = λ g can has. (are g can).1 (has.0, was (g, has.0) has.1);
    only = λ g noted.
        let has = (are g (notable n g noted)).0 noted in
        elim (eq_by_cmp derived_cmp (g, has.0) (group, key)) as (λ b. eq_by_cmp derived_cmp (g, has.0) (group, key) ≡ b → HasKey new g ⊎ (g ≡ group)) [
          | true ↦ λ tied. inr (ap (λ (x : Member). x.0) (tells_apart derived_exact (g, has.0) (group, key) tied))
          | false ↦ λ apart. inl (
            has.0,
            stays (g, has.0) has.1 (λ is.
                true≢false (sym (subst (λ (x : Member). eq_by_cmp derived_cmp (g, has.0) x ≡ true) is (ap is_eq (derived_ties (g, has.0)))) ∙ apart)),
          )
        ] refl;
  }

module _ (ms : List Member) (n : KnownKeys) (group : IndexKey) (but : AreNotedBut group ms n) where
  -- the group has a key
  pub noted_right : HasKey ms group → AreNoted ms n
  noted_right has g can = (
    λ noted. elim (but.only g noted) [ inl there ↦ there | inr is ↦ subst (HasKey ms) (sym is) has ],
    λ there. but.all g can there,
  )

  -- the group has none, and is forgotten
  pub noted_gone : (m : KnownKeys) → (HasKey ms group → ⊥) → (IsNoted m group → ⊥) → ((g : IndexKey) → IsNoted m g → IsNoted n g) → ((g : IndexKey) → IsNoted n g → g ≢ group → IsNoted m g) → AreNoted ms m
  noted_gone m none gone only kept g can = (
    λ noted. elim (but.only g (only g noted)) [ inl there ↦ there | inr is ↦ absurd (gone (subst (IsNoted m) is noted)) ],
    λ there. kept g (but.all g can there) (λ is. none (subst (HasKey ms) is there)),
  )

-- what is noted of the keys, seen otherwise
pub noted_just : (ms ns : List Member) (n : KnownKeys) → AreNoted ms n → ms ≡ ns → (g : IndexKey) → IsNotable g → IsNoted n g ↔ HasKey ns g
noted_just ms ns n are is g can = subst (λ (ks : List Member). IsNoted n g ↔ HasKey ks g) is (are g can)

-- the addresses whose groups have a key
pub addresses_just : (ms ns : List Member) (n : KnownKeys) → AreNoted ms n → ms ≡ ns → (some : Bool) → IsTrue some ↔ ((a : ℕ) × IsNoted n (Forwarded a)) → IsTrue some ↔ ((a : ℕ) × HasKey ns (Forwarded a))
addresses_just ms ns n are is some of = (
  λ yes. let w = of.0 yes in (w.0, (noted_just ms ns n are is (Forwarded w.0) tt).0 w.1),
  λ w. of.1 (w.0, (noted_just ms ns n are is (Forwarded w.0) tt).1 w.1),
)

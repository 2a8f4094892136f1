-- What holds of the databases of every state.
use Rattle.std.proofs.Common.{◌≡◌, ℕ, ◌+◌, ◌<◌, ◌≤◌, zero, suc, true, false, cond, List, [], ◌∷◌, ◌++◌, length, map, get_or, set, Option, Some, None, refl, sym, ap, subst, ◌∙◌, arith, inl, inr}
use Rattle.std.specs.Prelude.{option_map}
use Rattle.std.specs.declared.cmp.Ordering.TheVariants.{Less, Equal, Greater}
use Rattle.std.specs.Ordering.{nat_cmp, eq_by_cmp, is_eq}
use Rattle.std.specs.Cmp.{nat_cmp_total}
use Rattle.std.proofs.Common.{BTreeMap}
use Rattle.std.specs.BTreeMap.{IsOrdered}
use Rattle.std.specs.FinMap.{empty, get, insert, remove, len, get-empty, get-insert, get-remove, entries, from_entries}
use Rattle.std.proofs.lemmas.Bool.{cases_eq}
use Rattle.std.proofs.lemmas.List.{length-map, length-set, length-append, get_or-set_same, get_or-set_other}
use Rattle.ospf_types.specs.declared.config.AreaConfig.{AreaConfig}
use Rattle.ospf_types.specs.declared.config.Config.{Config}
use Rattle.ospf_types.specs.declared.config.Interface.{Interface}
use Rattle.ospf_types.specs.declared.key.Key.{Key}
use Rattle.ospf_types.specs.declared.key.Scope.{Scope}
use Rattle.ospf_types.specs.declared.key.Scope.TheVariants as scope
use Rattle.ospf_types.specs.Keys.{key_cmp}
use Rattle.ospf_types.specs.Lsa.{Lsa, MaxAge, key_of}
use Rattle.ospf_types.proofs.Orders.{key_total, key_exact}
use Rattle.lsa_codec.specs.Spelling.{IsLegal}
use Rattle.lsa_codec.specs.Readers.{with_age}
use Rattle.lsdb.specs.Databases.{Database, DatabaseValue, aged, all_aged, aged_out, changed_at}
use Rattle.lsa_codec.proofs.Ages.{IsLegal-with_age}
use Rattle.event_state.proofs.Aging.{get-all_aged, all_aged_empty}
use Rattle.event_state.specs.declared.limits.Limits.{Limits}
use Rattle.event_state.specs.Changes.{lsas_in, limits_in, empty_values, aged_value}
use Rattle.event_state.specs.States.{AreAreasApart, place_of}
use Rattle.event_state.specs.Held.{IsHeld, IsFit, AreFit, AreKept, AreLimited, AreWithinLimits}
use Rattle.event_state.specs.Steps.{is_out_of_scope}
use Rattle.ospf_types.proofs.Maps.{entries-from_entries}
use Rattle.event_state.proofs.Places.{place_within, places_apart, area_at}
use Rattle.event_state.proofs.OneChange.{mapped_at}
use Rattle.event_state.proofs.Sizes.{none_empty, len-all_aged}

-- the interfaces of a state, as the tree has them
pub entries-interfaces : (m : BTreeMap ℕ Interface) → IsOrdered nat_cmp m → entries (from_entries {R = nat_cmp} m.entries) ≡ m.entries
entries-interfaces m h = entries-from_entries nat_cmp_total m.entries h

-- ---- what may be in a scope's database

-- an LSA that may are under the key
pub record IsWelcome (at : Scope) (k : Key) (l : Lsa) : Type 0 where
  pub own : k ≡ key_of l
  pub legal : IsLegal l
  pub placed : is_out_of_scope at l.header.kind ≡ false

pub welcome : (at : Scope) (d : Database) → IsFit at d → (k : Key) (l : Lsa) → get d k ≡ Some l → IsWelcome at k l
welcome at d fit k l e = record { own = fit.sound.under_own_key k l e; legal = fit.sound.legal k l e; placed = fit.placed k l e }

-- a database is fit where each of its LSAs is welcome
fit_of : (at : Scope) (d : Database) → ((k : Key) (l : Lsa) → get d k ≡ Some l → IsWelcome at k l) → IsFit at d
fit_of at d all = record {
  sound = record { under_own_key = λ k l e. (all k l e).own; legal = λ k l e. (all k l e).legal };
  placed = λ k l e. (all k l e).placed;
}

pub fit_empty : (at : Scope) → IsFit at empty
fit_empty at = fit_of at empty (λ k l e. absurd (cc (get-empty key_cmp k)))

inserted : (at : Scope) (d : Database) (key : Key) (l : Lsa) → IsFit at d → IsWelcome at key l → (k : Key) (m : Lsa) → cond (eq_by_cmp key_cmp k key) (Some l) (get d k) ≡ Some m → IsWelcome at k m
inserted at d key l fit new k m e =
    elim (key_cmp k key) as (λ o. key_cmp k key ≡ o → cond (is_eq o) (Some l) (get d k) ≡ Some m → IsWelcome at k m) [
      | Less ↦ λ t is. welcome at d fit k m is
      | Equal ↦ λ t is. let same : l ≡ m = cc in subst (λ (q : Key). IsWelcome at q m) (sym (key_exact k key t)) (subst (IsWelcome at key) same new)
      | Greater ↦ λ t is. welcome at d fit k m is
    ] refl e

pub fit_insert : (at : Scope) (d : Database) (key : Key) (l : Lsa) → IsFit at d → IsWelcome at key l → IsFit at (insert d key l)
fit_insert at d key l fit new = fit_of at (insert d key l) (λ k m e. inserted at d key l fit new k m (sym (get-insert key_total d key l k) ∙ e))

-- an LSA is welcome at any age that an LSA may have
later_welcome : (at : Scope) (k : Key) (l : Lsa) (age : ℕ) → age ≤ MaxAge → IsWelcome at k l → IsWelcome at k (with_age l age)
later_welcome at k l age le w = record { own = w.own; legal = IsLegal-with_age l age w.legal le; placed = w.placed }

pub fit_aged_out : (at : Scope) (d : Database) (key : Key) → IsFit at d → IsFit at (aged_out d key)
fit_aged_out at d key fit =
    elim (get d key) as (λ o. get d key ≡ o → IsFit at (changed_at d key (λ l. with_age l MaxAge) o)) [
      | None ↦ λ e. fit
      | Some l ↦ λ e. fit_insert at d key (with_age l MaxAge) fit (later_welcome at key l MaxAge (omega arith) (welcome at d fit key l e))
    ] refl

removed : (at : Scope) (d : Database) (key k : Key) (m : Lsa) → IsFit at d → cond (eq_by_cmp key_cmp k key) None (get d k) ≡ Some m → IsWelcome at k m
removed at d key k m fit e =
    elim (eq_by_cmp key_cmp k key) as (λ b. cond b None (get d k) ≡ Some m → IsWelcome at k m) [
      | true ↦ λ is. absurd cc
      | false ↦ λ is. welcome at d fit k m is
    ] e

pub fit_remove : (at : Scope) (d : Database) (key : Key) → IsFit at d → IsFit at (remove d key)
fit_remove at d key fit = fit_of at (remove d key) (λ k m e. removed at d key k m fit (sym (get-remove key_total d key k) ∙ e))

aged_welcome : (at : Scope) (d : Database) → IsFit at d → (k : Key) (m : Lsa) (o : Option Lsa) → get d k ≡ o → option_map aged o ≡ Some m → IsWelcome at k m
aged_welcome at d fit k m None has e = absurd cc
aged_welcome at d fit k m (Some l) has e = let same : aged l ≡ m = cc in subst (IsWelcome at k) same (later_welcome at k l _ (omega arith) (welcome at d fit k l has))

pub fit_all_aged : (at : Scope) (d : Database) → IsFit at d → IsFit at (all_aged d)
fit_all_aged at d fit = fit_of at (all_aged d) (λ k m e. aged_welcome at d fit k m (get d k) refl (sym (get-all_aged d k) ∙ e))

-- ---- the opening state

front_same : {X : Type 0} (areas : List AreaConfig) (x y d : X) (k : ℕ) → k < length areas → get_or (map (λ (a : AreaConfig). x) areas ++ y ∷ []) k d ≡ x
front_same [] x y d k lt = absurd (omega arith)
front_same (a ∷ areas) x y d zero lt = refl
front_same (a ∷ areas) x y d (suc k) lt = front_same areas x y d k (omega arith)

last_same : {X : Type 0} (areas : List AreaConfig) (x y d : X) → get_or (map (λ (a : AreaConfig). x) areas ++ y ∷ []) (length areas) d ≡ y
last_same [] x y d = refl
last_same (a ∷ areas) x y d = last_same areas x y d

pub lsas_of_empty : (areas : List AreaConfig) (limits : Limits) → lsas_in (empty_values areas limits) ≡ map (λ (a : AreaConfig). empty) areas ++ empty ∷ []
lsas_of_empty [] limits = refl
lsas_of_empty (a ∷ areas) limits = ap (λ (ds : List Database). empty ∷ ds) (lsas_of_empty areas limits)

limits_of_empty : (areas : List AreaConfig) (limits : Limits) → limits_in (empty_values areas limits) ≡ map (λ (a : AreaConfig). limits.area_lsas) areas ++ limits.externals ∷ []
limits_of_empty [] limits = refl
limits_of_empty (a ∷ areas) limits = ap (λ (ns : List ℕ). limits.area_lsas ∷ ns) (limits_of_empty areas limits)

limited_new : (areas : List AreaConfig) (limits : Limits) → AreLimited areas limits (map (λ (a : AreaConfig). limits.area_lsas) areas ++ limits.externals ∷ [])
limited_new areas limits (scope.Area id) k e = front_same areas limits.area_lsas limits.externals 0 k (area_at areas id k e).0
limited_new areas limits scope.As k e =
    let last : length areas ≡ k = cc in
    ap (λ (j : ℕ). get_or (map (λ (a : AreaConfig). limits.area_lsas) areas ++ limits.externals ∷ []) j 0) (sym last) ∙ last_same areas limits.area_lsas limits.externals 0

fit_new : (areas : List AreaConfig) (at : Scope) (k : ℕ) → place_of areas at ≡ Some k → IsFit at (get_or (map (λ (a : AreaConfig). empty) areas ++ empty ∷ []) k empty)
fit_new areas (scope.Area id) k e = subst (IsFit (scope.Area id)) (sym (front_same areas empty empty empty k (area_at areas id k e).0)) (fit_empty (scope.Area id))
fit_new areas scope.As k e =
    let last : length areas ≡ k = cc in
    let is : get_or (map (λ (a : AreaConfig). empty) areas ++ empty ∷ []) k empty ≡ empty = ap (λ (j : ℕ). get_or (map (λ (a : AreaConfig). empty) areas ++ empty ∷ []) j empty) (sym last) ∙ last_same areas empty empty empty in
    subst (IsFit scope.As) (sym is) (fit_empty scope.As)

places_new : (areas : List AreaConfig) → length (map (λ (a : AreaConfig). let none : Database = empty in none) areas ++ empty ∷ []) ≡ length areas + 1
places_new areas = length-append _ _ ∙ ap (λ (n : ℕ). n + 1) (length-map areas (λ (a : AreaConfig). empty))

all_empty : (areas : List AreaConfig) (k : ℕ) → get_or (map (λ (a : AreaConfig). let none : Database = empty in none) areas ++ empty ∷ []) k empty ≡ empty
all_empty [] zero = refl
all_empty [] (suc k) = refl
all_empty (a ∷ areas) zero = refl
all_empty (a ∷ areas) (suc k) = all_empty areas k

pub held_new : (config : Config) (limits : Limits) (ds : List DatabaseValue) → ds ≡ empty_values config.areas limits → IsHeld config limits ds
held_new config limits ds is =
    let lsas : lsas_in ds ≡ map (λ (a : AreaConfig). empty) config.areas ++ empty ∷ [] = ap lsas_in is ∙ lsas_of_empty config.areas limits in
    let most : limits_in ds ≡ map (λ (a : AreaConfig). limits.area_lsas) config.areas ++ limits.externals ∷ [] = ap limits_in is ∙ limits_of_empty config.areas limits in
    record {
      kept = subst (AreKept config.areas) (sym lsas) (record { places = places_new config.areas; fit = λ at k e. fit_new config.areas at k e; reached = λ k lt. inr (all_empty config.areas k) });
      limited = subst (AreLimited config.areas limits) (sym most) (limited_new config.areas limits);
      within = subst (λ (d : List Database). AreWithinLimits d (limits_in ds)) (sym lsas) (λ k. omega (arith, ap len (all_empty config.areas k) ∙ none_empty));
    }

-- ---- a change to one database

kept_changed : (areas : List AreaConfig) (ds : List Database) (at : Scope) (k : ℕ) (d : Database) → AreKept areas ds → place_of areas at ≡ Some k → IsFit at d → AreKept areas (set ds k d)
kept_changed areas ds at k d h place new = record {
  reached = λ j lt.
      elim (cases_eq j k) [
        | inl same ↦ inl (at, place ∙ ap Some (sym same))
        | inr differs ↦ elim (h.reached j (omega (arith, lt, length-set ds k d))) [
          | inl there ↦ inl there
          | inr none ↦ inr (get_or-set_other ds k j d empty differs ∙ none)
        ]
      ];
  places = length-set ds k d ∙ h.places;
  fit = λ other j e.
      elim (cases_eq j k) [
        | inl same ↦
            let lt : k < length ds = omega (arith, place_within areas at k place, h.places) in
            let here : get_or (set ds k d) j empty ≡ d = ap (λ (i : ℕ). get_or (set ds k d) i empty) same ∙ get_or-set_same ds k d empty lt in
            let there : place_of areas other ≡ Some k = e ∙ ap Some same in
            let scope : at ≡ other = places_apart areas at other k place there in
            subst (λ (x : Scope). IsFit x (get_or (set ds k d) j empty)) scope (subst (IsFit at) (sym here) new)
        | inr differs ↦ subst (IsFit other) (sym (get_or-set_other ds k j d empty differs)) (h.fit other j e)
      ];
}

within_changed : (ds : List Database) (most : List ℕ) (k : ℕ) (d : Database) → k < length ds → AreWithinLimits ds most → len d ≤ get_or most k 0 → AreWithinLimits (set ds k d) most
within_changed ds most k d lt h small j =
    elim (cases_eq j k) [
      | inl same ↦
          let here : get_or (set ds k d) j empty ≡ d = ap (λ (i : ℕ). get_or (set ds k d) i empty) same ∙ get_or-set_same ds k d empty lt in
          omega (arith, ap len here, small, ap (λ (i : ℕ). get_or most i 0) same)
      | inr differs ↦ omega (arith, ap len (get_or-set_other ds k j d empty differs), h j)
    ]

pub held_change : (config : Config) (limits : Limits) (ds new : List DatabaseValue) (at : Scope) (k : ℕ) (change : Database → Database) → IsHeld config limits ds → place_of config.areas at ≡ Some k
    → (IsFit at (get_or (lsas_in ds) k empty) → IsFit at (change (get_or (lsas_in ds) k empty))) → len (change (get_or (lsas_in ds) k empty)) ≤ get_or (limits_in ds) k 0
    → lsas_in new ≡ set (lsas_in ds) k (change (get_or (lsas_in ds) k empty)) → limits_in new ≡ limits_in ds → IsHeld config limits new
held_change config limits ds new at k change h place keeps small lsas most = record {
  kept = subst (AreKept config.areas) (sym lsas) (kept_changed config.areas (lsas_in ds) at k _ h.kept place (keeps (h.kept.fit at k place)));
  limited = subst (AreLimited config.areas limits) (sym most) h.limited;
  within =
      let changed = within_changed (lsas_in ds) (limits_in ds) k (change (get_or (lsas_in ds) k empty)) (omega (arith, place_within config.areas at k place, h.kept.places)) h.within small in
      subst (λ (list : List Database). AreWithinLimits list (limits_in new)) (sym lsas) (subst (AreWithinLimits (set (lsas_in ds) k (change (get_or (lsas_in ds) k empty)))) (sym most) changed);
}

-- ---- a second

pub lsas_later : (ds : List DatabaseValue) → lsas_in (map aged_value ds) ≡ map all_aged (lsas_in ds)
lsas_later [] = refl
lsas_later (d ∷ ds) = ap (λ (es : List Database). all_aged d.lsas ∷ es) (lsas_later ds)

limits_later : (ds : List DatabaseValue) → limits_in (map aged_value ds) ≡ limits_in ds
limits_later [] = refl
limits_later (d ∷ ds) = ap (λ (ns : List ℕ). d.limit ∷ ns) (limits_later ds)

kept_later : (areas : List AreaConfig) (ds : List Database) → AreKept areas ds → AreKept areas (map all_aged ds)
kept_later areas ds h = record {
  reached = λ k lt.
      elim (h.reached k (omega (arith, lt, length-map ds all_aged))) [
        | inl there ↦ inl there
        | inr none ↦
            let empty_too : all_aged empty ≡ empty = all_aged_empty in
            inr (ap (get_or (map all_aged ds) k) (sym empty_too) ∙ mapped_at all_aged ds k empty ∙ ap all_aged none ∙ empty_too)
      ];
  places = length-map ds all_aged ∙ h.places;
  fit = λ at k e.
      let none : all_aged empty ≡ empty = all_aged_empty in
      let is : get_or (map all_aged ds) k empty ≡ all_aged (get_or ds k empty) = ap (get_or (map all_aged ds) k) (sym none) ∙ mapped_at all_aged ds k empty in
      subst (IsFit at) (sym is) (fit_all_aged at (get_or ds k empty) (h.fit at k e));
}

within_later : (ds : List DatabaseValue) → AreWithinLimits (lsas_in ds) (limits_in ds) → AreWithinLimits (lsas_in (map aged_value ds)) (limits_in (map aged_value ds))
within_later ds h k =
    let none : all_aged empty ≡ empty = all_aged_empty in
    let is : get_or (map all_aged (lsas_in ds)) k empty ≡ all_aged (get_or (lsas_in ds) k empty) = ap (get_or (map all_aged (lsas_in ds)) k) (sym none) ∙ mapped_at all_aged (lsas_in ds) k empty in
    let lens : len (get_or (lsas_in (map aged_value ds)) k empty) ≡ len (get_or (lsas_in ds) k empty) =
    ap (λ (list : List Database). len (get_or list k empty)) (lsas_later ds) ∙ ap len is ∙ len-all_aged (get_or (lsas_in ds) k empty) in
    omega (arith, lens, h k, ap (λ (list : List ℕ). get_or list k 0) (limits_later ds))

pub held_later : (config : Config) (limits : Limits) (ds : List DatabaseValue) → IsHeld config limits ds → IsHeld config limits (map aged_value ds)
held_later config limits ds h = record {
  kept = subst (AreKept config.areas) (sym (lsas_later ds)) (kept_later config.areas (lsas_in ds) h.kept);
  limited = subst (AreLimited config.areas limits) (sym (limits_later ds)) h.limited;
  within = within_later ds h.within;
}

-- ---- areas of different Area IDs

pub fit_apart : (areas : List AreaConfig) (ds : List Database) → AreKept areas ds → AreAreasApart areas → AreFit areas ds
fit_apart areas ds h apart = record { apart = apart; places = h.places; fit = h.fit }

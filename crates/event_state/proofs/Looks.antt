-- When the usable LSAs, the interfaces and the configuration of a state belong to the state before.
use Rattle.std.proofs.Common.{◌≡◌, ℕ, ◌<◌, Bool, true, false, cond, List, length, map, get_or, set, Option, Some, None, All, refl, sym, ap, subst, ◌∙◌, arith, inl, inr}
use Rattle.std.specs.Prelude.{Result, Ok, Err, IfOk, nat_lt, option_and_then, option_map, ◌↔◌}
use Rattle.std.specs.Ordering.{nat_cmp, is_eq}
use Rattle.std.specs.Cmp.{nat_cmp_total, tied_itself}
use Rattle.std.specs.declared.cmp.Ordering.TheVariants.{Less, Equal, Greater}
use Rattle.std.specs.FinMap.{FinMap, get, insert, remove, empty, get-insert, get-remove, same_map, nat_cmp-IsAntisymmetric}
use Rattle.std.proofs.lemmas.Bool.{cases_eq}
use Rattle.std.proofs.lemmas.List.{get_or-map, get_or-set_same, get_or-set_other, get_or_default, length-map}
use Rattle.std.proofs.lemmas.List.Elements.{All-map}
use Rattle.ospf_types.specs.declared.config.AreaConfig.{AreaConfig}
use Rattle.ospf_types.specs.declared.config.Config.{Config}
use Rattle.ospf_types.specs.declared.config.Interface.{Interface}
use Rattle.ospf_types.specs.declared.config.Range.{Range}
use Rattle.ospf_types.specs.declared.key.Key.{Key}
use Rattle.ospf_types.specs.declared.key.Scope.{Scope}
use Rattle.ospf_types.specs.declared.memory.Memory.{Memory}
use Rattle.ospf_types.specs.Keys.{key_cmp}
use Rattle.ospf_types.specs.RangeChanges.{with_ranges}
use Rattle.ospf_types.specs.Lsa.{Lsa, Body, MaxAge, key_of}
use Rattle.ospf_types.proofs.Orders.{key_total, key_exact}
use Rattle.lsa_codec.specs.Readers.{with_age}
use Rattle.lsdb.specs.Databases.{Database, DatabaseValue, all_aged, aged_out, changed_at, purge_refusal_of}
use Rattle.lsdb.specs.Contents.{contents_of, used_at, NoneComes, IsUsedAlike}
use Rattle.event_state.proofs.Aging.{none_same, same_none, none_empty}
use Rattle.event_state.specs.declared.event.Event.{Event}
use Rattle.event_state.specs.declared.event.Event.TheVariants as event
use Rattle.event_state.specs.Changes.{lsas_in}
use Rattle.event_state.specs.States.{State, LooksAlike, place_of, changed_at_place, with_change}
use Rattle.event_state.specs.Steps.{changed_by, with_interface, with_range_change}
use Rattle.event_state.specs.Held.{AreKept}
use Rattle.event_state.proofs.Places.{place_within}
use Rattle.event_state.proofs.SamePlaces.{places_kept}
use Rattle.event_state.proofs.OneChange.{mapped_at}

-- what is used of the database at a place that may be there
abbrev pub used_in : List Database → Option ℕ → Key → Option (ℕ × Body)
used_in databases o key = option_and_then (λ d. used_at d key) (option_map (λ k. get_or databases k empty) o)

-- ---- a change to one database

used_set : (databases : List Database) (k : ℕ) (d : Database) (o : Option ℕ) (key : Key) → k < length databases → used_at d key ≡ used_at (get_or databases k empty) key
    → used_in databases o key ≡ used_in (set databases k d) o key
used_set databases k d None key lt alike = refl
used_set databases k d (Some j) key lt alike =
    elim (cases_eq j k) [
      | inl same ↦
          let there : get_or (set databases k d) j empty ≡ d = rw same (get_or-set_same databases k d empty lt) in
          ap (λ (i : ℕ). used_at (get_or databases i empty) key) same ∙ sym alike ∙ sym (ap (λ (e : Database). used_at e key) there)
      | inr other ↦ ap (λ (e : Database). used_at e key) (sym (get_or-set_other databases k j d empty other))
    ]

module _ (s : State) (at : Scope) (k : ℕ) (place : place_of s.config.areas at ≡ Some k) (lt : k < length s.databases) where
  abbrev here : Database
  here = get_or s.databases k empty

  -- the change of the database is that at its place
  pub change_is : (change : Database → Database) → with_change s at change ≡ record s { databases = set s.databases k (change here) }
  change_is change = ap (λ (o : Option ℕ). changed_at_place s change o) place

  looks_set : (d : Database) → ((key : Key) → used_at d key ≡ used_at here key) ↔ LooksAlike s (record s { databases = set s.databases k d })
  looks_set d = (
    λ alike. record { config = refl; usable = λ other key. used_set s.databases k d (place_of s.config.areas other) key lt (alike key); interfaces = refl },
    λ looks. λ key.
        let same : used_at here key ≡ used_at (get_or (set s.databases k d) k empty) key = ap (λ (o : Option ℕ). used_in s.databases o key) (sym place) ∙ looks.usable at key ∙ ap (λ (o : Option ℕ). used_in (set s.databases k d) o key) place in
        sym (same ∙ ap (λ (e : Database). used_at e key) (get_or-set_same s.databases k d empty lt)),
  )

  pub looks_change : (change : Database → Database) → ((key : Key) → used_at (change here) key ≡ used_at here key) ↔ LooksAlike s (with_change s at change)
  looks_change change = subst (λ (t : State). ((key : Key) → used_at (change here) key ≡ used_at here key) ↔ LooksAlike s t) (sym (change_is change)) (looks_set (change here))

-- ---- an install

pub used_insert : (d : Database) (k : Key) (l : Lsa) (key : Key) → contents_of l ≡ used_at d k → used_at (insert d k l) key ≡ used_at d key
used_insert d k l key alike =
    ap (option_and_then contents_of) (get-insert key_total d k l key)
    ∙ elim (key_cmp key k) as (λ o. key_cmp key k ≡ o → option_and_then contents_of (cond (is_eq o) (Some l) (get d key)) ≡ used_at d key) [
      | Less ↦ λ e. refl
      | Equal ↦ λ e. alike ∙ ap (λ (q : Key). used_at d q) (sym (key_exact key k e))
      | Greater ↦ λ e. refl
    ] refl

pub used_inserted : (d : Database) (k : Key) (l : Lsa) → used_at (insert d k l) k ≡ contents_of l
used_inserted d k l = ap (option_and_then contents_of) (get-insert key_total d k l k) ∙ ap (λ o. option_and_then contents_of (cond (is_eq o) (Some l) (get d k))) (tied_itself key_total k)

pub install_alike : (d : Database) (l : Lsa) → IsUsedAlike d l ↔ ((key : Key) → used_at (insert d (key_of l) l) key ≡ used_at d key)
install_alike d l = (
  λ alike. λ key. used_insert d (key_of l) l key (sym alike),
  λ all. sym (all (key_of l)) ∙ used_inserted d (key_of l) l,
)

-- ---- premature ageing

not_used : (l : Lsa) → contents_of (with_age l MaxAge) ≡ None
not_used l = refl

pub flush_alike : (d : Database) (k : Key) → (used_at d k ≡ None) ↔ ((key : Key) → used_at (aged_out d k) key ≡ used_at d key)
flush_alike d k =
    elim (get d k) as (λ o. get d k ≡ o → (used_at d k ≡ None) ↔ ((key : Key) → used_at (changed_at d k (λ l. with_age l MaxAge) o) key ≡ used_at d key)) [
      | None ↦ λ e. (λ none. λ key. refl, λ all. ap (option_and_then contents_of) e)
      | Some l ↦ λ e. (
        λ none. λ key. used_insert d k (with_age l MaxAge) key (not_used l ∙ sym none),
        λ all. sym (all k) ∙ used_inserted d k (with_age l MaxAge) ∙ not_used l,
      )
    ] refl

-- ---- a purge

gone : (o : Option Lsa) → purge_refusal_of o ≡ None → option_and_then contents_of o ≡ None
gone None e = absurd cc
gone (Some l) e =
    elim (nat_lt l.header.age MaxAge) as (λ b. nat_lt l.header.age MaxAge ≡ b → option_and_then contents_of (Some l) ≡ None) [
      | true ↦ λ t. absurd (let q = rw t at e in cc)
      | false ↦ λ t. rw t refl
    ] refl

pub purge_alike : (d : Database) (k : Key) → purge_refusal_of (get d k) ≡ None → (key : Key) → used_at (remove d k) key ≡ used_at d key
purge_alike d k allowed key =
    ap (option_and_then contents_of) (get-remove key_total d k key)
    ∙ elim (key_cmp key k) as (λ o. key_cmp key k ≡ o → option_and_then contents_of (cond (is_eq o) None (get d key)) ≡ used_at d key) [
      | Less ↦ λ e. refl
      | Equal ↦ λ e. sym (gone (get d k) allowed) ∙ ap (λ (q : Key). used_at d q) (sym (key_exact key k e))
      | Greater ↦ λ e. refl
    ] refl

-- ---- a second

used_later : (databases : List Database) (o : Option ℕ) (key : Key) → ((k : ℕ) → o ≡ Some k → k < length databases) → All NoneComes databases → used_in databases o key ≡ used_in (map all_aged databases) o key
used_later databases None key within none = refl
used_later databases (Some k) key within none =
    let lt = within k refl in
    sym (ap (λ (d : Database). used_at d key) (get_or-map all_aged databases k empty empty lt) ∙ none_same (get_or databases k empty) key (none k empty lt))

pub looks_later : (s : State) → AreKept s.config.areas s.databases → All NoneComes s.databases ↔ LooksAlike s (changed_by s event.Second)
looks_later s kept = (
  λ none. record {
    config = refl;
    usable = λ at key. used_later s.databases (place_of s.config.areas at) key (λ k e. omega (arith, place_within s.config.areas at k e, kept.places)) none;
    interfaces = refl;
  },
  λ looks. λ k d lt.
      let same : get_or s.databases k empty ≡ get_or s.databases k d = get_or_default s.databases k empty d lt in
      subst NoneComes same (elim (kept.reached k lt) [
        | inl at ↦ same_none (get_or s.databases k empty) (λ key.
            let stays : used_at (get_or s.databases k empty) key ≡ used_at (get_or (map all_aged s.databases) k empty) key =
            ap (λ (o : Option ℕ). used_in s.databases o key) (sym at.1) ∙ looks.usable at.0 key ∙ ap (λ (o : Option ℕ). used_in (map all_aged s.databases) o key) at.1 in
            ap (λ (e : Database). used_at e key) (sym (get_or-map all_aged s.databases k empty empty lt)) ∙ sym stays)
        | inr none ↦ subst NoneComes (sym none) none_empty
      ]),
)

-- none of these databases has an LSA that comes to MaxAge
pub none_in : (ds : List DatabaseValue) → All (λ (d : DatabaseValue). NoneComes d.lsas) ds ↔ All NoneComes (lsas_in ds)
none_in ds = (
  λ all. All-map NoneComes (λ (d : DatabaseValue). d.lsas) ds all,
  λ all. λ k d lt.
      let is : get_or (lsas_in ds) k d.lsas ≡ (get_or ds k d).lsas = mapped_at (λ (e : DatabaseValue). e.lsas) ds k d in
      subst NoneComes is (all k d.lsas (omega (arith, lt, length-map ds (λ (e : DatabaseValue). e.lsas)))),
)

-- ---- an interface

put_again : (s : State) (id : ℕ) (i : Interface) → get s.interfaces id ≡ Some i → (q : ℕ) → get s.interfaces q ≡ get (insert s.interfaces id i) q
put_again s id i has q =
    sym (get-insert nat_cmp_total s.interfaces id i q ∙ elim (nat_cmp q id) as (λ o. nat_cmp q id ≡ o → cond (is_eq o) (Some i) (get s.interfaces q) ≡ get s.interfaces q) [
      | Less ↦ λ e. refl
      | Equal ↦ λ e. sym has ∙ ap (λ (k : ℕ). get s.interfaces k) (sym (nat_cmp-IsAntisymmetric q id e))
      | Greater ↦ λ e. refl
    ] refl)

looks_interface : (s : State) (id : ℕ) (i : Interface) → (get s.interfaces id ≡ Some i) ↔ LooksAlike s (with_interface s id i)
looks_interface s id i = (
  λ has. record {
    config = refl;
    usable = λ at key. refl;
    interfaces = same_map nat_cmp_total nat_cmp-IsAntisymmetric s.interfaces (insert s.interfaces id i) (λ q. put_again s id i has q);
  },
  λ looks. ap (λ (m : FinMap nat_cmp Interface). get m id) looks.interfaces ∙ get-insert nat_cmp_total s.interfaces id i id
      ∙ ap (λ o. cond (is_eq o) (Some i) (get s.interfaces id)) (tied_itself nat_cmp_total id),
)

pub interface_looks : (s : State) (r : Result Bool Memory) (id : ℕ) (i : Interface) → IfOk r (λ changed. (changed ≡ false) ↔ (get s.interfaces id ≡ Some i))
    → IfOk r (λ changed. (changed ≡ false) ↔ LooksAlike s (with_interface s id i))
interface_looks s (Ok changed) id i alike = (λ e. (looks_interface s id i).0 (alike.0 e), λ looks. alike.1 ((looks_interface s id i).1 looks))
interface_looks s (Err e) id i alike = tt

-- ---- the ranges of an area

-- where the areas are as before, so is all else
looks_ranges : (s : State) (area : ℕ) (change : List Range → List Range) → (with_ranges s.config.areas area change ≡ s.config.areas) ↔ LooksAlike s (with_range_change s area change)
looks_ranges s area change = (
  λ same. record {
    config = λ i. record s.config { areas = sym same i };
    usable = λ at key. ap (λ (o : Option ℕ). used_in s.databases o key) (sym (places_kept s.config.areas area change at));
    interfaces = refl;
  },
  λ looks. ap (λ (c : Config). c.areas) (sym looks.config),
)

pub ranges_look : (s : State) (changed : Bool) (area : ℕ) (change : List Range → List Range) (new : List AreaConfig) → new ≡ with_ranges s.config.areas area change → (changed ≡ false) ↔ (new ≡ s.config.areas)
    → (changed ≡ false) ↔ LooksAlike s (with_range_change s area change)
ranges_look s changed area change new is alike = (λ e. (looks_ranges s area change).0 (sym is ∙ alike.0 e), λ looks. alike.1 (is ∙ (looks_ranges s area change).1 looks))

-- ---- the journal

-- what is used, and the interfaces, do not depend on the journal
pub looks_step : (s t : State) (journal : List Event) → LooksAlike s t ↔ LooksAlike s (record t { journal = journal })
looks_step s t journal = (
  λ looks. record { config = looks.config; usable = λ at key. looks.usable at key; interfaces = looks.interfaces },
  λ looks. record { config = looks.config; usable = λ at key. looks.usable at key; interfaces = looks.interfaces },
)

changed_place_journal : (s : State) (journal : List Event) (change : Database → Database) (o : Option ℕ) → changed_at_place (record s { journal = journal }) change o ≡ record (changed_at_place s change o) { journal = journal }
changed_place_journal s journal change None = refl
changed_place_journal s journal change (Some k) = refl

-- what an event does to the databases and interfaces does not depend on the journal
changed_journal : (s : State) (journal : List Event) (e : Event) → changed_by (record s { journal = journal }) e ≡ record (changed_by s e) { journal = journal }
changed_journal s journal (event.Install at l) = changed_place_journal s journal (λ d. insert d (key_of l) l) (place_of s.config.areas at)
changed_journal s journal (event.Flush at key) = changed_place_journal s journal (λ d. aged_out d key) (place_of s.config.areas at)
changed_journal s journal (event.Purge at key) = changed_place_journal s journal (λ d. remove d key) (place_of s.config.areas at)
changed_journal s journal (event.Interface id area address peer up) = refl
changed_journal s journal (event.RangeSet area prefix advertise) = refl
changed_journal s journal (event.RangeDrop area prefix) = refl
changed_journal s journal event.Second = refl

-- nor does whether it looks as before
pub looks_journal : (s : State) (journal : List Event) (e : Event) → LooksAlike (record s { journal = journal }) (changed_by (record s { journal = journal }) e) ↔ LooksAlike s (changed_by s e)
looks_journal s journal e =
    let is = changed_journal s journal e in (
      λ looks. let w = subst (λ (t : State). LooksAlike (record s { journal = journal }) t) is looks in record { config = w.config; usable = λ at key. w.usable at key; interfaces = w.interfaces },
      λ looks. subst (λ (t : State). LooksAlike (record s { journal = journal }) t) (sym is) (record { config = looks.config; usable = λ at key. looks.usable at key; interfaces = looks.interfaces }),
    )

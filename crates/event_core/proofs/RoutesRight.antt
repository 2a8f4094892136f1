-- A table that has each network's entry, and a discard for each active range without one, is right.
use Rattle.std.proofs.Common.{◌≡◌, ℕ, Option, Some, None, refl, sym, ap, subst, ◌∙◌, ◌⊎◌, inl, inr}
use Rattle.std.specs.FinMap.{get}
use Rattle.std.specs.List.Sorted.{IsStrictlySortedBy}
use Rattle.std.specs.Cmp.{nat_cmp_total}
use Rattle.std.proofs.lemmas.Map.Lookups.{exact_unsigned}
use Rattle.ospf_types.specs.declared.entry.Entry.{Entry}
use Rattle.ospf_types.specs.declared.entry.PathType.TheVariants.{Intra, Inter}
use Rattle.ospf_types.specs.declared.key.Dest.TheVariants.{Net}
use Rattle.ospf_types.specs.declared.prefix.Prefix.{Prefix}
use Rattle.ospf_types.specs.Hops.{path_cmp}
use Rattle.ospf_types.specs.Inputs.{Inputs, Area}
use Rattle.ospf_types.specs.Intra.{AreaCost, IsIntra, NoIntra, IntraOffers}
use Rattle.ospf_types.specs.Inter.{IsInter, NoInter, InterOffers}
use Rattle.ospf_types.specs.External.{ExternalPreference, IsExternal, NoExternal, ExternalOffers}
use Rattle.ospf_types.specs.Ranges.{IsExamined}
use Rattle.ospf_types.specs.Routes.{IsEntry, NoEntry, entry_of, external_type}
use Rattle.ospf_types.proofs.Examined.{examined_once}
use Rattle.ospf_types.proofs.OneBest.{same_key, same_items}
use Rattle.ospf_types.proofs.Orders.{area_cost_total, area_cost_exact, external_total, external_exact, path_total, path_exact}
use Rattle.route_table.specs.declared.table.Item.{Item}
use Rattle.route_table.specs.declared.table.Item.TheVariants.{Route, Discard}
use Rattle.calculation.specs.Intras.{IsEntryFor as IsIntraEntry}
use Rattle.calculation.specs.InterRight.{IsEntryOf as IsInterEntry}
use Rattle.calculation.specs.Externals.{IsEntryFor as IsExternalEntry}
use Rattle.event_state.specs.States.{State, inputs_of}
use Rattle.calculation.specs.Calculations.{IsItem, entry_else, entry_at}
use Rattle.calculation.specs.Active.{IsActiveIn}
use Rattle.event_core.specs.Following.{RoutesValue, AreRoutesOf}
use Rattle.event_core.specs.Right.{IsRight}

module _ (s : Inputs) (p : Prefix) where
  -- ---- intra-area

  intra_is : (o : Option Entry) (e : Entry) → IsIntraEntry (IntraOffers s p) o → o ≡ Some e → IsEntry s p e
  intra_is None e is same = absurd cc
  intra_is (Some f) e is same =
      let one : f ≡ e = cc in
      subst (IsEntry s p) one (record { best = inl (is.0, is.1, is.3); in_order = is.2 })

  no_intra : (o : Option Entry) → IsIntraEntry (IntraOffers s p) o → o ≡ None → NoIntra s p
  no_intra None is same = is
  no_intra (Some f) is same = absurd cc

  intra_none : (o : Option Entry) → IsIntraEntry (IntraOffers s p) o → NoIntra s p → o ≡ None
  intra_none None is none = refl
  intra_none (Some f) is none = absurd (none is.0 is.1.stands.0 is.1.stands.1)

  intra_there : (o : Option Entry) (e : Entry) → IsIntraEntry (IntraOffers s p) o → (key : AreaCost) → IsIntra s p key e.paths → IsStrictlySortedBy path_cmp e.paths → e ≡ entry_of Intra (Some key.1) key.0 0 e.paths → o ≡ Some e
  intra_there None e none key best in_order is = absurd (none key best.stands.0 best.stands.1)
  intra_there (Some f) e w key best in_order is =
      let keys : w.0 ≡ key = same_key area_cost_total area_cost_exact (IntraOffers s p) w.0 key f.paths e.paths w.1 best in
      let paths : f.paths ≡ e.paths = same_items area_cost_total area_cost_exact (IntraOffers s p) path_total path_exact w.0 key f.paths e.paths w.1 best w.2 in_order in
      ap Some (w.3 ∙ (λ i. entry_of Intra (Some (keys i).1) (keys i).0 0 (paths i)) ∙ sym is)

  -- ---- inter-area

  inter_is : (o : Option Entry) (e : Entry) → IsInterEntry s (InterOffers s p) o → o ≡ Some e → IsEntry s p e
  inter_is None e is same = absurd cc
  inter_is (Some f) e (inr none) same = absurd (let gone = none.1 in cc)
  inter_is (Some f) e (inl is) same =
      let one : f ≡ e = cc in
      let w = is.2 in
      subst (IsEntry s p) one (record { best = inr (inl (w.0, is.0, w.1, is.1, w.3)); in_order = w.2 })

  no_inter : (o : Option Entry) → IsInterEntry s (InterOffers s p) o → o ≡ None → NoInter s p
  no_inter None (inl is) same = is.2
  no_inter None (inr none) same = λ cost path w. none.0 w.0 w.8.examined
  no_inter (Some f) is same = absurd cc

  inter_none : (o : Option Entry) → IsInterEntry s (InterOffers s p) o → NoInter s p → o ≡ None
  inter_none None is none = refl
  inter_none (Some f) (inl is) none = let w = is.2 in absurd (none w.0 w.1.stands.0 w.1.stands.1)
  inter_none (Some f) (inr gone) none = gone.1

  inter_there : (o : Option Entry) (e : Entry) → IsInterEntry s (InterOffers s p) o → (cost : ℕ) (a : Area) → IsInter s p cost e.paths → IsExamined s a → IsStrictlySortedBy path_cmp e.paths → e ≡ entry_of Inter (Some a.id) cost 0 e.paths → o ≡ Some e
  inter_there o e (inr none) cost a best examined in_order is = absurd (none.0 a examined)
  inter_there None e (inl none) cost a best examined in_order is = absurd (none.2 cost best.stands.0 best.stands.1)
  inter_there (Some f) e (inl there) cost a best examined in_order is =
      let w = there.2 in
      let costs : w.0 ≡ cost = same_key nat_cmp_total exact_unsigned (InterOffers s p) w.0 cost f.paths e.paths w.1 best in
      let paths : f.paths ≡ e.paths = same_items nat_cmp_total exact_unsigned (InterOffers s p) path_total path_exact w.0 cost f.paths e.paths w.1 best w.2 in_order in
      let areas : there.0.id ≡ a.id = examined_once s there.0 a there.1 examined in
      ap Some (w.3 ∙ (λ i. entry_of Inter (Some (areas i)) (costs i) 0 (paths i)) ∙ sym is)

  -- ---- external

  external_is : (o : Option Entry) (e : Entry) → IsExternalEntry (ExternalOffers s p) o → o ≡ Some e → IsEntry s p e
  external_is None e is same = absurd cc
  external_is (Some f) e is same =
      let one : f ≡ e = cc in
      subst (IsEntry s p) one (record { best = inr (inr (is.0, is.1, is.3)); in_order = is.2 })

  no_external : (o : Option Entry) → IsExternalEntry (ExternalOffers s p) o → o ≡ None → NoExternal s p
  no_external None is same = is
  no_external (Some f) is same = absurd cc

  external_none : (o : Option Entry) → IsExternalEntry (ExternalOffers s p) o → NoExternal s p → o ≡ None
  external_none None is none = refl
  external_none (Some f) is none = absurd (none is.0 is.1.stands.0 is.1.stands.1)

  external_there : (o : Option Entry) (e : Entry) → IsExternalEntry (ExternalOffers s p) o → (key : ExternalPreference) → IsExternal s p key e.paths → IsStrictlySortedBy path_cmp e.paths
      → e ≡ entry_of (external_type key.kind) None key.cost key.metric e.paths → o ≡ Some e
  external_there None e none key best in_order is = absurd (none key best.stands.0 best.stands.1)
  external_there (Some f) e w key best in_order is =
      let keys : w.0 ≡ key = same_key external_total external_exact (ExternalOffers s p) w.0 key f.paths e.paths w.1 best in
      let paths : f.paths ≡ e.paths = same_items external_total external_exact (ExternalOffers s p) path_total path_exact w.0 key f.paths e.paths w.1 best w.2 in_order in
      ap Some (w.3 ∙ (λ i. entry_of (external_type (keys i).kind) None (keys i).cost (keys i).metric (paths i)) ∙ sym is)

  -- ---- the entry of the three

  module _ (intra inter external : Option Entry) (within : IsIntraEntry (IntraOffers s p) intra) (between : IsInterEntry s (InterOffers s p) inter) (outside : IsExternalEntry (ExternalOffers s p) external) where
    abbrev first : Option Entry
    first = entry_else intra (entry_else inter external)

    of_first : (e : Entry) → first ≡ Some e → (intra ≡ Some e) ⊎ (inter ≡ Some e) ⊎ (external ≡ Some e)
    of_first e = by intra inter
      where
        by : (a b : Option Entry) → entry_else a (entry_else b external) ≡ Some e → (a ≡ Some e) ⊎ (b ≡ Some e) ⊎ (external ≡ Some e)
        by (Some f) b is = inl is
        by None (Some f) is = inr (inl is)
        by None None is = inr (inr is)

    none_first : first ≡ None → (intra ≡ None) × (inter ≡ None) × (external ≡ None)
    none_first = by intra inter
      where
        by : (a b : Option Entry) → entry_else a (entry_else b external) ≡ None → (a ≡ None) × (b ≡ None) × (external ≡ None)
        by (Some f) b is = absurd cc
        by None (Some f) is = absurd cc
        by None None is = (refl, refl, is)

    is_entry : (e : Entry) → first ≡ Some e → IsEntry s p e
    is_entry e is = elim (of_first e is) [
      | inl a ↦ intra_is intra e within a
      | inr later ↦ elim later [ inl b ↦ inter_is inter e between b | inr c ↦ external_is external e outside c ]
    ]

    has_entry : (e : Entry) → IsEntry s p e → first ≡ Some e
    has_entry e entry = elim entry.best [
      | inl w ↦ ap (λ (a : Option Entry). entry_else a (entry_else inter external)) (intra_there intra e within w.0 w.1 entry.in_order w.2)
      | inr others ↦ elim others [
        | inl w ↦
            let offer = w.2.stands in
            let none : NoIntra s p = offer.1.10 in
            let a : intra ≡ None = intra_none intra within none in
            let b : inter ≡ Some e = inter_there inter e between w.0 w.1 w.2 w.3 entry.in_order w.4 in
            (λ i. entry_else (a i) (entry_else (b i) external))
        | inr w ↦
            let offer = w.1.stands in
            let a : intra ≡ None = intra_none intra within offer.1.7 in
            let b : inter ≡ None = inter_none inter between offer.1.8 in
            let c : external ≡ Some e = external_there external e outside w.0 w.1 entry.in_order w.2 in
            (λ i. entry_else (a i) (entry_else (b i) (c i)))
      ]
    ]

    no_entry : first ≡ None → NoEntry s p
    no_entry is = let w = none_first is in (no_intra intra within w.0, no_inter inter between w.1, no_external external outside w.2)

    has_none : NoEntry s p → first ≡ None
    has_none none =
        let a : intra ≡ None = intra_none intra within none.0 in
        let b : inter ≡ None = inter_none inter between none.1 in
        let c : external ≡ None = external_none external outside none.2 in
        (λ i. entry_else (a i) (entry_else (b i) (c i)))

-- ---- items

route_from : (entry : Option Entry) (active : Type 0) (item : Option Item) (e : Entry) → IsItem entry active item → item ≡ Some (Route e) → entry ≡ Some e
route_from entry active None e is same = absurd cc
route_from entry active (Some (Route f)) e is same = is ∙ (let one : f ≡ e = cc in ap Some one)
route_from entry active (Some Discard) e is same = absurd cc

route_to : (entry : Option Entry) (active : Type 0) (item : Option Item) (e : Entry) → IsItem entry active item → entry ≡ Some e → item ≡ Some (Route e)
route_to entry active None e is same = absurd (let gone = is.0 in cc)
route_to entry active (Some (Route f)) e is same = let one : f ≡ e = cc in ap (λ (x : Entry). Some (Route x)) one
route_to entry active (Some Discard) e is same = absurd (let gone = is.0 in cc)

discard_from : (entry : Option Entry) (active : Type 0) (item : Option Item) → IsItem entry active item → item ≡ Some Discard → (entry ≡ None) × active
discard_from entry active None is same = absurd cc
discard_from entry active (Some (Route f)) is same = absurd cc
discard_from entry active (Some Discard) is same = is

discard_to : (entry : Option Entry) (active : Type 0) (item : Option Item) → IsItem entry active item → entry ≡ None → active → item ≡ Some Discard
discard_to entry active None is none there = absurd (is.1 there)
discard_to entry active (Some (Route f)) is none there = absurd cc
discard_to entry active (Some Discard) is none there = refl

pub routes_right : (s : State) (r : RoutesValue) → AreRoutesOf s r → IsRight s r.table
routes_right s r are =
    let i = inputs_of s in
    let c = r.calculation in
    let is = are.calculation in
    record {
      routes = λ p e.
          let within = is.routed.entries p in
          let between = is.between.networks p in
          let outside = is.outside.entries p in (
            λ stands. is_entry i p (get c.intra.entries p) (get c.inter.entries (Net p)) (get c.external.entries p) within between outside e (route_from (entry_at c p) (IsActiveIn c.active p) (get r.table.items p) e (are.table p) stands),
            λ entry. route_to (entry_at c p) (IsActiveIn c.active p) (get r.table.items p) e (are.table p) (has_entry i p (get c.intra.entries p) (get c.inter.entries (Net p)) (get c.external.entries p) within between outside e entry),
          );
      discards = λ p.
          let within = is.routed.entries p in
          let between = is.between.networks p in
          let outside = is.outside.entries p in (
            λ stands.
                let w = discard_from (entry_at c p) (IsActiveIn c.active p) (get r.table.items p) (are.table p) stands in
                ((is.ranged p).0 w.1, no_entry i p (get c.intra.entries p) (get c.inter.entries (Net p)) (get c.external.entries p) within between outside w.0),
            λ discard.
                discard_to (entry_at c p) (IsActiveIn c.active p) (get r.table.items p) (are.table p)
                (has_none i p (get c.intra.entries p) (get c.inter.entries (Net p)) (get c.external.entries p) within between outside discard.1) ((is.ranged p).1 discard.0),
          );
      serial = are.serial;
    }

-- Which ranges are active, by the networks that they have.
use Rattle.std.proofs.Common.{◌≡◌, ◌≢◌, ℕ, Bool, cond, List, [], ◌∷◌, Option, Some, None, refl, sym, ap, subst, ◌∙◌, ◌⊎◌, inl, inr}
use Rattle.std.specs.Prelude.{◌↔◌, Contains}
use Rattle.std.specs.declared.cmp.Ordering.TheVariants.{Greater}
use Rattle.std.specs.Ordering.{is_gt, nat_cmp}
use Rattle.std.specs.Cmp.{eq_by_cmp_equiv}
use Rattle.std.specs.List.Sorted.{IsStrictlySortedBy}
use Rattle.std.specs.Map.{keys_of, lookup}
use Rattle.std.specs.BTreeMap.{BTreeMap, IsOrdered, is_at, keys}
use Rattle.std.specs.BTreeMap.Range.{IsLeBy, range_contains, entries_between}
use Rattle.std.specs.declared.ops.Bound.TheVariants.{Included, Unbounded}
use Rattle.std.proofs.lemmas.Cmp.{tied_itself}
use Rattle.std.proofs.lemmas.List.Kept.{IsStrictlySortedBy-filter}
use Rattle.std.proofs.lemmas.Map.Keys.{sorted_tail}
use Rattle.std.proofs.lemmas.Map.Views.{btree_map_get_iff, range_contains-from_IsInRange, IsInRange-from_range_contains}
use Rattle.ospf_types.specs.declared.prefix.Prefix.{Prefix}
use Rattle.ospf_types.specs.Network.{network_cmp}
use Rattle.ospf_types.proofs.Elements.{no_element, first_element, later_element, first_or_later, mapped_element}
use Rattle.ospf_types.proofs.OneBest.{later_above}
use Rattle.ospf_types.proofs.Orders.{network_total, network_exact}
use Rattle.active_ranges.specs.Active.{ActiveValue, IsActiveIn}
use Rattle.active_ranges.specs.Following.{HasMore}
use Rattle.active_ranges.specs.Grouped.{RangeNetworksValue, NetworksByRange, range_cmp, range_of}
use Rattle.active_ranges.specs.declared.member.AreaRange.{AreaRange}
use Rattle.active_ranges.specs.declared.member.RangeMember.{RangeMember}
use Rattle.active_ranges.proofs.Grouped.{cost_among, found, range_total, range_exact, ranges_value}
use Rattle.active_ranges.proofs.Kept.{keys_kept, kept_passes, passes_kept}
use Rattle.active_ranges.proofs.Members.{not_greater, not_first, same_one, zero_least}

-- one of the ranges has the prefix, and a network
abbrev pub HasOne : Prefix → NetworksByRange → Type 0
HasOne p rs = (r : AreaRange × RangeNetworksValue) × Contains rs r × (r.0.prefix ≡ p) × (r.1.entries ≢ [])

-- ---- a network, and a member

no_cost : (networks : RangeNetworksValue) (p : Prefix) (n : ℕ) → lookup (is_at (network_cmp p)) networks.entries ≡ Some n → networks.entries ≢ []
no_cost networks p n is none = let wrong : None ≡ Some n = subst (λ (es : List (Prefix × ℕ)). lookup (is_at (network_cmp p)) es ≡ Some n) none is in cc

some_networks : (o : Option RangeNetworksValue) (p : Prefix) (n : ℕ) → cost_among o p ≡ Some n → (networks : RangeNetworksValue) × (o ≡ Some networks) × (networks.entries ≢ [])
some_networks None p n is = absurd (let wrong : None ≡ Some n = is in cc)
some_networks (Some networks) p n is = (networks, refl, no_cost networks p n is)

first_network : (es : List (Prefix × ℕ)) → es ≢ [] → (p : Prefix) × (n : ℕ) × (lookup (is_at (network_cmp p)) es ≡ Some n)
first_network [] some = absurd (some refl)
first_network (e ∷ es) some = (e.0, e.1, ap (λ (b : Bool). cond b (Some e.1) (lookup (is_at (network_cmp e.0)) es)) ((eq_by_cmp_equiv network_total).refl e.0))

module _ (tree : BTreeMap AreaRange RangeNetworksValue) (spent : Bool) (ordered : IsOrdered range_cmp tree) where
  -- a range is active where one has a network
  pub active_one : (p : Prefix) → IsActiveIn (ranges_value tree.entries spent) p ↔ HasOne p tree.entries
  active_one p = (
    λ w.
        let some = some_networks (lookup (is_at (range_cmp (range_of w.0))) tree.entries) w.0.network w.1 (sym (found tree.entries spent w.0) ∙ w.2) in
        ((range_of w.0, some.0), (btree_map_get_iff range_total range_exact tree ordered (range_of w.0) some.0).0 some.1, w.3, some.2),
    λ w.
        let r = w.0.0 in
        let first = first_network w.0.1.entries w.3 in
        let m : RangeMember = record { range = r.prefix; area = r.area; network = first.0 } in
        let stands = (btree_map_get_iff range_total range_exact tree ordered r w.0.1).1 w.1 in
        (m, first.1, found tree.entries spent m ∙ ap (λ (o : Option RangeNetworksValue). cost_among o first.0) stands ∙ first.2, w.2),
  )

-- ---- the ranges from the least of a prefix on

abbrev pub least_range : Prefix → AreaRange
least_range p = record { prefix = p; area = 0 }

-- none of the prefix is below the least
least_is_least : (p : Prefix) (r : AreaRange) → r.prefix ≡ p → IsLeBy range_cmp (least_range p) r
least_is_least p r is = not_greater (network_cmp p r.prefix) (nat_cmp 0 r.area) (ap is_gt (ap (network_cmp p) is ∙ tied_itself network_total p)) (zero_least r.area)

-- those still to come: a range is active where one of them has a network
pub record AreLeft (v : ActiveValue) (p : Prefix) (left : NetworksByRange) : Type 0 where
  pub in_order : IsStrictlySortedBy range_cmp (keys_of left)
  pub low : (r : AreaRange × RangeNetworksValue) → Contains left r → IsLeBy range_cmp (least_range p) r.0
  pub active : IsActiveIn v p ↔ HasOne p left

pub left_all : (tree : BTreeMap AreaRange RangeNetworksValue) (spent : Bool) → IsOrdered range_cmp tree → (p : Prefix) (left : NetworksByRange) → left ≡ entries_between range_cmp (Included (least_range p)) Unbounded tree.entries
    → AreLeft (ranges_value tree.entries spent) p left
left_all tree spent ordered p left is =
    let passes : AreaRange → Bool = λ r. range_contains range_cmp (Included (least_range p)) Unbounded r in
    let test : AreaRange × RangeNetworksValue → Bool = λ r. passes r.0 in
    let one = active_one tree spent ordered p in
    subst (AreLeft (ranges_value tree.entries spent) p) (sym is) record {
      in_order = subst (IsStrictlySortedBy range_cmp) (sym (keys_kept passes tree.entries)) (IsStrictlySortedBy-filter range_cmp passes (keys tree) ordered);
      low = λ r there. (IsInRange-from_range_contains range_total (Included (least_range p)) Unbounded r.0 (kept_passes test tree.entries r there).1).0;
      active = (
        λ w. let h = one.0 w in (h.0, passes_kept test tree.entries h.0 h.1 (range_contains-from_IsInRange range_total (Included (least_range p)) Unbounded h.0.0 (least_is_least p h.0.0 h.2, tt)), h.2, h.3),
        λ h. one.1 (h.0, (kept_passes test tree.entries h.0 h.1).0, h.2, h.3),
      );
    }

module _ (v : ActiveValue) (p : Prefix) (r : AreaRange) (networks : RangeNetworksValue) (left : NetworksByRange) (are : AreLeft v p ((r, networks) ∷ left)) where
  -- where the next has another prefix, none with this one is to come
  pub left_other : r.prefix ≢ p → IsActiveIn v p → ⊥
  left_other other w =
      let h = are.active.0 w in
      elim (first_or_later (r, networks) h.0 left h.1) [
        | inl first ↦ other (ap (λ (x : AreaRange × RangeNetworksValue). x.0.prefix) (sym first) ∙ h.2)
        | inr later ↦
            let less = later_above range_total range_exact r h.0.0 (keys_of left) are.in_order (mapped_element (λ (x : AreaRange × RangeNetworksValue). x.0) left h.0 later) in
            let low = not_first (network_cmp p r.prefix) (nat_cmp 0 r.area) (are.low (r, networks) (first_element (r, networks) left)) in
            let high = not_first (network_cmp r.prefix h.0.0.prefix) (nat_cmp r.area h.0.0.area) (ap is_gt less) in
            other (same_one network_total network_exact p r.prefix low (subst (λ (q : Prefix). network_cmp r.prefix q ≢ Greater) h.2 high))
      ]

  -- where it has the prefix and a network, that is active
  pub left_found : r.prefix ≡ p → networks.entries ≢ [] → IsActiveIn v p
  left_found is some = are.active.1 ((r, networks), first_element (r, networks) left, is, some)

  -- and with no network it says nothing
  pub left_empty : networks.entries ≡ [] → AreLeft v p left
  left_empty none = record {
    in_order = sorted_tail range_cmp r (keys_of left) are.in_order;
    low = λ x there. are.low x (later_element (r, networks) x left there);
    active = (
      λ w. let h = are.active.0 w in elim (first_or_later (r, networks) h.0 left h.1) [
        | inl first ↦ absurd (h.3 (ap (λ (x : AreaRange × RangeNetworksValue). x.1.entries) first ∙ none))
        | inr later ↦ (h.0, later, h.2, h.3)
      ],
      λ h. are.active.1 (h.0, later_element (r, networks) h.0 left h.1, h.2, h.3),
    );
  }

-- no more is to come
pub left_none : (v : ActiveValue) (p : Prefix) (left : NetworksByRange) → left ≡ [] → AreLeft v p left → IsActiveIn v p → ⊥
left_none v p left none are w = let h = are.active.0 w in no_element h.0 (subst (λ (rs : NetworksByRange). Contains rs h.0) none h.1)

-- ---- the prefixes of all that are active

-- so far these are listed, and those of the others are still to come
abbrev pub AreListed : NetworksByRange → List Prefix → NetworksByRange → Type 0
AreListed all listed left = (p : Prefix) → (Contains listed p ⊎ HasOne p left) ↔ HasOne p all

pub listed_none : (all : NetworksByRange) → AreListed all [] all
listed_none all p = (λ w. elim w [ inl none ↦ absurd (no_element p none) | inr h ↦ h ], λ h. inr h)

pub listed_more : (all left : NetworksByRange) (r : AreaRange) (networks : RangeNetworksValue) (before after : List Prefix) → AreListed all before ((r, networks) ∷ left) → HasMore (λ p. (p ≡ r.prefix) × (networks.entries ≢ [])) before after
    → AreListed all after left
listed_more all left r networks before after listed more p = (
  λ w. (listed p).0 (elim w [
    | inl there ↦ elim ((more p).0 there) [ inl was ↦ inl was | inr h ↦ inr ((r, networks), first_element (r, networks) left, sym h.0, h.1) ]
    | inr h ↦ inr (h.0, later_element (r, networks) h.0 left h.1, h.2, h.3)
  ]),
  λ one. elim ((listed p).1 one) [
    | inl was ↦ inl ((more p).1 (inl was))
    | inr h ↦ elim (first_or_later (r, networks) h.0 left h.1) [
      | inl first ↦ inl ((more p).1 (inr (sym h.2 ∙ ap (λ (x : AreaRange × RangeNetworksValue). x.0.prefix) first, λ none. h.3 (ap (λ (x : AreaRange × RangeNetworksValue). x.1.entries) first ∙ none))))
      | inr later ↦ inr (h.0, later, h.2, h.3)
    ]
  ],
)

pub listed_all : (all : NetworksByRange) (listed : List Prefix) (left : NetworksByRange) → left ≡ [] → AreListed all listed left → (p : Prefix) → Contains listed p ↔ HasOne p all
listed_all all listed left none are p = (
  λ there. (are p).0 (inl there),
  λ one. elim ((are p).1 one) [ inl there ↦ there | inr h ↦ absurd (no_element h.0 (subst (λ (rs : NetworksByRange). Contains rs h.0) none h.1)) ],
)

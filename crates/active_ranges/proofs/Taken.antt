-- Members that are taken in all at once, and a range whose members are dropped.
--   members_exact: without their costs they are the members within the range
--   taken_followed, left_followed: so the members follow
use Rattle.std.proofs.Common.{◌≡◌, ℕ, Bool, cond, List, map, Option, Some, None, refl, sym, ap, subst, ◌∙◌, inl, inr}
use Rattle.std.specs.Prelude.{◌↔◌, Contains}
use Rattle.std.specs.Cmp.{nat_cmp_total}
use Rattle.std.specs.Map.{keys_of, lookup}
use Rattle.std.specs.BTreeMap.{is_at}
use Rattle.std.specs.FinMap.{empty, get}
use Rattle.std.proofs.lemmas.Map.Lookups.{exact_unsigned}
use Rattle.ospf_types.specs.declared.config.AreaConfig.{AreaConfig}
use Rattle.ospf_types.specs.declared.entry.Entry.{Entry}
use Rattle.ospf_types.specs.declared.prefix.Prefix.{Prefix}
use Rattle.ospf_types.specs.Network.{network_cmp}
use Rattle.ospf_types.proofs.Elements.{mapped_element, mapped_from}
use Rattle.ospf_types.proofs.Orders.{network_total, network_exact}
use Rattle.intra.specs.Intras.{EntriesByPrefix}
use Rattle.intra.proofs.Following.{one_or_other}
use Rattle.active_ranges.specs.Active.{ActiveValue, AreRangesOf, IsMember, IsMemberWithin, IsRangeNetwork}
use Rattle.active_ranges.specs.Following.{AreMembersFollowed, AreTakenIn, HasLeft, IsCostIn, IsCostWithin}
use Rattle.active_ranges.specs.Grouped.{AreMadeOf, RangeNetworksValue, NetworksByRange, range_cmp}
use Rattle.active_ranges.specs.declared.member.AreaRange.{AreaRange}
use Rattle.active_ranges.specs.declared.member.RangeMember.{RangeMember}
use Rattle.active_ranges.proofs.Following.{left_here}
use Rattle.active_ranges.proofs.Grouped.{changed_here, changed_elsewhere, ranges_value}
use Rattle.active_ranges.proofs.Inside.{some_number}
use Rattle.active_ranges.proofs.Lists.{no_value}

-- ---- the networks of a range that is taken in

some_same : {A : Type 0} {x y : A} → Some x ≡ Some y → x ≡ y
some_same e = cc

module _ (es fs : NetworksByRange) (was is : Bool) (area : ℕ) (range : Prefix) (costs : List (RangeMember × ℕ)) (within : (m : RangeMember) (cost : ℕ) → Contains costs (m, cost) → (m.range ≡ range) × (m.area ≡ area)) (networks : RangeNetworksValue) where
  abbrev taken : AreaRange
  taken = record { prefix = range; area = area }

  abbrev as_network : RangeMember × ℕ → Prefix × ℕ
  as_network x = (x.0.network, x.1)

  abbrev pairs : List (Prefix × ℕ)
  pairs = map as_network costs

  -- a network stands for the member
  member_of : (m : RangeMember) → m.range ≡ range → m.area ≡ area → (cost : ℕ) → Contains pairs (m.network, cost) → Contains costs (m, cost)
  member_of m prefix id cost there =
      let from = mapped_from as_network costs (m.network, cost) there in
      let x = from.0.0 in
      let own = within x from.0.1 from.1 in
      let same : x ≡ m = λ i. record { range = (own.0 ∙ sym prefix) i; area = (own.1 ∙ sym id) i; network = (from.2 i).0 } in
      subst (λ (y : RangeMember × ℕ). Contains costs y) (λ i. (same i, (from.2 i).1)) from.1

  module _ (made : AreMadeOf pairs networks) (updates : (q : AreaRange) → lookup (is_at (range_cmp q)) fs ≡ cond (is_at (range_cmp taken) q) (Some networks) (lookup (is_at (range_cmp q)) es)) where
    now : (m : RangeMember) → m.range ≡ range → m.area ≡ area → get (ranges_value fs is).members m ≡ lookup (is_at (network_cmp m.network)) networks.entries
    now m prefix id = changed_here es fs was is taken (Some networks) updates m (λ i. record { prefix = prefix i; area = id i })

    pub taken_in : is ≡ was → AreTakenIn area range costs (ranges_value es was) (ranges_value fs is)
    taken_in spent = record {
      spent = spent;
      here = λ m c there.
          let own = within m c there in
          let key : Contains (keys_of pairs) m.network = mapped_element (λ (x : Prefix × ℕ). x.0) pairs (m.network, c) (mapped_element as_network costs (m, c) there) in
          let some = made.there m.network key in
          (some.0, now m own.0 own.1 ∙ some.1, member_of m own.0 own.1 some.0 (made.costs m.network some.0 some.1));
      none = λ m prefix id absent. now m prefix id ∙ no_value (lookup (is_at (network_cmp m.network)) networks.entries) (λ cost there. absent cost (member_of m prefix id cost (made.costs m.network cost there)));
      others = λ m other. changed_elsewhere es fs was is taken (Some networks) updates m (λ same. other (ap (λ (r : AreaRange). r.prefix) same, ap (λ (r : AreaRange). r.area) same));
    }

-- ---- a range that is dropped

module _ (es fs : NetworksByRange) (was is : Bool) (area : ℕ) (range : Prefix)
    (updates : (q : AreaRange) → lookup (is_at (range_cmp q)) fs ≡ cond (is_at (range_cmp (record { prefix = range; area = area })) q) None (lookup (is_at (range_cmp q)) es)) where
  pub left_out : is ≡ was → HasLeft area range (ranges_value es was) (ranges_value fs is)
  left_out spent = record {
    spent = spent;
    here = λ m prefix id. changed_here es fs was is (record { prefix = range; area = area }) None updates m (λ i. record { prefix = prefix i; area = id i });
    others = λ m other. changed_elsewhere es fs was is (record { prefix = range; area = area }) None updates m (λ same. other (ap (λ (r : AreaRange). r.prefix) same, ap (λ (r : AreaRange). r.area) same));
  }

-- ---- members of other ranges stay

pub stays_but_range : (area : ℕ) (range : Prefix) (old new : ActiveValue) (members : List RangeMember) → ((m : RangeMember) → m.range ≡ range → m.area ≡ area → (Contains members m → ⊥) → get new.members m ≡ get old.members m)
    → ((m : RangeMember) → ((m.range ≡ range) × (m.area ≡ area) → ⊥) → get new.members m ≡ get old.members m) → (m : RangeMember) → (Contains members m → ⊥) → get new.members m ≡ get old.members m
stays_but_range area range old new members here others m absent = elim (one_or_other network_total network_exact range m.range) [
  | inr other ↦ others m (λ w. other w.0)
  | inl prefix ↦ elim (one_or_other nat_cmp_total exact_unsigned area m.area) [
    | inr other ↦ others m (λ w. other w.1)
    | inl id ↦ here m prefix id absent
  ]
]

-- a range that is dropped, with members that are all that it had
pub gone_followed : (area : ℕ) (range : Prefix) (old new : ActiveValue) (members : List RangeMember) → HasLeft area range old new → ((m : RangeMember) → Contains members m → (m.range ≡ range) × (m.area ≡ area))
    → ((m : RangeMember) → m.range ≡ range → m.area ≡ area → (Contains members m → ⊥) → get old.members m ≡ None) → AreMembersFollowed empty members old new
gone_followed area range old new members left within none_was = record {
  spent = left.spent;
  here = λ m c cost. let is = within m c in left_here new m (left.here m is.0 is.1) cost;
  others = stays_but_range area range old new members (λ m prefix id absent. left.here m prefix id ∙ sym (none_was m prefix id absent)) left.others;
}

-- ---- the members within a range follow

some_entry : (d e : Entry) → Some d ≡ Some e → d ≡ e
some_entry d e same = cc

one_cost : (o : Option Entry) (area a b : ℕ) → IsCostIn o area a → IsCostIn o area b → a ≡ b
one_cost o area a b v w = sym v.3 ∙ ap (λ (e : Entry). e.cost) (some_entry v.0 w.0 (sym v.1 ∙ w.1)) ∙ w.3

module _ (entries : EntriesByPrefix) (area : ℕ) (range : Prefix) (costs : List (RangeMember × ℕ)) (exact : (x : RangeMember × ℕ) → Contains costs x ↔ IsCostWithin entries area range x) where
  abbrev members : List RangeMember
  members = map (λ (x : RangeMember × ℕ). x.0) costs

  -- they are the members within the range
  pub members_exact : (m : RangeMember) → Contains members m ↔ IsMemberWithin entries area range m
  members_exact m = (
    λ c. let from = mapped_from (λ (x : RangeMember × ℕ). x.0) costs m c in subst (IsMemberWithin entries area range) from.2 ((exact from.0).0 from.1).0,
    λ is.
        let e = is.2 in
        mapped_element (λ (x : RangeMember × ℕ). x.0) costs (m, e.0.cost) ((exact (m, e.0.cost)).1 (is, (e.0, e.1, e.2 ∙ ap Some (sym is.0), refl))),
  )

  module _ (old new : ActiveValue) (before : List AreaConfig) (was : AreRangesOf before entries old) where
    -- it had no others
    none_was : (m : RangeMember) → (Contains members m → ⊥) → m.range ≡ range → m.area ≡ area → get old.members m ≡ None
    none_was m absent prefix id = no_value (get old.members m) (λ cost is.
        let w : IsMember before entries m cost = (was.members m cost).0 is in
        let within : IsRangeNetwork entries m.area m.range m.network = (w.0, w.1, w.2, w.5) in
        absent ((members_exact m).1 (id, prefix, subst (λ (n : ℕ). IsRangeNetwork entries n range m.network) id (subst (λ (q : Prefix). IsRangeNetwork entries m.area q m.network) prefix within))))

    pub left_followed : HasLeft area range old new → AreMembersFollowed empty members old new
    left_followed left = gone_followed area range old new members left (λ m c. let is = (members_exact m).0 c in (is.1, is.0)) (λ m prefix id absent. none_was m absent prefix id)

    pub taken_followed : AreTakenIn area range costs old new → AreMembersFollowed entries members old new
    taken_followed taken = record {
      spent = taken.spent;
      here = λ m c cost.
          let from = mapped_from (λ (x : RangeMember × ℕ). x.0) costs m c in
          let there : Contains costs (m, from.0.1) = subst (λ (k : RangeMember). Contains costs (k, from.0.1)) from.2 from.1 in
          let now = taken.here m from.0.1 there in
          let is : IsCostIn (get entries m.network) m.area now.0 = ((exact (m, now.0)).0 now.2).1 in (
            λ h. subst (IsCostIn (get entries m.network) m.area) (some_number now.0 cost (sym now.1 ∙ h)) is,
            λ w. now.1 ∙ ap Some (one_cost (get entries m.network) m.area now.0 cost is w),
          );
      others = stays_but_range area range old new members (λ m prefix id absent. taken.none m prefix id (λ c there. absent (mapped_element (λ (x : RangeMember × ℕ). x.0) costs (m, c) there)) ∙ sym (none_was m absent prefix id)) taken.others;
    }

-- The members that a range has.
use Rattle.std.proofs.Common.{◌≡◌, ℕ, Bool, List, [], Option, Some, None, map, refl, sym, ap, subst, ◌∙◌}
use Rattle.std.specs.Prelude.{◌↔◌, Contains, is_some}
use Rattle.std.specs.BTreeMap.{is_at}
use Rattle.std.specs.FinMap.{get}
use Rattle.std.specs.Cmp.{eq_by_cmp_equiv}
use Rattle.std.specs.Map.{keys_of, lookup}
use Rattle.std.proofs.lemmas.Map.Views.{tells_apart, Contains-keys_from_lookup, IsSome-lookup_from_Contains}
use Rattle.ospf_types.specs.declared.prefix.Prefix.{Prefix}
use Rattle.ospf_types.specs.Network.{network_cmp}
use Rattle.ospf_types.proofs.Elements.{no_element, mapped_element, mapped_from}
use Rattle.ospf_types.proofs.Orders.{network_total, network_exact}
use Rattle.intra.specs.Intras.{EntriesByPrefix}
use Rattle.ospf_types.specs.declared.config.AreaConfig.{AreaConfig}
use Rattle.ospf_types.specs.Address.{Covers}
use Rattle.active_ranges.specs.Active.{ActiveValue, AreRangesOf, IsConfigured, IsMember, IsMemberWithin}
use Rattle.active_ranges.specs.Following.{AreMembersFollowed, IsMemberIn}
use Rattle.active_ranges.specs.Grouped.{RangeNetworksValue, NetworksByRange, member_of, range_cmp}
use Rattle.active_ranges.specs.declared.member.AreaRange.{AreaRange}
use Rattle.active_ranges.specs.declared.member.RangeMember.{RangeMember}
use Rattle.active_ranges.proofs.Grouped.{cost_among, found, ranges_value}
use Rattle.active_ranges.proofs.Lists.{no_value}
use Rattle.active_ranges.proofs.Members.{some_value}

module _ (rs : NetworksByRange) (spent : Bool) (area : ℕ) (range : Prefix) where
  abbrev at_range : AreaRange
  at_range = record { prefix = range; area = area }

  abbrev value : ActiveValue
  value = ranges_value rs spent

  -- the cost of a member of the range
  cost_of : (m : RangeMember) → m.range ≡ range → m.area ≡ area → get value.members m ≡ cost_among (lookup (is_at (range_cmp at_range)) rs) m.network
  cost_of m prefix id = found rs spent m ∙ ap (λ (r : AreaRange). cost_among (lookup (is_at (range_cmp r)) rs) m.network) (λ i. record { prefix = prefix i; area = id i })

  -- the range has no networks
  pub members_none : None ≡ lookup (is_at (range_cmp at_range)) rs → (m : RangeMember) → Contains [] m ↔ IsMemberIn value area range m
  members_none none m = (
    λ c. absurd (no_element m c),
    λ w.
        let wrong : None ≡ Some w.2.0 = ap (λ (o : Option RangeNetworksValue). cost_among o m.network) none ∙ sym (cost_of m w.0 w.1) ∙ w.2.1 in
        cc,
  )

  -- or these
  pub members_there : (networks : RangeNetworksValue) → Some networks ≡ lookup (is_at (range_cmp at_range)) rs → (m : RangeMember) → Contains (map (member_of at_range) (keys_of networks.entries)) m ↔ IsMemberIn value area range m
  members_there networks stands m =
      let of : m.range ≡ range → m.area ≡ area → get value.members m ≡ lookup (is_at (network_cmp m.network)) networks.entries =
      λ prefix id. cost_of m prefix id ∙ ap (λ (o : Option RangeNetworksValue). cost_among o m.network) (sym stands) in (
        λ c.
            let from = mapped_from (member_of at_range) (keys_of networks.entries) m c in
            let prefix : m.range ≡ range = ap (λ (x : RangeMember). x.range) (sym from.2) in
            let id : m.area ≡ area = ap (λ (x : RangeMember). x.area) (sym from.2) in
            let key : Contains (keys_of networks.entries) m.network = subst (λ (p : Prefix). Contains (keys_of networks.entries) p) (ap (λ (x : RangeMember). x.network) from.2) from.1 in
            let some = some_value (lookup (is_at (network_cmp m.network)) networks.entries) (IsSome-lookup_from_Contains (eq_by_cmp_equiv network_total) m.network networks.entries key) in
            (prefix, id, (some.0, of prefix id ∙ some.1)),
        λ w.
            let key = Contains-keys_from_lookup (tells_apart network_exact) m.network networks.entries (ap is_some (sym (of w.0 w.1) ∙ w.2.1)) in
            let same : member_of at_range m.network ≡ m = λ i. record { range = (sym w.0) i; area = (sym w.1) i; network = m.network } in
            subst (λ (x : RangeMember). Contains (map (member_of at_range) (keys_of networks.entries)) x) same (mapped_element (member_of at_range) (keys_of networks.entries) m.network key),
      )

-- ---- a range that has a member has all that it can have

module _ (before : List AreaConfig) (entries : EntriesByPrefix) (old : ActiveValue) (area : ℕ) (range : Prefix) (was : AreRangesOf before entries old) (had : List RangeMember)
    (exact : (m : RangeMember) → Contains had m ↔ IsMemberIn old area range m) where
  -- it was configured
  configured_before : (m : RangeMember) → Contains had m → IsConfigured before area range
  configured_before m c =
      let is = (exact m).0 c in
      let w : IsMember before entries m is.2.0 = (was.members m is.2.0).0 is.2.1 in
      subst (λ (n : ℕ). IsConfigured before n range) is.1 (subst (λ (p : Prefix). IsConfigured before m.area p) is.0 w.4)

  -- so these are the members within it
  pub all_within : (first : RangeMember) → Contains had first → (m : RangeMember) → Contains had m ↔ IsMemberWithin entries area range m
  all_within first there m = (
    λ c.
        let is = (exact m).0 c in
        let w : IsMember before entries m is.2.0 = (was.members m is.2.0).0 is.2.1 in
        (is.1, is.0, (w.0, w.1, w.2 ∙ ap Some is.1, subst (λ (p : Prefix). Covers p m.network) is.0 w.5)),
    λ within.
        let e = within.2 in
        let configured = subst (λ (n : ℕ). IsConfigured before n m.range) (sym within.0) (subst (λ (p : Prefix). IsConfigured before area p) (sym within.1) (configured_before first there)) in
        let covers = subst (λ (p : Prefix). Covers p m.network) (sym within.1) e.3 in
        (exact m).1 (within.1, within.0, (e.0.cost, (was.members m e.0.cost).1 (e.0, e.1, e.2 ∙ ap Some (sym within.0), refl, configured, covers))),
  )

  -- and they have the costs of their entries
  pub stood_followed : (first : RangeMember) → Contains had first → AreMembersFollowed entries had old old
  stood_followed first there = record {
    spent = refl;
    here = λ m c cost.
        let is = (exact m).0 c in
        let w : IsMember before entries m is.2.0 = (was.members m is.2.0).0 is.2.1 in (
          λ h. let x : IsMember before entries m cost = (was.members m cost).0 h in (x.0, x.1, x.2, x.3),
          λ x. (was.members m cost).1 (x.0, x.1, x.2, x.3, w.4, w.5),
        );
    others = λ m absent. refl;
  }

-- a member that is not listed has no cost
pub none_but : (old : ActiveValue) (area : ℕ) (range : Prefix) (had : List RangeMember) → ((m : RangeMember) → Contains had m ↔ IsMemberIn old area range m) → (m : RangeMember) → m.range ≡ range → m.area ≡ area → (Contains had m → ⊥)
    → get old.members m ≡ None
none_but old area range had exact m prefix id absent = no_value (get old.members m) (λ cost is. absent ((exact m).1 (prefix, id, (cost, is))))

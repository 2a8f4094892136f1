-- The effect of a range that is set or dropped.
--   ranges_reconfigured: active ranges belong to the other areas
--   active_alike: other prefixes are active as before
--   members_stay: members differ only where the network is named and lies in the range
use Rattle.std.proofs.Common.{◌≡◌, ℕ, List, Option, Some, None, refl, sym, ap, subst, ◌∙◌, inl, inr}
use Rattle.std.specs.Prelude.{◌↔◌, Contains}
use Rattle.std.specs.FinMap.{empty, get, get-empty}
use Rattle.ospf_types.specs.declared.config.AreaConfig.{AreaConfig}
use Rattle.ospf_types.specs.declared.config.Range.{Range}
use Rattle.ospf_types.specs.declared.key.Dest.{Dest}
use Rattle.ospf_types.specs.declared.key.Dest.TheVariants.{Net}
use Rattle.ospf_types.specs.declared.prefix.Prefix.{Prefix}
use Rattle.ospf_types.specs.Address.{Covers}
use Rattle.ospf_types.specs.Network.{network_cmp}
use Rattle.intra.specs.Intras.{EntriesByPrefix}
use Rattle.active_ranges.specs.Active.{ActiveValue, AreRangesOf, EntriesDifferAmong, IsActiveIn, IsConfigured, IsMember, IsMemberWithin, IsRangeNamed, IsRangeNetwork, RangesDifferAt}
use Rattle.active_ranges.specs.Following.{AreMembersFollowed, IsCostIn}
use Rattle.active_ranges.specs.declared.member.RangeMember.{RangeMember}
use Rattle.active_ranges.proofs.Following.{among_or_not}
use Rattle.active_ranges.proofs.Members.{member_total, member_exact}

abbrev one : ℕ → Prefix → Option (ℕ × Prefix)
one area range = Some (area, range)

some_pair : (x y : ℕ × Prefix) → Some x ≡ Some y → x ≡ y
some_pair x y e = cc

-- ---- what is configured in both

module _ (named : Option (ℕ × Prefix)) (before after : List AreaConfig) (differ : RangesDifferAt named before after) (area : ℕ) (range : Prefix) (other : named ≡ Some (area, range) → ⊥) where
  unnamed : (r : Range) → r.prefix ≡ range → named ≡ Some (area, r.prefix) → ⊥
  unnamed r is e = other (subst (λ (q : Prefix). named ≡ Some (area, q)) is e)

  pub configured_after : IsConfigured before area range → IsConfigured after area range
  configured_after w = let now = (differ area w.1 (unnamed w.1 w.5)).1 (w.0, w.2, w.3, w.4) in (now.0, w.1, now.1, now.2, now.3, w.5)

  pub configured_before : IsConfigured after area range → IsConfigured before area range
  configured_before w = let was = (differ area w.1 (unnamed w.1 w.5)).0 (w.0, w.2, w.3, w.4) in (was.0, w.1, was.1, was.2, was.3, w.5)

-- ---- the members of the range follow

module _ (before after : List AreaConfig) (area : ℕ) (range : Prefix) (differ : RangesDifferAt (Some (area, range)) before after) (entries : EntriesByPrefix) (old new : ActiveValue) (was : AreRangesOf before entries old)
    (members : List RangeMember) (exact : (m : RangeMember) → Contains members m ↔ IsMemberWithin entries area range m) where
  -- a network within the range is its member where the range is configured
  member_here : IsConfigured after area range → (m : RangeMember) (cost : ℕ) → Contains members m → IsCostIn (get entries m.network) m.area cost ↔ IsMember after entries m cost
  member_here configured m cost c =
      let is = (exact m).0 c in
      let own : IsConfigured after m.area m.range = subst (λ (id : ℕ). IsConfigured after id m.range) (sym is.0) (subst (λ (q : Prefix). IsConfigured after area q) (sym is.1) configured) in
      let covers : Covers m.range m.network = subst (λ (q : Prefix). Covers q m.network) (sym is.1) is.2.3 in (
        λ w. (w.0, w.1, w.2, w.3, own, covers),
        λ w. (w.0, w.1, w.2, w.3),
      )

  -- and `None` if it is not
  none_here : (IsConfigured after area range → ⊥) → (m : RangeMember) (cost : ℕ) → Contains members m → IsCostIn (get (empty {R = network_cmp}) m.network) m.area cost ↔ IsMember after entries m cost
  none_here absent m cost c =
      let is = (exact m).0 c in (
        λ w. let none = sym (get-empty network_cmp m.network) ∙ w.1 in absurd cc,
        λ w. absurd (absent (subst (λ (q : Prefix). IsConfigured after area q) is.1 (subst (λ (id : ℕ). IsConfigured after id m.range) is.0 w.4))),
      )

  -- a member of another range, or of another area
  other_range : (m : RangeMember) → (Contains members m → ⊥) → IsRangeNetwork entries m.area m.range m.network → one area range ≡ one m.area m.range → ⊥
  other_range m absent within e =
      let mine : ℕ × Prefix = (area, range) in
      let theirs : ℕ × Prefix = (m.area, m.range) in
      let same : mine ≡ theirs = some_pair mine theirs e in
      let id : m.area ≡ area = sym (ap (λ (x : ℕ × Prefix). x.0) same) in
      let prefix : m.range ≡ range = sym (ap (λ (x : ℕ × Prefix). x.1) same) in
      absent ((exact m).1 (id, prefix, subst (λ (n : ℕ). IsRangeNetwork entries n range m.network) id (subst (λ (q : Prefix). IsRangeNetwork entries m.area q m.network) prefix within)))

  member_elsewhere : (m : RangeMember) (cost : ℕ) → (Contains members m → ⊥) → IsMember before entries m cost ↔ IsMember after entries m cost
  member_elsewhere m cost absent = (
    λ w. (w.0, w.1, w.2, w.3, configured_after (Some (area, range)) before after differ m.area m.range (other_range m absent (w.0, w.1, w.2, w.5)) w.4, w.5),
    λ w. (w.0, w.1, w.2, w.3, configured_before (Some (area, range)) before after differ m.area m.range (other_range m absent (w.0, w.1, w.2, w.5)) w.4, w.5),
  )

  -- the members have the costs of members now
  followed_by : (costs : EntriesByPrefix) → AreMembersFollowed costs members old new → ((m : RangeMember) (cost : ℕ) → Contains members m → IsCostIn (get costs m.network) m.area cost ↔ IsMember after entries m cost) → AreRangesOf after entries new
  followed_by costs followed are = record {
    fresh = followed.spent ∙ was.fresh;
    members = λ m cost. elim (among_or_not member_total member_exact members m) [
      | inl c ↦ let here = followed.here m c cost in let is = are m cost c in (λ h. is.0 (here.0 h), λ w. here.1 (is.1 w))
      | inr absent ↦
          let kept = followed.others m absent in
          let is = was.members m cost in
          let same = member_elsewhere m cost absent in (
            λ h. same.0 (is.0 (sym kept ∙ h)),
            λ w. kept ∙ is.1 (same.1 w),
          )
    ];
  }

  pub ranges_set : IsConfigured after area range → AreMembersFollowed entries members old new → AreRangesOf after entries new
  ranges_set configured followed = followed_by entries followed (member_here configured)

  pub ranges_dropped : (IsConfigured after area range → ⊥) → AreMembersFollowed empty members old new → AreRangesOf after entries new
  ranges_dropped absent followed = followed_by empty followed (none_here absent)

-- ---- what is active otherwise

module _ (named : Option (ℕ × Prefix)) (before after : List AreaConfig) (differ : RangesDifferAt named before after) (entries : EntriesByPrefix) (old new : ActiveValue) (was : AreRangesOf before entries old) (are : AreRangesOf after entries new) where
  pub active_alike : (p : Prefix) → ((area : ℕ) → named ≡ Some (area, p) → ⊥) → IsActiveIn new p ↔ IsActiveIn old p
  active_alike p other = (
    λ w.
        let m = w.0 in
        let is : IsMember after entries m w.1 = (are.members m w.1).0 w.2 in
        let apart : named ≡ Some (m.area, m.range) → ⊥ = λ e. other m.area (subst (λ (q : Prefix). named ≡ Some (m.area, q)) w.3 e) in
        (m, w.1, (was.members m w.1).1 (is.0, is.1, is.2, is.3, configured_before named before after differ m.area m.range apart is.4, is.5), w.3),
    λ w.
        let m = w.0 in
        let is : IsMember before entries m w.1 = (was.members m w.1).0 w.2 in
        let apart : named ≡ Some (m.area, m.range) → ⊥ = λ e. other m.area (subst (λ (q : Prefix). named ≡ Some (m.area, q)) w.3 e) in
        (m, w.1, (are.members m w.1).1 (is.0, is.1, is.2, is.3, configured_after named before after differ m.area m.range apart is.4, is.5), w.3),
  )

-- ---- the members of active ranges

same_option : (o p : Option ℕ) → ((n : ℕ) → o ≡ Some n → p ≡ Some n) → ((n : ℕ) → p ≡ Some n → o ≡ Some n) → p ≡ o
same_option (Some n) p there back = there n refl
same_option None (Some n) there back = sym (back n refl)
same_option None None there back = refl

-- they differ only where the network is named and lies in the range
module _ (named : Option (ℕ × Prefix)) (areas others : List AreaConfig) (differ : RangesDifferAt named areas others) (dests : List Dest) (before after : EntriesByPrefix) (whole : IsRangeNamed named dests before)
    (entries : EntriesDifferAmong dests before after) (old new : ActiveValue) (was : AreRangesOf areas before old) (are : AreRangesOf others after new) where
  apart_there : (m : RangeMember) → (Contains dests (Net m.network) → ⊥) → IsRangeNetwork before m.area m.range m.network → named ≡ Some (m.area, m.range) → ⊥
  apart_there m absent within e = absent ((whole m.area m.range e).1 m.network within)

  pub members_stay : (m : RangeMember) → (Contains dests (Net m.network) → Covers m.range m.network → ⊥) → get new.members m ≡ get old.members m
  members_stay m absent =
      same_option (get old.members m) (get new.members m)
      (λ cost is.
      let w : IsMember areas before m cost = (was.members m cost).0 is in
      let out : Contains dests (Net m.network) → ⊥ = λ c. absent c w.5 in
      let entry = entries m.network out in
      (are.members m cost).1 (w.0, entry ∙ w.1, w.2, w.3, configured_after named areas others differ m.area m.range (apart_there m out (w.0, w.1, w.2, w.5)) w.4, w.5))
      (λ cost is.
      let w : IsMember others after m cost = (are.members m cost).0 is in
      let out : Contains dests (Net m.network) → ⊥ = λ c. absent c w.5 in
      let entry = sym (entries m.network out) ∙ w.1 in
      (was.members m cost).1 (w.0, entry, w.2, w.3, configured_before named areas others differ m.area m.range (apart_there m out (w.0, entry, w.2, w.5)) w.4, w.5))

-- ---- where no range differs

pub ranges_same : (areas : List AreaConfig) → RangesDifferAt None areas areas
ranges_same areas area r other = (λ w. w, λ w. w)

pub none_named : (dests : List Dest) (entries : EntriesByPrefix) → IsRangeNamed None dests entries
none_named dests entries area range e = absurd cc

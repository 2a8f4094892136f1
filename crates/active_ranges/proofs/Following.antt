-- Active ranges follow the routes, member by member, and what that makes of the prefixes that are
-- touched.
use Rattle.std.proofs.Common.{◌≡◌, ◌≢◌, ℕ, ◌+◌, ◌<◌, ◌≤◌, false, List, [], ◌∷◌, map, length, take, get_or, Option, Some, None, Ordering, refl, sym, ap, subst, ◌∙◌, ◌⊎◌, inl, inr}
use Rattle.std.specs.Prelude.{◌↔◌, Contains, IsSome, is_some}
use Rattle.std.specs.Cmp.{IsTotalOrder}
use Rattle.std.specs.FinMap.{IsAntisymmetric, get, empty, get-empty}
use Rattle.std.proofs.lemmas.List.{take_all}
use Rattle.ospf_types.specs.declared.config.AreaConfig.{AreaConfig}
use Rattle.ospf_types.specs.declared.entry.Entry.{Entry}
use Rattle.ospf_types.specs.declared.key.Dest.{Dest}
use Rattle.ospf_types.specs.declared.key.Dest.TheVariants.{Net}
use Rattle.ospf_types.specs.declared.prefix.Prefix.{Prefix}
use Rattle.ospf_types.specs.Address.{Covers}
use Rattle.ospf_types.specs.Network.{network_cmp}
use Rattle.ospf_types.proofs.Elements.{no_element, first_element, later_element, first_or_later, mapped_element, mapped_from}
use Rattle.ospf_types.proofs.Orders.{network_total, network_exact}
use Rattle.spf.proofs.OfSome.{contains_more}
use Rattle.intra.specs.Intras.{EntriesByPrefix}
use Rattle.intra.proofs.Following.{one_or_other}
use Rattle.active_ranges.specs.Active.{ActiveValue, AreRangesOf, DiffersAt, EntriesDifferAmong, IsConfigured, IsMember, member_cmp}
use Rattle.active_ranges.specs.Following.{AreMembersFollowed, HasTurned, IsCostIn, IsNamed, IsNotedOf}
use Rattle.active_ranges.specs.declared.active.Noted.{Noted}
use Rattle.active_ranges.specs.declared.member.RangeMember.{RangeMember}
use Rattle.active_ranges.proofs.Members.{member_total, member_exact}

-- ---- member by member

pub followed_none : (entries : EntriesByPrefix) (v : ActiveValue) → AreMembersFollowed entries [] v v
followed_none entries v = record {
  spent = refl;
  here = λ m c. absurd (no_element m c);
  others = λ m absent. refl;
}

pub followed_more : (entries : EntriesByPrefix) (old mid new : ActiveValue) (named : List RangeMember) (i : ℕ) (member : RangeMember) → i < length named → member ≡ get_or named i member → AreMembersFollowed entries (take i named) old mid
    → new.spent ≡ mid.spent → ((cost : ℕ) → (get new.members member ≡ Some cost) ↔ IsCostIn (get entries member.network) member.area cost)
    → ((m : RangeMember) → m ≢ member → get new.members m ≡ get mid.members m) → AreMembersFollowed entries (take (i + 1) named) old new
followed_more entries old mid new named i member lt at first spent here others = record {
  spent = spent ∙ first.spent;
  here = λ m c cost. elim (one_or_other member_total member_exact member m) [
    | inl e ↦ subst (λ (x : RangeMember). (get new.members x ≡ Some cost) ↔ IsCostIn (get entries x.network) x.area cost) (sym e) (here cost)
    | inr other ↦
        let early : Contains (take i named) m = elim ((contains_more named i member m lt at).0 c) [ inl early ↦ early | inr e ↦ absurd (other e) ] in
        subst (λ (o : Option ℕ). (o ≡ Some cost) ↔ IsCostIn (get entries m.network) m.area cost) (sym (others m other)) (first.here m early cost)
  ];
  others = λ m absent.
      let more = contains_more named i member m lt at in
      others m (λ e. absent (more.1 (inr e))) ∙ first.others m (λ c. absent (more.1 (inl c)));
}

pub followed_all : (entries : EntriesByPrefix) (old new : ActiveValue) (named : List RangeMember) (i : ℕ) → length named ≤ i → AreMembersFollowed entries (take i named) old new → AreMembersFollowed entries named old new
followed_all entries old new named i past followed = subst (λ (ms : List RangeMember). AreMembersFollowed entries ms old new) (take_all i named past) followed

-- a member that is none has no cost
pub left_here : (new : ActiveValue) (member : RangeMember) → get new.members member ≡ None → (cost : ℕ) → (get new.members member ≡ Some cost) ↔ IsCostIn (get (empty {R = network_cmp}) member.network) member.area cost
left_here new member none cost = (
  λ h. let wrong = sym none ∙ h in absurd cc,
  λ w. let wrong = sym (get-empty network_cmp member.network) ∙ w.1 in absurd cc,
)

-- ---- all ranges

-- whether a list has an element can be decided
pub among_or_not : {K : Type 0} {cmp : K → K → Ordering} → IsTotalOrder cmp → IsAntisymmetric cmp → (xs : List K) (x : K) → Contains xs x ⊎ (Contains xs x → ⊥)
among_or_not total exact [] x = inr (λ c. no_element x c)
among_or_not {K = K} total exact (y ∷ ys) x = elim (one_or_other total exact y x) [
  | inl e ↦ inl (subst (λ (z : K). Contains (z ∷ ys) x) e (first_element x ys))
  | inr other ↦ elim (among_or_not total exact ys x) [
    | inl c ↦ inl (later_element y x ys c)
    | inr absent ↦ inr (λ c. elim (first_or_later y x ys c) [ inl e ↦ other e | inr later ↦ absent later ])
  ]
]

module _ (areas : List AreaConfig) (dests : List Dest) (before entries : EntriesByPrefix) (old new : ActiveValue) (named : List RangeMember) (was : AreRangesOf areas before old)
    (differ : EntriesDifferAmong dests before entries) (exact : (m : RangeMember) → Contains named m ↔ IsNamed areas dests m) (followed : AreMembersFollowed entries named old new) where
  -- a member that is named
  at_named : (m : RangeMember) (cost : ℕ) → Contains named m → (get new.members m ≡ Some cost) ↔ IsMember areas entries m cost
  at_named m cost c =
      let n = (exact m).0 c in
      let is = followed.here m c cost in (
        λ h. let w = is.0 h in (w.0, w.1, w.2, w.3, n.1, n.2),
        λ w. is.1 (w.0, w.1, w.2, w.3),
      )

  -- and one that is not
  elsewhere : (m : RangeMember) (cost : ℕ) → (Contains named m → ⊥) → (get new.members m ≡ Some cost) ↔ IsMember areas entries m cost
  elsewhere m cost absent =
      let kept = followed.others m absent in
      let same : IsConfigured areas m.area m.range → Covers m.range m.network → get entries m.network ≡ get before m.network =
      λ configured covers. differ m.network (λ c. absent ((exact m).1 (c, configured, covers))) in (
        λ h. let w = (was.members m cost).0 (sym kept ∙ h) in (w.0, same w.4 w.5 ∙ w.1, w.2, w.3, w.4, w.5),
        λ w. kept ∙ (was.members m cost).1 (w.0, sym (same w.4 w.5) ∙ w.1, w.2, w.3, w.4, w.5),
      )

  pub ranges_followed : AreRangesOf areas entries new
  ranges_followed = record {
    fresh = followed.spent ∙ was.fresh;
    members = λ m cost. elim (among_or_not member_total member_exact named m) [ inl c ↦ at_named m cost c | inr absent ↦ elsewhere m cost absent ];
  }

-- ---- what is no longer as it was noted

module _ (old new : ActiveValue) (noted : List Noted) (notes : (n : Noted) → Contains noted n → IsNotedOf old n) (turned : List Prefix)
    (exact : (p : Prefix) → Contains turned p ↔ ((n : Noted) × Contains noted n × (n.prefix ≡ p) × HasTurned new n)) where
  turned_differs : (p : Prefix) → Contains turned p → DiffersAt old new p
  turned_differs p c =
      let w = (exact p).0 c in
      let note = notes w.0 w.1 in
      subst (λ (q : Prefix). DiffersAt old new q) w.2 (elim w.3 [ inl left ↦ inl (note.0 left.0, left.1) | inr came ↦ inr (λ was. came.0 (note.1 was), came.1) ])

  noted_turns : (p : Prefix) → Contains (map (λ (n : Noted). n.prefix) noted) p → DiffersAt old new p → Contains turned p
  noted_turns p c d =
      let from = mapped_from (λ (n : Noted). n.prefix) noted p c in
      let note = notes from.0 from.1 in
      let here : DiffersAt old new from.0.prefix = subst (λ (q : Prefix). DiffersAt old new q) (sym from.2) d in
      (exact p).1 (from.0, from.1, from.2, elim here [ inl left ↦ inl (note.1 left.0, left.1) | inr came ↦ inr (λ active. came.0 (note.0 active), came.1) ])

module _ (entries : EntriesByPrefix) (old new : ActiveValue) (named : List RangeMember) (followed : AreMembersFollowed entries named old new) (touched : List Prefix)
    (ranges : (p : Prefix) → Contains touched p ↔ Contains (map (λ (m : RangeMember). m.range) named) p) (noted : List Noted) (listed : map (λ (n : Noted). n.prefix) noted ≡ touched)
    (notes : (n : Noted) → Contains noted n → IsNotedOf old n) (turned : List Prefix)
    (exact : (p : Prefix) → Contains turned p ↔ ((n : Noted) × Contains noted n × (n.prefix ≡ p) × HasTurned new n)) where
  kept : (p : Prefix) → (Contains touched p → ⊥) → (m : RangeMember) → m.range ≡ p → get new.members m ≡ get old.members m
  kept p absent m is = followed.others m (λ c. absent ((ranges p).1 (subst (λ (q : Prefix). Contains (map (λ (x : RangeMember). x.range) named) q) is (mapped_element (λ (x : RangeMember). x.range) named m c))))

  -- a range that is not touched is unchanged
  stays : (p : Prefix) → (Contains touched p → ⊥) → DiffersAt old new p → ⊥
  stays p absent d = elim d [
    | inl left ↦ let w = left.0 in left.1 (w.0, w.1, kept p absent w.0 w.3 ∙ w.2, w.3)
    | inr came ↦ let w = came.1 in came.0 (w.0, w.1, sym (kept p absent w.0 w.3) ∙ w.2, w.3)
  ]

  pub all_turned : (p : Prefix) → Contains turned p ↔ DiffersAt old new p
  all_turned p = (
    turned_differs old new noted notes turned exact p,
    λ d. elim (among_or_not network_total network_exact touched p) [
      | inr absent ↦ absurd (stays p absent d)
      | inl c ↦ noted_turns old new noted notes turned exact p (subst (λ (ps : List Prefix). Contains ps p) (sym listed) c) d
    ],
  )

-- ---- from no routes

pub no_ranges : (areas : List AreaConfig) → AreRangesOf areas empty (record { members = empty; spent = false })
no_ranges areas = record {
  fresh = refl;
  members = λ m cost. (
    λ h. let none = sym (get-empty member_cmp m) ∙ h in absurd cc,
    λ w. let none = sym (get-empty network_cmp m.network) ∙ w.1 in absurd cc,
  );
}

-- an entry, or none
at_most : (entries : EntriesByPrefix) (p : Prefix) (o : Option Entry) → get entries p ≡ o → (IsSome (get entries p) → ⊥) → get entries p ≡ None
at_most entries p None is none = is
at_most entries p (Some e) is none = absurd (none (ap is_some is))

pub all_differ : (entries : EntriesByPrefix) (networks : List Prefix) (dests : List Dest) → dests ≡ map Net networks → ((p : Prefix) → Contains networks p ↔ IsSome (get entries p)) → EntriesDifferAmong dests empty entries
all_differ entries networks dests listed exact p absent =
    at_most entries p (get entries p) refl (λ some. absent (subst (λ (ds : List Dest). Contains ds (Net p)) (sym listed) (mapped_element Net networks p ((exact p).1 some)))) ∙ sym (get-empty network_cmp p)

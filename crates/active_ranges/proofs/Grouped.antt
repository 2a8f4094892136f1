-- The members of ranges, by their ranges.
--   found: the cost of a member belongs to its network in its range
--   changed_here, changed_elsewhere: a range that has other networks
--   put_here, put_elsewhere: a member at another cost
use Rattle.std.proofs.Common.{◌≡◌, ◌≢◌, ℕ, Bool, cond, true, false, not, List, [], ◌∷◌, ◌++◌, map, Option, Some, None, Ordering, refl, sym, ap, ◌∙◌, inl, inr}
use Rattle.std.specs.Prelude.{filter}
use Rattle.std.specs.declared.cmp.Ordering.TheVariants.{Less, Equal, Greater}
use Rattle.std.specs.Ordering.{nat_cmp, ordering_then, is_eq}
use Rattle.std.specs.Cmp.{IsTotalOrder, nat_cmp_total, eq_by_cmp_equiv}
use Rattle.std.specs.Map.{lookup}
use Rattle.std.specs.Option.{option_or}
use Rattle.std.specs.BTreeMap.{is_at}
use Rattle.std.specs.FinMap.{get, from_entries}
use Rattle.std.proofs.lemmas.Cmp.{on_total, then_total}
use Rattle.std.proofs.lemmas.Map.Entries.{lookup-filter-keys}
use Rattle.std.proofs.lemmas.Map.Lookups.{CmpEqualImpliesEq, exact_pairs, exact_unsigned}
use Rattle.std.proofs.lemmas.Map.Views.{tells_apart}
use Rattle.ospf_types.specs.declared.prefix.Prefix.{Prefix}
use Rattle.ospf_types.specs.Network.{network_cmp}
use Rattle.ospf_types.proofs.Maps.{get-lookup}
use Rattle.ospf_types.proofs.Orders.{network_total, network_exact}
use Rattle.intra.proofs.Following.{one_or_other}
use Rattle.active_ranges.specs.Active.{ActiveValue, member_cmp}
use Rattle.active_ranges.specs.Grouped.{RangeNetworksValue, NetworksByRange, is_elsewhere, member_in, member_of, members_in, range_cmp, range_of}
use Rattle.active_ranges.specs.declared.member.AreaRange.{AreaRange}
use Rattle.active_ranges.specs.declared.member.RangeMember.{RangeMember}
use Rattle.active_ranges.proofs.Members.{member_total, member_exact}

pub range_total : IsTotalOrder range_cmp
range_total = then_total (on_total (λ r. r.prefix) network_total) (on_total (λ r. r.area) nat_cmp_total)

pub range_exact : CmpEqualImpliesEq range_cmp
range_exact a b h =
    ap (λ (t : Prefix × ℕ). let r : AreaRange = record { prefix = t.0; area = t.1 } in r)
    (exact_pairs network_cmp nat_cmp network_exact exact_unsigned (a.prefix, a.area) (b.prefix, b.area) h)

-- ---- a lookup in a list that two make

pub lookup_in_two : {K X : Type 0} (test : K → Bool) (xs ys : List (K × X)) → lookup test (xs ++ ys) ≡ option_or (lookup test xs) (lookup test ys)
lookup_in_two test [] ys = refl
lookup_in_two {K = K} {X = X} test (x ∷ xs) ys =
    elim (test x.0) as (λ b. cond b (Some x.1) (lookup test (xs ++ ys)) ≡ option_or (cond b (Some x.1) (lookup test xs)) (lookup test ys)) [
      | true ↦ refl
      | false ↦ lookup_in_two test xs ys
    ]

or_none : {A : Type 0} (o : Option A) → option_or o None ≡ o
or_none None = refl
or_none (Some x) = refl

-- ---- the cost of a member

-- of its network, where the range has networks
abbrev pub cost_among : Option RangeNetworksValue → Prefix → Option ℕ
cost_among None network = None
cost_among (Some networks) network = lookup (is_at (network_cmp network)) networks.entries

-- a member is another's equal where its range and its network are
both_equal : (a b c : Ordering) → is_eq (ordering_then a (ordering_then b c)) ≡ cond (is_eq (ordering_then a b)) (is_eq c) false
both_equal Less b c = refl
both_equal Equal Less c = refl
both_equal Equal Equal c = refl
both_equal Equal Greater c = refl
both_equal Greater b c = refl

abbrev of_member : RangeMember → AreaRange → Bool
of_member m r = is_at (range_cmp (range_of m)) r

none_either : (b : Bool) → ◌≡◌ {A = Option ℕ} None (cond b None None)
none_either true = refl
none_either false = refl

among_one : (b c : Bool) (x y : Option ℕ) (n : ℕ) → y ≡ cond b x None → cond (cond b c false) (Some n) y ≡ cond b (cond c (Some n) x) None
among_one true c x y n is = ap (λ (o : Option ℕ). cond c (Some n) o) is
among_one false c x y n is = is

in_range : (m : RangeMember) (r : AreaRange) (es : List (Prefix × ℕ)) → lookup (is_at (member_cmp m)) (map (member_in r) es) ≡ cond (of_member m r) (lookup (is_at (network_cmp m.network)) es) None
in_range m r [] = none_either (of_member m r)
in_range m r (e ∷ es) =
    ap (λ (b : Bool). cond b (Some e.1) (lookup (is_at (member_cmp m)) (map (member_in r) es))) (both_equal (network_cmp m.range r.prefix) (nat_cmp m.area r.area) (network_cmp m.network e.0))
    ∙ among_one (of_member m r) (is_at (network_cmp m.network) e.0) (lookup (is_at (network_cmp m.network)) es) (lookup (is_at (member_cmp m)) (map (member_in r) es)) e.1 (in_range m r es)

this_or_others : (b : Bool) (here : Option ℕ) (networks : RangeNetworksValue) (others : Option ℕ) (rest : Option RangeNetworksValue) (network : Prefix) → here ≡ lookup (is_at (network_cmp network)) networks.entries → others ≡ cost_among rest network
    → option_or (cond b here None) (cond (not b) others None) ≡ cost_among (cond b (Some networks) rest) network
this_or_others true here networks others rest network is are = or_none here ∙ is
this_or_others false here networks others rest network is are = are

found_in : (m : RangeMember) (rs : NetworksByRange) → lookup (is_at (member_cmp m)) (members_in rs) ≡ cost_among (lookup (is_at (range_cmp (range_of m))) rs) m.network
found_in m [] = refl
found_in m (r ∷ rs) =
    let test : RangeMember → Bool = is_at (member_cmp m) in
    let own : List (RangeMember × ℕ) = map (member_in r.0) r.1.entries in
    let rest : List (RangeMember × ℕ) = members_in rs in
    let others = lookup-filter-keys test (is_elsewhere r.0) (is_elsewhere r.0 m) (λ k tied. ap (is_elsewhere r.0) (sym (tells_apart member_exact m k tied))) rest in
    lookup_in_two test own (filter (λ (x : RangeMember × ℕ). is_elsewhere r.0 x.0) rest)
    ∙ ap (λ (o : Option ℕ). option_or o (lookup test (filter (λ (x : RangeMember × ℕ). is_elsewhere r.0 x.0) rest))) (in_range m r.0 r.1.entries)
    ∙ ap (option_or (cond (of_member m r.0) (lookup (is_at (network_cmp m.network)) r.1.entries) None)) others
    ∙ this_or_others (of_member m r.0) (lookup (is_at (network_cmp m.network)) r.1.entries) r.1 (lookup test rest) (lookup (is_at (range_cmp (range_of m))) rs) m.network refl (found_in m rs)

abbrev pub ranges_value : NetworksByRange → Bool → ActiveValue
ranges_value rs spent = record { members = from_entries (members_in rs); spent = spent }

pub found : (rs : NetworksByRange) (spent : Bool) (m : RangeMember) → get (ranges_value rs spent).members m ≡ cost_among (lookup (is_at (range_cmp (range_of m))) rs) m.network
found rs spent m = get-lookup member_total (members_in rs) m ∙ found_in m rs

-- ---- one range has other networks

module _ (es fs : NetworksByRange) (was is : Bool) (r : AreaRange) (new : Option RangeNetworksValue)
    (updates : (q : AreaRange) → lookup (is_at (range_cmp q)) fs ≡ cond (is_at (range_cmp r) q) new (lookup (is_at (range_cmp q)) es)) where
  -- its members have costs of them
  pub changed_here : (m : RangeMember) → range_of m ≡ r → get (ranges_value fs is).members m ≡ cost_among new m.network
  changed_here m same =
      found fs is m ∙ ap (λ (o : Option RangeNetworksValue). cost_among o m.network) (updates (range_of m) ∙ ap (λ (b : Bool). cond b new (lookup (is_at (range_cmp (range_of m))) es)) (ap (is_at (range_cmp r)) same ∙ (eq_by_cmp_equiv range_total).refl r))

  -- and the others what they had
  pub changed_elsewhere : (m : RangeMember) → (range_of m ≡ r → ⊥) → get (ranges_value fs is).members m ≡ get (ranges_value es was).members m
  changed_elsewhere m other =
      let apart : is_at (range_cmp r) (range_of m) ≡ false =
      elim (is_at (range_cmp r) (range_of m)) as (λ b. is_at (range_cmp r) (range_of m) ≡ b → b ≡ false) [ true ↦ λ tied. absurd (other (sym (tells_apart range_exact r (range_of m) tied))) | false ↦ λ tied. refl ] refl in
      found fs is m ∙ ap (λ (o : Option RangeNetworksValue). cost_among o m.network) (updates (range_of m) ∙ ap (λ (b : Bool). cond b new (lookup (is_at (range_cmp (range_of m))) es)) apart) ∙ sym (found es was m)

-- ---- one member has another cost

module _ (es fs : NetworksByRange) (was is : Bool) (member : RangeMember) (cost : Option ℕ) (had : Option RangeNetworksValue) (new : RangeNetworksValue) (stood : lookup (is_at (range_cmp (range_of member))) es ≡ had)
    (updates : (q : AreaRange) → lookup (is_at (range_cmp q)) fs ≡ cond (is_at (range_cmp (range_of member)) q) (Some new) (lookup (is_at (range_cmp q)) es))
    (within : (q : Prefix) → lookup (is_at (network_cmp q)) new.entries ≡ cond (is_at (network_cmp member.network) q) cost (cost_among had q)) where
  pub put_here : get (ranges_value fs is).members member ≡ cost
  put_here =
      changed_here es fs was is (range_of member) (Some new) updates member refl ∙ within member.network
      ∙ ap (λ (b : Bool). cond b cost (cost_among had member.network)) ((eq_by_cmp_equiv network_total).refl member.network)

  pub put_elsewhere : (m : RangeMember) → m ≢ member → get (ranges_value fs is).members m ≡ get (ranges_value es was).members m
  put_elsewhere m other = elim (one_or_other range_total range_exact (range_of member) (range_of m)) [
    | inr apart ↦ changed_elsewhere es fs was is (range_of member) (Some new) updates m apart
    | inl same ↦
        let network_apart : is_at (network_cmp member.network) m.network ≡ false =
        elim (is_at (network_cmp member.network) m.network) as (λ b. is_at (network_cmp member.network) m.network ≡ b → b ≡ false) [
          | true ↦ λ tied.
              let network : member.network ≡ m.network = tells_apart network_exact member.network m.network tied in
              absurd (other (λ i. record { range = (same i).prefix; area = (same i).area; network = (sym network) i }))
          | false ↦ λ tied. refl
        ] refl in
        changed_here es fs was is (range_of member) (Some new) updates m same ∙ within m.network
        ∙ ap (λ (b : Bool). cond b cost (cost_among had m.network)) network_apart
        ∙ ap (λ (o : Option RangeNetworksValue). cost_among o m.network) (sym stood ∙ ap (λ (r : AreaRange). lookup (is_at (range_cmp r)) es) (sym same)) ∙ sym (found es was m)
  ]

-- ---- the first member of a range

module _ (es fs : NetworksByRange) (was is : Bool) (r : AreaRange) (network : Prefix) (cost : ℕ) (none new : RangeNetworksValue) (empty : none.entries ≡ [])
    (within : (q : Prefix) → lookup (is_at (network_cmp q)) new.entries ≡ cond (is_at (network_cmp network) q) (Some cost) (lookup (is_at (network_cmp q)) none.entries))
    (updates : (q : AreaRange) → lookup (is_at (range_cmp q)) fs ≡ cond (is_at (range_cmp r) q) (Some new) (lookup (is_at (range_cmp q)) es)) where
  alone : (q : Prefix) → lookup (is_at (network_cmp q)) new.entries ≡ cond (is_at (network_cmp network) q) (Some cost) None
  alone q = within q ∙ ap (λ (xs : List (Prefix × ℕ)). cond (is_at (network_cmp network) q) (Some cost) (lookup (is_at (network_cmp q)) xs)) empty

  pub first_here : get (ranges_value fs is).members (member_of r network) ≡ Some cost
  first_here =
      changed_here es fs was is r (Some new) updates (member_of r network) refl ∙ alone network ∙ ap (λ (b : Bool). cond b (Some cost) None) ((eq_by_cmp_equiv network_total).refl network)

  pub first_elsewhere : ((p : Prefix) → get (ranges_value es was).members (member_of r p) ≡ None) → (m : RangeMember) → m ≢ member_of r network → get (ranges_value fs is).members m ≡ get (ranges_value es was).members m
  first_elsewhere had_none m other = elim (one_or_other range_total range_exact r (range_of m)) [
    | inr apart ↦ changed_elsewhere es fs was is r (Some new) updates m apart
    | inl same ↦
        let network_apart : is_at (network_cmp network) m.network ≡ false =
        elim (is_at (network_cmp network) m.network) as (λ b. is_at (network_cmp network) m.network ≡ b → b ≡ false) [
          | true ↦ λ tied.
              let equal : network ≡ m.network = tells_apart network_exact network m.network tied in
              absurd (other (λ i. record { range = (same i).prefix; area = (same i).area; network = (sym equal) i }))
          | false ↦ λ tied. refl
        ] refl in
        let is_member : member_of r m.network ≡ m = λ i. record { range = ((sym same) i).prefix; area = ((sym same) i).area; network = m.network } in
        changed_here es fs was is r (Some new) updates m same ∙ alone m.network ∙ ap (λ (b : Bool). cond b (Some cost) None) network_apart
        ∙ sym (had_none m.network) ∙ ap (get (ranges_value es was).members) is_member
  ]

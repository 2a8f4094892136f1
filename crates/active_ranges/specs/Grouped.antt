-- Members by the ranges that have them.
use Rattle.std.specs.Prelude.{ℕ, ◌≡◌, ◌<◌, ◌≤◌, Bool, cond, not, Contains, List, [], ◌∷◌, ◌++◌, length, map, filter, get_or, Option, Some}
use Rattle.std.specs.BTreeMap.{is_at}
use Rattle.std.specs.List.Sorted.{IsPartitionPoint}
use Rattle.std.specs.Map.{keys_of, lookup}
use Rattle.std.specs.Ordering.{nat_cmp, ordering_then}
use Rattle.std.specs.declared.cmp.Ordering.{Ordering}
use Rattle.std.specs.declared.cmp.Ordering.TheVariants.{Less, Greater}
use Rattle.ospf_types.specs.declared.prefix.Prefix.{Prefix}
use Rattle.ospf_types.specs.Network.{network_cmp}
use Rattle.active_ranges.specs.declared.member.AreaRange.{AreaRange}
use Rattle.active_ranges.specs.declared.member.RangeMember.{RangeMember}

-- by prefix, then area
abbrev pub range_cmp : AreaRange → AreaRange → Ordering
range_cmp x y = ordering_then (network_cmp x.prefix y.prefix) (nat_cmp x.area y.area)

-- the range that has a member
abbrev pub range_of : RangeMember → AreaRange
range_of m = record { prefix = m.range; area = m.area }

-- the networks of a range, ascending, each at its cost
pub record RangeNetworksValue : Type 0 where
  pub entries : List (Prefix × ℕ)

abbrev pub NetworksByRange : Type 0
NetworksByRange = List (AreaRange × RangeNetworksValue)

-- one of them has this cost
abbrev pub IsCostOf : RangeNetworksValue → ℕ → Type 0
IsCostOf networks cost = (network : Prefix) × (lookup (is_at (network_cmp network)) networks.entries ≡ Some cost)

-- the network has this cost now, or none, and the others have what they had
abbrev pub IsPutIn : RangeNetworksValue → Prefix → Option ℕ → RangeNetworksValue → Type 0
IsPutIn old network cost new =
    (q : Prefix) → lookup (is_at (network_cmp q)) new.entries ≡ cond (is_at (network_cmp network) q) cost (lookup (is_at (network_cmp q)) old.entries)

-- it has just the networks given, each at a cost given with it
pub record AreMadeOf (came : List (Prefix × ℕ)) (networks : RangeNetworksValue) : Type 0 where
  pub there : (p : Prefix) → Contains (keys_of came) p → (cost : ℕ) × (lookup (is_at (network_cmp p)) networks.entries ≡ Some cost)
  pub costs : (p : Prefix) (cost : ℕ) → lookup (is_at (network_cmp p)) networks.entries ≡ Some cost → Contains came (p, cost)

-- ---- places among the networks

-- it is at this place
pub record IsNetworkAt (es : List (Prefix × ℕ)) (network : Prefix) (at : ℕ) : Type 0 where
  pub in_range : at < length es
  pub here : (e : Prefix × ℕ) → (get_or es at e).0 ≡ network

-- it is not there, and would go to this place
pub record IsGapFor (es : List (Prefix × ℕ)) (network : Prefix) (at : ℕ) : Type 0 where
  pub in_range : at ≤ length es
  pub apart : IsPartitionPoint (λ (e : Prefix × ℕ). network_cmp e.0 network ≡ Less) (λ (e : Prefix × ℕ). network_cmp e.0 network ≡ Greater) es at

-- the network as a member of the range
abbrev pub member_of : AreaRange → Prefix → RangeMember
member_of r network = record { range = r.prefix; area = r.area; network = network }

abbrev pub member_in : AreaRange → Prefix × ℕ → RangeMember × ℕ
member_in r x = (member_of r x.0, x.1)

-- the member is of another range
abbrev pub is_elsewhere : AreaRange → RangeMember → Bool
is_elsewhere r m = not (is_at (range_cmp (range_of m)) r)

-- the members of all ranges (a range occurs once; if one occurred twice, its first networks would
-- count)
abbrev pub members_in : NetworksByRange → List (RangeMember × ℕ)
members_in [] = []
members_in (r ∷ rs) = map (member_in r.0) r.1.entries ++ filter (λ x. is_elsewhere r.0 x.0) (members_in rs)

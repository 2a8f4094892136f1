-- Which of two instances of an LSA is newer, and when their contents differ (RFC 2328, 13.1 and
-- 13.2).
use Rattle.std.specs.Prelude.{ℕ, ◌+◌, ◌≡◌, ◌↔◌, nat_lt, ◌==◌, if◌then◌else◌}
use Rattle.std.specs.Int.{w32, cast_signed}
use Rattle.std.specs.Ordering.{nat_cmp, int_cmp, ordering_then}
use Rattle.std.specs.declared.cmp.Ordering.{Ordering}
use Rattle.std.specs.declared.cmp.Ordering.TheVariants.{Less, Equal, Greater}
use Rattle.ospf_types.specs.declared.lsa.Header.{Header}
use Rattle.ospf_types.specs.declared.lsa.Newer.{Newer}
use Rattle.ospf_types.specs.declared.lsa.Newer.TheVariants.{First, Second, Same}
use Rattle.ospf_types.specs.Lsa.{Lsa, MaxAge}

-- ages that differ by no more count as the same
abbrev pub MaxAgeDiff : ℕ
MaxAgeDiff = 900

-- The greater is newer: the only one at MaxAge; else, if the ages differ by more than MaxAgeDiff,
-- the younger (RFC 2328, 13.1).
abbrev pub age_cmp : ℕ → ℕ → Ordering
age_cmp x y =
    if x == y then Equal
    else (if x == MaxAge then Greater
    else (if y == MaxAge then Less
    else (if nat_lt (x + MaxAgeDiff) y then Greater
    else (if nat_lt (y + MaxAgeDiff) x then Less else Equal))))

-- The greater is newer: by the signed sequence number, else by the checksum, else by age.
abbrev pub instance_cmp : Header → Header → Ordering
instance_cmp a b = ordering_then (int_cmp (cast_signed w32 a.seq) (cast_signed w32 b.seq)) (ordering_then (nat_cmp a.sum b.sum) (age_cmp a.age b.age))

abbrev pub newer_by : Ordering → Newer
newer_by Greater = First
newer_by Less = Second
newer_by Equal = Same

abbrev pub newer_of : Header → Header → Newer
newer_of a b = newer_by (instance_cmp a b)

-- the answer that speaks of the same instance if the two are given the other way round
abbrev pub swapped : Newer → Newer
swapped First = Second
swapped Second = First
swapped Same = Same

-- Neither Options, length nor body differ, and both are at MaxAge or neither is. Sequence number
-- and checksum do not count.
pub record HaveSameContents (l m : Lsa) : Type 0 where
  pub options : l.header.options ≡ m.header.options
  pub length : l.header.length ≡ m.header.length
  pub body : l.body ≡ m.body
  pub max_age : (l.header.age ≡ MaxAge) ↔ (m.header.age ≡ MaxAge)

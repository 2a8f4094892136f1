-- Area border routers and AS boundary routers that are reached (RFC 2328, 16.1): what is kept of
-- one.
use Rattle.std.specs.Prelude.{ℕ, ◌==◌, ◌||◌, ◌≡◌, ◌<◌, Bool, List, Contains, Option, Some, None, nat_lt, bit_and, if◌then◌else◌}
use Rattle.std.specs.FinMap.{FinMap}
use Rattle.std.specs.Ordering.{nat_cmp}
use Rattle.ospf_types.specs.declared.hop.NextHop.{NextHop}
use Rattle.ospf_types.specs.Intra.{B, E}

-- the bits of its router-LSA, its distance and its next hops
pub record ReachedValue : Type 0 where
  pub flags : ℕ
  pub distance : ℕ
  pub hops : List NextHop

abbrev pub ReachedByRouter : Type 0
ReachedByRouter = FinMap nat_cmp ReachedValue

-- bit B or bit E is set
abbrev pub is_abr_or_asbr : ℕ → Bool
is_abr_or_asbr flags = nat_lt 0 (bit_and flags B) || nat_lt 0 (bit_and flags E)

-- what is kept of a router: none of the root, of one that is not reached, and of one without both
-- bits
abbrev pub reached_by : ℕ → ℕ → Option ℕ → Option ℕ → List NextHop → Option ReachedValue
reached_by root router (Some flags) (Some distance) hops =
    if router == root then None else (if is_abr_or_asbr flags then Some (record { flags = flags; distance = distance; hops = hops }) else None)
reached_by root router (Some flags) None hops = None
reached_by root router None distance hops = None

-- a router with the bit, at this distance, over this next hop among others
abbrev pub HandsOut : ℕ → Option ReachedValue → ℕ → NextHop → Type 0
HandsOut flag None distance h = ⊥
HandsOut flag (Some r) distance h = (0 < bit_and r.flags flag) × (r.distance ≡ distance) × Contains r.hops h

-- Area border routers and AS boundary routers that are reached in an area (RFC 2328, 16.1).
use Rattle.std.specs.Prelude.{ℕ, ◌==◌, ◌+◌, ◌≡◌, ◌↔◌, ◌⊎◌, Bool, false, List, Contains, Option, Some, None, IsSome, count_by, is_some, option_and_then, if◌then◌else◌}
use Rattle.std.specs.FinMap.{get}
use Rattle.ospf_types.specs.declared.entry.Vertex.{Vertex}
use Rattle.ospf_types.specs.declared.entry.Vertex.TheVariants.{Router}
use Rattle.ospf_types.specs.Lsa.{Body}
use Rattle.lsa_codec.specs.Readers.{flags_of}
use Rattle.area_trees.specs.Areas.{IsStanding}
pub use Rattle.route_choice.specs.ReachedRouter.{ReachedValue, ReachedByRouter, is_abr_or_asbr, reached_by, HandsOut}
use Rattle.intra.specs.Inputs.{AreaValue, distance_at, hops_at}

-- there are bits, and bit B or bit E is among them
abbrev pub has_bits : Option ℕ → Bool
has_bits None = false
has_bits (Some flags) = is_abr_or_asbr flags

-- what is kept of a router of an area
abbrev pub IsReachedOf : ℕ → AreaValue → ℕ → Option ReachedValue → Type 0
IsReachedOf root a router value =
    (body : Option Body) × IsStanding a.lsas (Router router) body
    × (value ≡ reached_by root router (option_and_then flags_of body) (distance_at a (Router router)) (hops_at a (Router router)))

-- what is to be kept of a router with these bits, by the tree of the area
abbrev pub reached_in : ℕ → AreaValue → ℕ → Option ℕ → Option ReachedValue
reached_in root a router flags = reached_by root router flags (distance_at a (Router router)) (hops_at a (Router router))

-- nothing is kept of the vertex, if it is a router
abbrev pub KeepsNone : ReachedByRouter → Vertex → Type 0
KeepsNone reached v = (router : ℕ) → v ≡ Router router → get reached router ≡ None

-- each router of which something is kept occurs one time more, and the others occur as often as
-- before
abbrev pub HasOnceMore : ReachedByRouter → List ℕ → List ℕ → Type 0
HasOnceMore reached old new =
    (router : ℕ) → count_by (λ (r : ℕ). r == router) new ≡ count_by (λ (r : ℕ). r == router) old + (if is_some (get reached router) then 1 else 0)

-- the routers of which something is kept are there too
abbrev pub HasKeptToo : ReachedByRouter → List ℕ → List ℕ → Type 0
HasKeptToo reached old new = (router : ℕ) → Contains new router ↔ (Contains old router ⊎ IsSome (get reached router))

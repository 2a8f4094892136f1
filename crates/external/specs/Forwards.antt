-- Where forwarding addresses lead (RFC 2328, 16.4).
use Rattle.std.specs.Prelude.{ℕ, ◌≡◌, ◌≤◌, ◌⊎◌, ◌↔◌, Bool, List, Contains, Option, Some, None, IsSome, map}
use Rattle.std.specs.FinMap.{FinMap, get, from_entries}
use Rattle.std.specs.Ordering.{nat_cmp}
use Rattle.ospf_types.specs.declared.entry.Entry.{Entry}
use Rattle.ospf_types.specs.declared.hop.NextHop.{NextHop}
use Rattle.ospf_types.specs.declared.hop.Path.{Path}
use Rattle.ospf_types.specs.declared.key.Dest.TheVariants.{Net}
use Rattle.ospf_types.specs.declared.prefix.Prefix.{Prefix}
use Rattle.ospf_types.specs.Address.{HasAddress}
use Rattle.ospf_types.specs.Boundary.{class_of}
use Rattle.ospf_types.specs.External.{toward}
use Rattle.active_ranges.specs.Active.{IsActiveIn}
use Rattle.route_choice.specs.Results.{Results}
use Rattle.external.specs.Inputs.{ExternalInputsValue}

-- the class and the cost of a way, and its next hops
pub record WayValue : Type 0 where
  pub class : ℕ
  pub cost : ℕ
  pub hops : List NextHop

-- the longest match of a forwarding address, and where it leads: nowhere where it is a discard
pub record ForwardValue : Type 0 where
  pub matched : Option Prefix
  pub way : Option WayValue

abbrev pub ForwardsByAddress : Type 0
ForwardsByAddress = FinMap nat_cmp ForwardValue

-- where forwarding addresses lead, as it is kept
abbrev pub forwards_in : Results ℕ ForwardValue → ForwardsByAddress
forwards_in results = from_entries results.entries

-- the two ways have one class and one cost
abbrev pub HaveOneCost : WayValue → WayValue → Type 0
HaveOneCost way other = (way.class ≡ other.class) × (way.cost ≡ other.cost)

-- the next hops of the paths, each toward the address
abbrev pub hops_toward : ℕ → List Path → List NextHop
hops_toward address paths = map (λ path. toward address path.hop) paths

-- the network has an intra-area entry, else an inter-area one
abbrev pub internal_entry : ExternalInputsValue → Prefix → Option Entry
internal_entry v p = one_of (get v.intra.entries p) (get v.inter.entries (Net p))
  where
    one_of : Option Entry → Option Entry → Option Entry
    one_of (Some e) other = Some e
    one_of None other = other

-- the class of an entry: an intra-area one has that of its area
abbrev pub class_in : Bool → Option Entry → Option ℕ → ℕ
class_in compat (Some e) area = class_of compat area
class_in compat None area = class_of compat None

abbrev pub class_at : ExternalInputsValue → Prefix → Option ℕ → ℕ
class_at v p area = class_in v.compat (get v.intra.entries p) area

-- by one of its paths
abbrev pub InternalLeads : ExternalInputsValue → Prefix → ℕ → ℕ → NextHop → Type 0
InternalLeads v p class cost h = (e : Entry) × (path : Path) × (internal_entry v p ≡ Some e) × (e.cost ≡ cost) × (class_at v p e.area ≡ class) × Contains e.paths path × (path.hop ≡ h)

-- the network has an internal entry, or is the prefix of an active range
abbrev pub Matches : ExternalInputsValue → Prefix → Type 0
Matches v p = IsSome (internal_entry v p) ⊎ IsActiveIn v.active p

-- it contains the address, and no longer one does. Networks have at most 32 bits.
pub record IsLongest (v : ExternalInputsValue) (address : ℕ) (p : Prefix) : Type 0 where
  pub within : p.length ≤ 32
  pub contains : HasAddress p address
  pub matches : Matches v p
  pub longest : (q : Prefix) → q.length ≤ 32 → HasAddress q address → Matches v q → q.length ≤ p.length

-- the longest match, or `None` if nothing contains the address
abbrev pub IsMatchOf : ExternalInputsValue → ℕ → Option Prefix → Type 0
IsMatchOf v address None = (q : Prefix) → q.length ≤ 32 → HasAddress q address → Matches v q → ⊥
IsMatchOf v address (Some p) = IsLongest v address p

-- where the match leads: over its entry's next hops, each toward the address; nowhere without an
-- entry
abbrev pub LeadsByMatch : ExternalInputsValue → ℕ → Option Prefix → ℕ → ℕ → NextHop → Type 0
LeadsByMatch v address None class cost h = ⊥
LeadsByMatch v address (Some p) class cost h = (first : NextHop) × InternalLeads v p class cost first × (h ≡ toward address first)

abbrev pub WayOffers : Option WayValue → ℕ → ℕ → NextHop → Type 0
WayOffers None class cost h = ⊥
WayOffers (Some w) class cost h = (w.class ≡ class) × (w.cost ≡ cost) × Contains w.hops h

-- the way goes just where the match of the address leads
abbrev pub IsWayBy : ExternalInputsValue → ℕ → Option Prefix → Option WayValue → Type 0
IsWayBy v address matched way = (class cost : ℕ) (h : NextHop) → WayOffers way class cost h ↔ LeadsByMatch v address matched class cost h

-- what is kept of the address
pub record IsForwardOf (v : ExternalInputsValue) (address : ℕ) (f : ForwardValue) : Type 0 where
  pub matched : IsMatchOf v address f.matched
  pub way : IsWayBy v address f.matched f.way

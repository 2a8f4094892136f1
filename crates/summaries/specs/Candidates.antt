-- The sources of a summary for a destination, for any area.
use Rattle.std.specs.Prelude.{ℕ, ◌≡◌, ◌≢◌, ◌↔◌, ◌<◌, ◌≤◌, ◌⊎◌, Bool, IsTrue, List, Contains, Option, Some, None, map, length, if◌then◌else◌, ◌==◌}
use Rattle.std.specs.FinMap.{get}
use Rattle.ospf_types.specs.declared.config.AreaConfig.{AreaConfig}
use Rattle.ospf_types.specs.declared.entry.Entry.{Entry}
use Rattle.ospf_types.specs.declared.key.Dest.{Dest}
use Rattle.ospf_types.specs.declared.key.Dest.TheVariants.{Net, Router}
use Rattle.ospf_types.specs.declared.prefix.Prefix.{Prefix}
use Rattle.ospf_types.specs.Inter.{LSInfinity}
use Rattle.ospf_types.specs.Summaries.{IsGreatest}
use Rattle.external.specs.AsbrRoute.{PreferredValue}
use Rattle.summaries.specs.declared.giving.SummaryCandidate.{SummaryCandidate}
use Rattle.summaries.specs.declared.giving.Given.{Given}
use Rattle.summaries.specs.declared.giving.Through.{Through}
use Rattle.summaries.specs.Inputs.{SummaryInputsValue}
use Rattle.summaries.specs.Giving.{Advertises, GivesIn, IsComponentIn, IsDueIn, IsMost, IsNetworkDueIn, IsOutsideRanges, IsServed, PreferredGives}

-- it is the one that has the property, or `None` if nothing has it
abbrev pub IsOnly : {A : Type 0} → (A → Type 0) → Option A → Type 0
IsOnly {A} P result = (x : A) → (result ≡ Some x) ↔ P x

-- there is an entry, which leads through this area at this finite cost
abbrev pub LeadsThrough : Option Entry → Through → Type 0
LeadsThrough entry t = (e : Entry) × (entry ≡ Some e) × (e.area ≡ Some t.area) × (e.cost < LSInfinity) × (e.cost ≡ t.cost)

-- the network's intra-area entry, outside the ranges of its area
abbrev pub IsIntraThrough : SummaryInputsValue → Prefix → Through → Type 0
IsIntraThrough v p t = LeadsThrough (get v.intra.entries p) t × IsOutsideRanges v.areas t.area p

-- the preferred entry of a router
abbrev pub IsPreferredThrough : Option PreferredValue → Through → Type 0
IsPreferredThrough o t = (w : PreferredValue) × (o ≡ Some w) × (w.preference.area ≡ t.area) × (w.preference.cost < LSInfinity) × (w.preference.cost ≡ t.cost)

-- the area, at the greatest cost of its advertised range with the prefix
abbrev pub IsRangeThrough : SummaryInputsValue → AreaConfig → Prefix → Through → Type 0
IsRangeThrough v a p t = (t.area ≡ a.id) × Advertises a p × IsGreatest (IsComponentIn v a.id p) t.cost

-- ---- the greatest metrics

-- what has the greatest metric counts in other areas than its own, and what comes next in that
abbrev pub metric_beside : Option Through → Option ℕ → ℕ → Option ℕ
metric_beside None next area = next
metric_beside (Some t) next area = if t.area == area then next else Some t.cost

abbrev pub metric_into : Given → ℕ → Option ℕ
metric_into g area = metric_beside g.most g.next area

-- what comes next is no greater
abbrev pub IsOrdered : Given → Type 0
IsOrdered g = (m : ℕ) → g.next ≡ Some m → (t : Through) × (g.most ≡ Some t) × (m ≤ t.cost)

-- it gives the metric at which the network is due in the area, apart from what a stub area is sent
abbrev pub IsNetworkIn : SummaryInputsValue → ℕ → Prefix → Given → Type 0
IsNetworkIn v area p g = (m : ℕ) → (metric_into g area ≡ Some m) ↔ IsGreatest (GivesIn v area p) m

-- it gives the metric at which an AS boundary router with this preferred entry is due in each area,
-- apart from stub areas
abbrev pub IsAsbrDueIn : Option PreferredValue → Given → Type 0
IsAsbrDueIn preferred g = (area m : ℕ) → (metric_into g area ≡ Some m) ↔ PreferredGives preferred area m

-- in each area its metric is the greatest of the other's and of the metrics given
abbrev pub HasMostOf : Given → (ℕ → ℕ → Type 0) → Given → Type 0
HasMostOf own more g = (area : ℕ) → IsMost (λ n. (metric_into own area ≡ Some n) ⊎ more area n) (metric_into g area)

-- what gives one for the destination
abbrev pub AreOf : SummaryInputsValue → Dest → Given → Type 0
AreOf v (Net p) g = (area : ℕ) → IsNetworkIn v area p g
AreOf v (Router router) g = IsAsbrDueIn (get v.external.preferred router) g

abbrev pub IsSummaryCandidate : SummaryInputsValue → SummaryCandidate → Type 0
IsSummaryCandidate v c = AreOf v c.dest c.given

-- with fewer than two active areas nothing is due, and nothing is looked up
abbrev pub IsCandidateOf : SummaryInputsValue → SummaryCandidate → Type 0
IsCandidateOf v c = 1 < length v.active → IsSummaryCandidate v c

abbrev pub AreSummaryCandidates : SummaryInputsValue → List SummaryCandidate → Type 0
AreSummaryCandidates v cs = (c : SummaryCandidate) → Contains cs c → IsCandidateOf v c

abbrev pub dests_in : List SummaryCandidate → List Dest
dests_in cs = map (λ (c : SummaryCandidate). c.dest) cs

-- the route leads through another area, at this cost
abbrev pub CostsInto : Option Through → ℕ → ℕ → Type 0
CostsInto route area m = (t : Through) × (route ≡ Some t) × (t.area ≢ area) × (t.cost ≡ m)

-- ---- the metric in an area

-- by all inputs whose areas are served so, and for which the candidate is right, its destination is
-- due at this metric
abbrev pub IsMetricOf : AreaConfig → Bool → SummaryCandidate → Option ℕ → Type 0
IsMetricOf a served c metric = (v : SummaryInputsValue) → (IsTrue served ↔ IsServed v.active a.id) → IsCandidateOf v c → (m : ℕ) → (metric ≡ Some m) ↔ IsDueIn v a c.dest m

-- by all inputs for which this is right of the network, it is due at this metric
abbrev pub IsNetworkMetricOf : AreaConfig → Given → Prefix → Option ℕ → Type 0
IsNetworkMetricOf a g p metric = (v : SummaryInputsValue) → IsNetworkIn v a.id p g → (m : ℕ) → (metric ≡ Some m) ↔ IsNetworkDueIn v a.id a.stub p m

-- The cost of an offer by itself, without other offers, or the reason why it has none (RFC 2328,
-- 16.1, 16.2 and 16.4).
use Rattle.std.specs.Prelude.{ℕ, ◌+◌, ◌≡◌, ◌≢◌, ◌<◌, ◌≤◌, ◌⊎◌, Bool, false, true, IsTrue, Contains, Option, Some, None, bit_and, if◌then◌else◌}
use Rattle.std.specs.FinMap.{get, entries}
use Rattle.ospf_types.specs.declared.config.Interface.{Interface}
use Rattle.ospf_types.specs.declared.entry.Vertex.TheVariants.{Router, Network}
use Rattle.ospf_types.specs.declared.key.Key.{Key}
use Rattle.ospf_types.specs.declared.lsa.ExternalFields.{ExternalFields}
use Rattle.ospf_types.specs.declared.prefix.Prefix.{Prefix}
use Rattle.ospf_types.specs.Inter.{LSInfinity}
use Rattle.ospf_types.specs.Intra.{B, LiesIn}
use Rattle.ospf_types.specs.Lsa.{MaxAge}
use Rattle.route_choice.specs.ReachedRouter.{ReachedValue}
use Rattle.intra.specs.Intras.{reached_at}
use Rattle.active_ranges.specs.Active.{IsActiveIn}
use Rattle.external.specs.declared.class.PathClass.{PathClass}
use Rattle.external.specs.AsbrRoute.{PreferredValue}
use Rattle.external.specs.Classes.{class_number}
use Rattle.external.specs.Forwards.{ForwardValue, WayValue}
use Rattle.explanation.specs.declared.verdict.Verdict.{Verdict}
use Rattle.explanation.specs.declared.verdict.Verdict.TheVariants as verdict
use Rattle.explanation.specs.declared.layers.Layers.{Layers}
use Rattle.explanation.specs.declared.offer.Offer.{Offer}
use Rattle.explanation.specs.declared.offered.ExternalKey.{ExternalKey}
use Rattle.explanation.specs.Layers.{IsDistanceOf, IsKeyStanding, is_examined}

abbrev pub root_of : Layers → ℕ
root_of w = w.state.now.config.router

-- ---- stub networks and transit networks (16.1)

-- the interface is one of the area's, is up, and lies in the network
abbrev pub IsOn : ℕ → Prefix → Interface → Type 0
IsOn area p i = (i.area ≡ area) × IsTrue i.up × LiesIn i p

-- the root has an interface on the network in the area
abbrev pub HasInterfaceOn : Layers → ℕ → Prefix → Type 0
HasInterfaceOn w area p = (e : ℕ × Interface) × Contains (entries w.state.now.interfaces) e × IsOn area p e.1

-- the cost of a stub network: the distance of its router and the metric, or only the metric for the
-- root's own
abbrev pub IsStubCost : Layers → ℕ → Offer → ℕ → ℕ → Type 0
IsStubCost w area o metric cost = (o.age < MaxAge) × (
    ((o.source.key.router ≡ root_of w) × HasInterfaceOn w area o.network × (cost ≡ metric))
    ⊎ ((o.source.key.router ≢ root_of w) × ((distance : ℕ) × IsDistanceOf w.areas.now area (Router o.source.key.router) (Some distance) × (cost ≡ distance + metric))))

-- the reason why a stub network has no cost: the first of these that holds
abbrev pub LacksStubCost : Layers → ℕ → Offer → Verdict → Type 0
LacksStubCost w area o verdict.MaxAge = MaxAge ≤ o.age
LacksStubCost w area o verdict.NoInterface = (o.age < MaxAge) × (o.source.key.router ≡ root_of w) × (HasInterfaceOn w area o.network → ⊥)
LacksStubCost w area o verdict.Unreached = (o.age < MaxAge) × (o.source.key.router ≢ root_of w) × IsDistanceOf w.areas.now area (Router o.source.key.router) None
LacksStubCost w area o _ = ⊥

-- the cost of a transit network that this LSA describes: its distance
abbrev pub IsTransitCost : Layers → ℕ → Offer → ℕ → Type 0
IsTransitCost w area o cost = (o.age < MaxAge)
    × IsKeyStanding w.areas.now area (Network o.source.key.id) (Some o.source.key) × IsDistanceOf w.areas.now area (Network o.source.key.id) (Some cost)

-- the reason why a transit network has no cost: the first of these that holds
abbrev pub LacksTransitCost : Layers → ℕ → Offer → Verdict → Type 0
LacksTransitCost w area o verdict.MaxAge = MaxAge ≤ o.age
LacksTransitCost w area o verdict.Another = (o.age < MaxAge) × (key : Option Key) × IsKeyStanding w.areas.now area (Network o.source.key.id) key × (key ≢ Some o.source.key)
LacksTransitCost w area o verdict.Unreached = (o.age < MaxAge)
    × IsKeyStanding w.areas.now area (Network o.source.key.id) (Some o.source.key) × IsDistanceOf w.areas.now area (Network o.source.key.id) None
LacksTransitCost w area o _ = ⊥

-- ---- summaries (16.2)

-- the border router is reached in the area
abbrev pub IsBorderReached : Layers → ℕ → ℕ → ReachedValue → Type 0
IsBorderReached w area router r = (reached_at w.calculation.now.intra.areas area router ≡ Some r) × (0 < bit_and r.flags B)

-- an LSA that is skipped, and the first reason that holds: LSInfinity, MaxAge (1), or the router's
-- own (2)
abbrev pub IsUnfit : Layers → Offer → ℕ → Verdict → Type 0
IsUnfit w o metric verdict.Infinity = LSInfinity ≤ metric
IsUnfit w o metric verdict.MaxAge = (metric < LSInfinity) × (MaxAge ≤ o.age)
IsUnfit w o metric verdict.Own = (metric < LSInfinity) × (o.age < MaxAge) × (o.source.key.router ≡ root_of w)
IsUnfit w o metric _ = ⊥

-- none of that
abbrev pub HasNoFault : Layers → Offer → ℕ → Type 0
HasNoFault w o metric = (o.age < MaxAge) × (metric < LSInfinity) × (o.source.key.router ≢ root_of w)

-- the cost of a summary: the distance of its border router and the metric
abbrev pub IsSummaryCost : Layers → ℕ → Offer → ℕ → ℕ → Type 0
IsSummaryCost w area o metric cost =
    (is_examined w.active.now area ≡ true) × HasNoFault w o metric × (IsActiveIn w.calculation.now.active o.network → ⊥)
    × ((r : ReachedValue) × IsBorderReached w area o.source.key.router r × (cost ≡ r.distance + metric))

-- the reason why a summary has no cost: the first step that rejects it, in the order of 16.2
abbrev pub LacksSummaryCost : Layers → ℕ → Offer → ℕ → Verdict → Type 0
LacksSummaryCost w area o metric verdict.NotExamined = is_examined w.active.now area ≡ false
LacksSummaryCost w area o metric verdict.ActiveRange =
    (is_examined w.active.now area ≡ true) × HasNoFault w o metric × IsActiveIn w.calculation.now.active o.network
LacksSummaryCost w area o metric verdict.NoBorderRouter =
    (is_examined w.active.now area ≡ true) × HasNoFault w o metric × (IsActiveIn w.calculation.now.active o.network → ⊥)
    × ((r : ReachedValue) → IsBorderReached w area o.source.key.router r → ⊥)
LacksSummaryCost w area o metric f = (is_examined w.active.now area ≡ true) × IsUnfit w o metric f

-- ---- AS-external-LSAs (16.4)

-- the class and the distance of the AS boundary router, or of the forwarding address if it has one
abbrev pub LeadsAt : Layers → ℕ → ℕ → ℕ → ℕ → Type 0
LeadsAt w router address class distance =
    ((address ≡ 0) × ((p : PreferredValue) × (get w.calculation.now.external.preferred router ≡ Some p) × (class ≡ p.preference.class) × (distance ≡ p.preference.cost)))
    ⊎ ((0 < address) × ((f : ForwardValue) × (way : WayValue) × (get w.calculation.now.external.forwards address ≡ Some f) × (f.way ≡ Some way) × (class ≡ way.class) × (distance ≡ way.cost)))

-- type 1 before type 2, the metric of type 2, the class, and then the cost
abbrev pub key_by : Bool → ℕ → PathClass → ℕ → ExternalKey
key_by is_type_2 metric class distance =
    if is_type_2 then record { is_type_2 = is_type_2; metric = metric; class = class; cost = distance }
    else record { is_type_2 = is_type_2; metric = 0; class = class; cost = distance + metric }

-- the AS boundary router has an entry, whatever the forwarding address
abbrev pub IsBoundaryReached : Layers → ℕ → Type 0
IsBoundaryReached w router = (p : PreferredValue) × (get w.calculation.now.external.preferred router ≡ Some p)

-- the key by which an AS-external-LSA is compared
abbrev pub IsExternalKey : Layers → Offer → ℕ → ExternalFields → ExternalKey → Type 0
IsExternalKey w o metric external key = HasNoFault w o metric × IsBoundaryReached w o.source.key.router
    × ((class : PathClass) × (distance : ℕ) × LeadsAt w o.source.key.router external.forwarding (class_number class) distance × (key ≡ key_by external.is_type_2 metric class distance))

-- its key if it has a forwarding address, whatever the AS boundary router
abbrev pub IsForwardedKey : Layers → ℕ → ExternalFields → ExternalKey → Type 0
IsForwardedKey w metric external key =
    (class : PathClass) × (distance : ℕ) × ((router : ℕ) → LeadsAt w router external.forwarding (class_number class) distance) × (key ≡ key_by external.is_type_2 metric class distance)

-- the forwarding address leads nowhere
abbrev pub LeadsNowhere : Layers → ℕ → Type 0
LeadsNowhere w address = (0 < address) × ((f : ForwardValue) (way : WayValue) → get w.calculation.now.external.forwards address ≡ Some f → f.way ≡ Some way → ⊥)

-- the reason why it is not compared: the first step that rejects it, in the order of 16.4
abbrev pub LacksKey : Layers → Offer → ℕ → ExternalFields → Verdict → Type 0
LacksKey w o metric external verdict.NoBoundaryRouter = HasNoFault w o metric × (get w.calculation.now.external.preferred o.source.key.router ≡ None)
LacksKey w o metric external verdict.NoForward = HasNoFault w o metric × IsBoundaryReached w o.source.key.router × LeadsNowhere w external.forwarding
LacksKey w o metric external f = IsUnfit w o metric f

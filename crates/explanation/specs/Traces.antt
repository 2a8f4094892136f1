-- Over which links a path leads, and which LSA says so (RFC 2328, 16.1).
use Rattle.std.specs.Prelude.{ℕ, ◌≡◌, ◌≢◌, ◌<◌, ◌⊎◌, List, [], ◌∷◌, ◌++◌, Contains, Option, Some, None}
use Rattle.std.proofs.Common.{Bor}
use Rattle.ospf_types.specs.declared.entry.Vertex.{Vertex}
use Rattle.ospf_types.specs.declared.hop.NextHop.{NextHop}
use Rattle.ospf_types.specs.declared.hop.Path.{Path}
use Rattle.ospf_types.specs.declared.key.Scope.TheVariants.{Area}
use Rattle.ospf_types.specs.Lsa.{Lsa, MaxAge}
use Rattle.vertex_graph.specs.Graphs.{LinksOf}
use Rattle.vertex_graph.specs.GraphLink.{GraphLink}
use Rattle.area_trees.specs.Areas.{IsStandingKey}
use Rattle.area_trees.specs.LeastPaths.{HasHop, IsPathOver}
use Rattle.intra.specs.Inputs.{AreaValue}
use Rattle.std.specs.FinMap.{entries, get}
use Rattle.ospf_types.specs.declared.config.Interface.{Interface}
use Rattle.ospf_types.specs.declared.hop.NextHop.TheVariants.{Direct}
use Rattle.ospf_types.specs.declared.entry.Vertex.TheVariants.{Router, Network}
use Rattle.explanation.specs.declared.layers.Layers.{Layers}
use Rattle.explanation.specs.Offered.{IsOn}
use Rattle.ospf_types.specs.declared.key.Key.{Key}
use Rattle.explanation.specs.declared.offer.Offer.{Offer}
use Rattle.explanation.specs.declared.offer.OfferKind.{OfferKind}
use Rattle.explanation.specs.declared.offer.OfferKind.TheVariants as kind
use Rattle.explanation.specs.declared.offer.LsaInstance.{LsaInstance}
use Rattle.explanation.specs.declared.trace.TraceNode.{TraceNode}
use Rattle.explanation.specs.declared.trace.TraceNode.TheVariants as place
use Rattle.explanation.specs.declared.trace.Step.{Step}
use Rattle.explanation.specs.declared.trace.Trace.{Trace}
use Rattle.explanation.specs.Giving.{AreOfEach, GivesOneTrace}
use Rattle.explanation.specs.Offers.{source_of}
use Rattle.explanation.specs.Layers.{HasArea, LacksArea}

-- the instance, in the area's database, of the LSA that describes the vertex
abbrev pub IsSourceAt : AreaValue → Vertex → LsaInstance → Type 0
IsSourceAt a v source = (key : Key) × (l : Lsa) × IsStandingKey a.lsas v key × (get a.lsas key ≡ Some l) × (l.header.age < MaxAge) × (source ≡ source_of (Area a.id) l)

-- the step is this link of the area's graph, and says so by the LSA of the link's tail
pub record IsLinkStep (a : AreaValue) (l : GraphLink) (step : Step) : Type 0 where
  pub from : step.from ≡ place.Vertex l.from
  pub to : step.to ≡ place.Vertex l.to
  pub cost : step.cost ≡ l.cost
  pub says : IsSourceAt a l.from step.source

abbrev pub AreLinkSteps : AreaValue → List GraphLink → List Step → Type 0
AreLinkSteps a [] [] = Unit {0}
AreLinkSteps a [] (step ∷ steps) = ⊥
AreLinkSteps a (l ∷ links) [] = ⊥
AreLinkSteps a (l ∷ links) (step ∷ steps) = IsLinkStep a l step × AreLinkSteps a links steps

-- a step for the link is added
abbrev pub IsStepAdded : AreaValue → GraphLink → List Step → List Step → Type 0
IsStepAdded a l before after = (step : Step) × IsLinkStep a l step × (after ≡ before ++ step ∷ [])

-- each is a link of the area's graph
abbrev pub AreLinksIn : AreaValue → List (Bor GraphLink) → Type 0
AreLinksIn a links = (l : Bor GraphLink) → Contains links l → LinksOf a.tree.area.graph l.now.from l.now.to l.now.cost l.now.label

-- the steps of a path of least cost to the vertex by this next hop, or no steps exactly if it has
-- not this next hop
abbrev pub AreStepsIn : AreaValue → Vertex → NextHop → List Step → Type 0
AreStepsIn a v h steps = (links : List GraphLink) × IsPathOver a.tree.area.graph v h links × AreLinkSteps a links steps

-- in the area with this Area ID; empty if there is no such area
abbrev pub AreSteps : List AreaValue → ℕ → Vertex → NextHop → List Step → Type 0
AreSteps areas id v h steps = ((a : AreaValue) × HasArea areas id a × AreStepsIn a v h steps) ⊎ (LacksArea areas id × (steps ≡ []))

-- A trace to the vertex in the area with this Area ID, and on: the steps of a path there by the
-- next hop, and then these. Its path names the advertiser.
pub record IsTraceTo (areas : List AreaValue) (id : ℕ) (v : Vertex) (advertiser : Option ℕ) (on : List Step) (w : Trace) : Type 0 where
  pub names : w.path.advertiser ≡ advertiser
  pub steps : List Step
  pub steps_are : AreSteps areas id v w.path.hop steps
  pub some : steps ≢ []
  pub whole : w.steps.items ≡ steps ++ on

-- The path leads to the vertex in that area: it names the advertiser, and its next hop is one of
-- the vertex.
abbrev pub PathLeadsTo : List AreaValue → ℕ → Vertex → Option ℕ → Path → Type 0
PathLeadsTo areas id v advertiser path = (path.advertiser ≡ advertiser) × ((a : AreaValue) × HasArea areas id a × HasHop a.tree.area.graph v path.hop)

-- a trace to the vertex, for the path
abbrev pub GivesTo : List AreaValue → ℕ → Vertex → Option ℕ → List Step → Path → List Trace → Type 0
GivesTo areas id v advertiser on path traces = GivesOneTrace (λ (t : Trace). IsTraceTo areas id v advertiser on t × (t.path ≡ path)) (PathLeadsTo areas id v advertiser path) traces

-- for each of the paths that leads to the vertex one trace, in their order
abbrev pub AreTracesTo : List AreaValue → ℕ → Vertex → Option ℕ → List Step → List Path → List Trace → Type 0
AreTracesTo areas id v advertiser on paths traces = AreOfEach (GivesTo areas id v advertiser on) paths traces

-- ---- the traces of an offer

-- the vertex that an offer leads over, the router that its paths name, and its metric
abbrev pub vertex_by : OfferKind → Key → Vertex
vertex_by (kind.Stub metric) key = Router key.router
vertex_by kind.Transit key = Network key.id
vertex_by (kind.Summary metric) key = Router key.router
vertex_by (kind.AsExternal metric external) key = Router key.router

abbrev pub advertiser_by : OfferKind → Key → Option ℕ
advertiser_by (kind.Stub metric) key = None
advertiser_by kind.Transit key = None
advertiser_by (kind.Summary metric) key = Some key.router
advertiser_by (kind.AsExternal metric external) key = Some key.router

abbrev pub metric_by : OfferKind → ℕ
metric_by (kind.Stub metric) = metric
metric_by kind.Transit = 0
metric_by (kind.Summary metric) = metric
metric_by (kind.AsExternal metric external) = metric

-- the last step of each of its traces: from there to the network
abbrev pub last_from : TraceNode → Offer → Step
last_from from o = record { from = from; to = place.Network o.network; cost = metric_by o.kind; source = o.source }

abbrev pub last_of : Offer → Step
last_of o = last_from (place.Vertex (vertex_by o.kind o.source.key)) o

-- over paths to the vertex that it leads over, in the area
abbrev pub AreTracesBy : List AreaValue → ℕ → Offer → List Path → List Trace → Type 0
AreTracesBy areas area o paths traces = AreTracesTo areas area (vertex_by o.kind o.source.key) (advertiser_by o.kind o.source.key) (last_of o ∷ []) paths traces

-- ---- over an interface of the root

-- over an interface of the area that is up and lies in the network
abbrev pub IsOver : Layers → ℕ → Offer → Path → Type 0
IsOver w area o path = (id : ℕ) × (i : Interface) × (path.hop ≡ Direct id) × Contains (entries w.state.now.interfaces) (id, i) × IsOn area o.network i

-- a trace of one step, for a path over such an interface
abbrev pub IsOwnTrace : Layers → ℕ → Offer → Trace → Type 0
IsOwnTrace w area o t = IsOver w area o t.path × (t.steps.items ≡ last_of o ∷ [])

abbrev pub GivesOwn : Layers → ℕ → Offer → Path → List Trace → Type 0
GivesOwn w area o path traces = GivesOneTrace (λ (t : Trace). IsOwnTrace w area o t × (t.path ≡ path)) (IsOver w area o path) traces

-- for each of the paths over such an interface one trace, in their order
abbrev pub AreOwnTraces : Layers → ℕ → Offer → List Path → List Trace → Type 0
AreOwnTraces w area o paths traces = AreOfEach (GivesOwn w area o) paths traces

-- The paths that an offer gives and their traces, inside an area and outside the AS (RFC 2328,
-- 16.1, 16.2 and 16.4).
use Rattle.std.specs.Prelude.{ℕ, ◌≡◌, ◌⊎◌, ◌<◌, List, [], ◌∷◌, ◌++◌, Contains, Option, Some, None, bit_and, map}
use Rattle.std.specs.List.{All}
use Rattle.std.specs.FinMap.{get}
use Rattle.ospf_types.specs.declared.entry.Entry.{Entry}
use Rattle.ospf_types.specs.declared.entry.Vertex.TheVariants.{Router}
use Rattle.ospf_types.specs.declared.hop.NextHop.{NextHop}
use Rattle.ospf_types.specs.declared.hop.Path.{Path}
use Rattle.ospf_types.specs.declared.key.Dest.TheVariants as dest
use Rattle.ospf_types.specs.declared.key.Scope.{Scope}
use Rattle.ospf_types.specs.declared.key.Scope.TheVariants.{Area, As}
use Rattle.ospf_types.specs.declared.prefix.Prefix.{Prefix}
use Rattle.ospf_types.specs.External.{toward}
use Rattle.ospf_types.specs.Intra.{E}
use Rattle.ospf_types.specs.Lsa.{Lsa, MaxAge}
use Rattle.lsa_codec.specs.Readers.{metric_of}
use Rattle.route_choice.specs.ReachedRouter.{ReachedValue}
use Rattle.intra.specs.Inputs.{AreaValue}
use Rattle.intra.specs.Intras.{reached_at}
use Rattle.external.specs.Forwards.{ForwardValue}
use Rattle.external.specs.AsbrRoute.{PreferredValue}
use Rattle.explanation.specs.Layers.{HasArea, internal_at}
use Rattle.explanation.specs.Groups.{offers_for}
use Rattle.explanation.specs.Networks.{IsTakenAmong, all_offers, all_wanted}
use Rattle.explanation.specs.Offered.{root_of}
use Rattle.explanation.specs.Offers.{is_one_of, source_of}
use Rattle.explanation.specs.declared.forward.TracedMatch.{TracedMatch}
use Rattle.explanation.specs.declared.grouping.Group.{Group}
use Rattle.explanation.specs.declared.layers.Layers.{Layers}
use Rattle.explanation.specs.declared.offer.Offer.{Offer}
use Rattle.explanation.specs.declared.offer.OfferKind.{OfferKind}
use Rattle.explanation.specs.declared.offer.OfferKind.TheVariants as kind
use Rattle.explanation.specs.declared.trace.TraceNode.TheVariants as place
use Rattle.explanation.specs.declared.trace.Step.{Step}
use Rattle.explanation.specs.declared.trace.Trace.{Trace}
use Rattle.explanation.specs.Giving.{AreOfEach, GivesOneTrace}
use Rattle.explanation.specs.Traces.{AreOwnTraces, AreSteps, AreTracesBy, last_from, last_of}

-- ---- of an offer of an area (16.1, 16.2)

-- it is of a stub network of the root itself
abbrev pub IsOwnStub : Layers → Offer → Type 0
IsOwnStub w o = ((metric : ℕ) × (o.kind ≡ kind.Stub metric)) × (o.source.key.router ≡ root_of w)

-- The traces of the paths that the offer gives in the area, in their order. The root's own stub
-- network gives those over an interface on it. Any other offer gives those by which the area's tree
-- leads to its router or transit network. Those of a summary name its border router.
abbrev pub AreTracesWithin : Layers → ℕ → Offer → List Path → List Trace → Type 0
AreTracesWithin w area o paths traces = (IsOwnStub w o × AreOwnTraces w area o paths traces) ⊎ ((IsOwnStub w o → ⊥) × AreTracesBy w.areas.now area o paths traces)

-- ---- of an AS-external-LSA without a forwarding address (16.4 (3))

-- the area of its preferred entry, where the AS boundary router is reached as one
abbrev pub IsBoundaryIn : Layers → ℕ → ℕ → Type 0
IsBoundaryIn w router area = (p : PreferredValue) × (r : ReachedValue) × (get w.calculation.now.external.preferred router ≡ Some p) × (p.preference.area ≡ area)
    × (reached_at w.calculation.now.intra.areas area router ≡ Some r) × (0 < bit_and r.flags E)

-- the path of an AS-external-LSA by this next hop: it names the AS boundary router
abbrev pub external_path : Offer → NextHop → Path
external_path o hop = record { hop = hop; advertiser = Some o.source.key.router }

-- the step from a border router to the AS boundary router, as the summary-LSA of the border router
-- states it
abbrev pub IsToldStep : Layers → ℕ → ℕ → ℕ → Step → Type 0
IsToldStep w area border router step = (a : AreaValue) × (l : Lsa) × HasArea w.areas.now area a × (get a.lsas (record { kind = 4; id = router; router = border }) ≡ Some l) × (l.header.age < MaxAge)
    × (metric_of l.body ≡ Some step.cost) × (step.source ≡ source_of (Area area) l) × (step.from ≡ place.Vertex (Router border)) × (step.to ≡ place.Vertex (Router router))

-- the path names a border router of the area whose summary-LSA leads to the AS boundary router
-- (16.2)
abbrev pub IsToldOver : Layers → ℕ → Offer → Path → Type 0
IsToldOver w area o within = (border : ℕ) × (told : Step) × (within.advertiser ≡ Some border) × IsToldStep w area border o.source.key.router told

-- the trace of such a path: that to the border router, and on from there
pub record IsTracedOutside (w : Layers) (area : ℕ) (o : Offer) (within : Path) (t : Trace) : Type 0 where
  pub border : ℕ
  pub steps : List Step
  pub told : Step
  pub border_is : within.advertiser ≡ Some border
  pub path_is : t.path ≡ external_path o within.hop
  pub steps_are : AreSteps w.areas.now area (Router border) within.hop steps
  pub told_is : IsToldStep w area border o.source.key.router told
  pub whole : t.steps.items ≡ (steps ++ told ∷ []) ++ last_of o ∷ []

-- one where the route has the path on from there
abbrev pub GivesTold : Layers → ℕ → Offer → List Path → Path → List Trace → Type 0
GivesTold w area o paths within traces = GivesOneTrace (λ (t : Trace). IsTracedOutside w area o within t × Contains paths t.path) (IsToldOver w area o within × Contains paths (external_path o within.hop)) traces

-- the inter-area entry of the AS boundary router, and the area that it leads through
abbrev pub IsInterEntry : Layers → Offer → Entry → ℕ → Type 0
IsInterEntry w o e area = (get w.calculation.now.inter.entries (dest.Router o.source.key.router) ≡ Some e) × (e.area ≡ Some area)

-- for each path of the inter-area entry of the AS boundary router what it gives, in their order
abbrev pub AreTracedOutside : Layers → Offer → List Path → List Trace → Type 0
AreTracedOutside w o paths traces =
    ((e : Entry) × (area : ℕ) × IsInterEntry w o e area × AreOfEach (GivesTold w area o paths) e.paths traces)
    ⊎ (((e : Entry) (area : ℕ) → IsInterEntry w o e area → ⊥) × (traces ≡ []))

-- ---- of an AS-external-LSA with a forwarding address (16.4 (3))

-- the longest match of the address
abbrev pub match_of : Option ForwardValue → Option Prefix
match_of None = None
match_of (Some f) = f.matched

abbrev pub match_at : Layers → ℕ → Option Prefix
match_at w address = match_of (get w.calculation.now.external.forwards address)

-- the offer is of this area, and its network has this route within the AS
abbrev pub IsInRoute : Layers → Offer → ℕ → Entry → Type 0
IsInRoute w by area e = (by.source.scope ≡ Area area) × (internal_at w.calculation.now by.network ≡ Some e)

-- the traces that the offer gives to its network's route within the AS, if it has one
abbrev pub GivesRoute : Layers → Offer → List Trace → Type 0
GivesRoute w by traces =
    ((area : ℕ) × (e : Entry) × IsInRoute w by area e × AreTracesWithin w area by e.paths traces)
    ⊎ (((area : ℕ) (e : Entry) → IsInRoute w by area e → ⊥) × (traces ≡ []))

-- that, if the offer is taken
abbrev pub GivesTaken : Layers → Offer → List Trace → Type 0
GivesTaken w by traces =
    ((area : ℕ) × (e : Entry) × IsInRoute w by area e × IsTakenAmong w (all_offers w by.network.address) by × AreTracesWithin w area by e.paths traces)
    ⊎ (((area : ℕ) (e : Entry) → IsInRoute w by area e → IsTakenAmong w (all_offers w by.network.address) by → ⊥) × (traces ≡ []))

-- The traces to the network. Each offer of it that is taken has one for each of the paths that it
-- gives to the route within the AS. They are in the order of the offers and of the paths.
abbrev pub AreNetworkTraces : Layers → Prefix → List Trace → Type 0
AreNetworkTraces w p traces = AreOfEach (GivesTaken w) (offers_for p (all_offers w p.address)) traces

-- it goes on from a trace to the network toward the address, and is for one of these paths
abbrev pub IsOnward : ℕ → Offer → List Path → Prefix → Trace → Trace → Type 0
IsOnward address o paths p inner t = (t.path ≡ external_path o (toward address inner.path.hop)) × Contains paths t.path
    × (t.steps.items ≡ inner.steps.items ++ last_from (place.Network p) o ∷ [])

abbrev pub GivesOnward : ℕ → Offer → List Path → Prefix → Trace → List Trace → Type 0
GivesOnward address o paths p inner traces = GivesOneTrace (IsOnward address o paths p inner) (Contains paths (external_path o (toward address inner.path.hop))) traces

-- for each trace to the longest match of the address one that goes on from it, in their order
abbrev pub AreForwarded : Layers → ℕ → Offer → List Path → List Trace → Type 0
AreForwarded w address o paths traces =
    ((p : Prefix) × (inners : List Trace) × (match_at w address ≡ Some p) × AreNetworkTraces w p inners × AreOfEach (GivesOnward address o paths p) inners traces)
    ⊎ ((match_at w address ≡ None) × (traces ≡ []))

-- ---- of any offer

-- By its forwarding address, if it has one. Otherwise in the area where the AS boundary router is
-- reached. If it is reached in none, over border routers that advertise it.
abbrev pub AreOutside : Layers → ℕ → Offer → List Path → List Trace → Type 0
AreOutside w address o paths traces =
    ((address ≡ 0) × ((area : ℕ) × IsBoundaryIn w o.source.key.router area × AreTracesBy w.areas.now area o paths traces))
    ⊎ ((address ≡ 0) × (((area : ℕ) → IsBoundaryIn w o.source.key.router area → ⊥) × AreTracedOutside w o paths traces))
    ⊎ ((0 < address) × AreForwarded w address o paths traces)

-- by how it is offered, and by the scope of its LSA
abbrev pub AreTracesAs : Layers → Offer → Scope → OfferKind → List Path → List Trace → Type 0
AreTracesAs w o scope (kind.AsExternal metric external) paths traces = AreOutside w external.forwarding o paths traces
AreTracesAs w o (Area area) _ paths traces = AreTracesWithin w area o paths traces
AreTracesAs w o As _ paths traces = traces ≡ []

-- the traces of the offer, one for each of the paths that it gives
abbrev pub AreTraces : Layers → Offer → List Path → List Trace → Type 0
AreTraces w o paths traces = AreTracesAs w o o.source.scope o.kind paths traces

-- ---- the forwarding addresses of several offers

-- the longest match of the forwarding address
abbrev pub match_by : Layers → OfferKind → Option Prefix
match_by w (kind.AsExternal metric external) = match_at w external.forwarding
match_by w _ = None

-- it is one of these networks
abbrev pub IsMatchedAt : Layers → List Prefix → ℕ → Type 0
IsMatchedAt w networks address = (p : Prefix) → match_at w address ≡ Some p → Contains networks p

abbrev pub IsMatched : Layers → List Prefix → Offer → Type 0
IsMatched w networks o = (p : Prefix) → match_by w o.kind ≡ Some p → Contains networks p

abbrev pub AreMatched : Layers → List Prefix → List Offer → Type 0
AreMatched w networks offers = (o : Offer) → Contains offers o → IsMatched w networks o

-- all that LSAs offer of its network, which is one of those that they were asked for
abbrev pub AreAllOf : Layers → Group → Type 0
AreAllOf w g = (networks : List Prefix) × Contains networks g.network × (g.offers.items ≡ offers_for g.network (all_wanted (is_one_of networks) w))

abbrev pub networks_of : List TracedMatch → List Prefix
networks_of forwards = map (λ (f : TracedMatch). f.network) forwards

-- for each of these networks the traces to it
pub record AreForwards (w : Layers) (networks : List Prefix) (forwards : List TracedMatch) : Type 0 where
  pub listed : networks_of forwards ≡ networks
  pub right : All (λ (f : TracedMatch). AreNetworkTraces w f.network f.traces.items) forwards

-- the network and the traces to it are added
abbrev pub AddsForward : Layers → Prefix → List TracedMatch → List TracedMatch → Type 0
AddsForward w p before after = (f : TracedMatch) × (f.network ≡ p) × AreNetworkTraces w p f.traces.items × (after ≡ before ++ f ∷ [])

-- these are the traces to the network
abbrev pub HasTraces : List TracedMatch → Prefix → List Trace → Type 0
HasTraces forwards p traces = (f : TracedMatch) × Contains forwards f × (f.network ≡ p) × (traces ≡ f.traces.items)

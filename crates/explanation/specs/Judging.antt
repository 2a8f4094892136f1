-- The verdict on an offer among others for its network (RFC 2328, 16.1, 16.2 and 16.4).
use Rattle.std.specs.Prelude.{ℕ, ◌+◌, ◌*◌, ◌^◌, ◌≡◌, ◌≢◌, ◌<◌, ◌≤◌, ◌⊎◌, Bool, true, false, List, Contains, Option, Some, None}
use Rattle.std.specs.declared.result.Result.{Result}
use Rattle.std.specs.declared.result.Result.TheVariants.{Ok, Err}
use Rattle.ospf_types.specs.declared.prefix.Prefix.{Prefix}
use Rattle.ospf_types.specs.declared.entry.Entry.{Entry}
use Rattle.ospf_types.specs.declared.entry.PathType.TheVariants.{Intra}
use Rattle.ospf_types.specs.declared.key.Scope.{Scope}
use Rattle.ospf_types.specs.declared.key.Scope.TheVariants.{Area, As}
use Rattle.external.specs.Classes.{class_number}
use Rattle.explanation.specs.declared.verdict.Verdict.{Verdict}
use Rattle.explanation.specs.declared.verdict.Verdict.TheVariants as verdict
use Rattle.explanation.specs.declared.judging.Judged.{Judged}
use Rattle.explanation.specs.declared.layers.Layers.{Layers}
use Rattle.explanation.specs.declared.offer.Offer.{Offer}
use Rattle.explanation.specs.declared.offer.OfferKind.{OfferKind}
use Rattle.explanation.specs.declared.offer.OfferKind.TheVariants as kind
use Rattle.explanation.specs.declared.offered.ExternalKey.{ExternalKey}
use Rattle.explanation.specs.Layers.{internal_at}
use Rattle.explanation.specs.Offered.{IsExternalKey, IsStubCost, IsSummaryCost, IsTransitCost, LacksKey, LacksStubCost, LacksSummaryCost, LacksTransitCost}

-- ---- AS-external-LSAs

-- a number that is less for the preferred one: type 1, then the metric of type 2, the class, and
-- the cost
abbrev pub type_rank : Bool → ℕ
type_rank true = 1
type_rank false = 0

abbrev pub rank : ExternalKey → ℕ
rank k = ((type_rank k.is_type_2 * 2 ^ 32 + k.metric) * 2 ^ 8 + class_number k.class) * 2 ^ 32 + k.cost

-- at which step a key loses to the other, if it does (16.4 (6))
abbrev pub fate_beside : ExternalKey → ExternalKey → Verdict → Type 0
fate_beside key other verdict.Type2 = type_rank other.is_type_2 < type_rank key.is_type_2
fate_beside key other verdict.Metric2 = (type_rank key.is_type_2 ≡ type_rank other.is_type_2) × (other.metric < key.metric)
fate_beside key other verdict.Class = (type_rank key.is_type_2 ≡ type_rank other.is_type_2) × (key.metric ≡ other.metric) × (class_number other.class < class_number key.class)
fate_beside key other verdict.Costlier = (type_rank key.is_type_2 ≡ type_rank other.is_type_2) × (key.metric ≡ other.metric) × (class_number key.class ≡ class_number other.class) × (other.cost < key.cost)
fate_beside key other verdict.Taken = rank key ≤ rank other
fate_beside key other _ = ⊥

-- ---- what the offers for a network are compared with

-- the lesser of the two, where there are two
abbrev pub IsLesser : Option ExternalKey → ExternalKey → ExternalKey → Type 0
IsLesser None key found = found ≡ key
IsLesser (Some least) key found = (rank found ≤ rank least) × (rank found ≤ rank key) × ((found ≡ least) ⊎ (found ≡ key))

abbrev pub IsGreater : Option ℕ → ℕ → ℕ → Type 0
IsGreater None id found = found ≡ id
IsGreater (Some greatest) id found = (greatest ≤ found) × (id ≤ found) × ((found ≡ greatest) ⊎ (found ≡ id))

-- it is the key of an AS-external-LSA
abbrev pub HasExternalKey : Layers → OfferKind → Offer → ExternalKey → Type 0
HasExternalKey w (kind.AsExternal metric external) o key = IsExternalKey w o metric external key
HasExternalKey w _ o key = ⊥

-- it is no AS-external-LSA, or has no key for some reason
abbrev pub HasNoKey : Layers → OfferKind → Offer → Type 0
HasNoKey w (kind.AsExternal metric external) o = (f : Verdict) × LacksKey w o metric external f
HasNoKey w _ o = Unit {0}

-- the offer has a key, and this is no greater; or it has none
abbrev pub IsWeighedBy : Layers → Option ExternalKey → Offer → Type 0
IsWeighedBy w least o = ((key other : ExternalKey) × HasExternalKey w o.kind o key × (least ≡ Some other) × (rank other ≤ rank key)) ⊎ HasNoKey w o.kind o

-- the least key of the AS-external-LSAs among these offers
pub record IsLeastKey (w : Layers) (offers : List Offer) (least : Option ExternalKey) : Type 0 where
  pub no_greater : (o : Offer) → Contains offers o → IsWeighedBy w least o
  pub one : (key : ExternalKey) → least ≡ Some key → (o : Offer) × Contains offers o × HasExternalKey w o.kind o key

-- a transit network in the area of the route, and at its cost
abbrev pub IsTransitAt : Layers → Entry → Offer → Type 0
IsTransitAt w e o = (o.kind ≡ kind.Transit) × ((area : ℕ) × (e.area ≡ Some area) × (o.source.scope ≡ Area area) × IsTransitCost w area o e.cost)

-- the greatest Link State ID of such a transit network among the offers, or `None` if there is none
pub record IsGreatestId (w : Layers) (e : Entry) (offers : List Offer) (greatest : Option ℕ) : Type 0 where
  pub no_greater : (o : Offer) → Contains offers o → IsTransitAt w e o → (id : ℕ) × (greatest ≡ Some id) × (o.source.key.id ≤ id)
  pub one : (id : ℕ) → greatest ≡ Some id → (o : Offer) × Contains offers o × IsTransitAt w e o × (o.source.key.id ≡ id)

-- the rivals of the offers for this network
pub record IsRivalsOf (w : Layers) (p : Prefix) (offers : List Offer) (internal : Option Entry) (greatest : Option ℕ) (least : Option ExternalKey) : Type 0 where
  pub internal_is : internal ≡ internal_at w.calculation.now p
  pub greatest_is : (e : Entry) → internal ≡ Some e → IsGreatestId w e offers greatest
  pub least_is : IsLeastKey w offers least

-- ---- what becomes of an offer

abbrev pub IsSummary : OfferKind → Type 0
IsSummary (kind.Summary metric) = Unit {0}
IsSummary _ = ⊥

-- a summary does not compete with an intra-area route (16.2 (6))
abbrev pub IsComparable : Entry → Offer → Type 0
IsComparable e o = IsSummary o.kind → e.kind ≢ Intra

-- within the AS, compared with the route and such a transit network (16.1, 16.2): the first step
-- that decides. If an offer has paths, there is a route.
abbrev pub IsFateWithin : Option Entry → Option ℕ → Offer → ℕ → ℕ → Verdict → Type 0
IsFateWithin (Some e) greatest o area cost verdict.IntraArea = (e.kind ≡ Intra) × IsSummary o.kind
IsFateWithin (Some e) greatest o area cost verdict.Costlier = (e.cost < cost) × IsComparable e o
IsFateWithin (Some e) greatest o area cost verdict.LesserArea = (cost ≤ e.cost) × (e.area ≢ Some area) × IsComparable e o
IsFateWithin (Some e) greatest o area cost verdict.LesserId = (cost ≤ e.cost) × (e.area ≡ Some area) × (o.kind ≡ kind.Transit) × (greatest ≢ Some o.source.key.id)
IsFateWithin (Some e) greatest o area cost verdict.Taken = (cost ≤ e.cost) × (e.area ≡ Some area) × (o.kind ≡ kind.Transit → greatest ≡ Some o.source.key.id) × IsComparable e o
IsFateWithin None greatest o area cost verdict.Unreached = Unit {0}
IsFateWithin _ greatest o area cost _ = ⊥

-- outside, compared with a route within the AS and the least key (16.4 (6))
abbrev pub IsFateOutside : Option Entry → Option ExternalKey → ExternalKey → Verdict → Type 0
IsFateOutside (Some e) least key f = f ≡ verdict.Internal
IsFateOutside None (Some other) key f = fate_beside key other f
IsFateOutside None None key f = f ≡ verdict.Taken

-- the cost of the result that was found, with its verdict; or only the verdict if there was none
abbrev pub IsJudgedBy : {X : Type 0} → (X → ℕ) → (X → Verdict → Type 0) → Result X Verdict → Judged → Type 0
IsJudgedBy cost_of IsFate (Ok x) judged = (judged.cost ≡ Some (cost_of x)) × IsFate x judged.verdict
IsJudgedBy cost_of IsFate (Err f) judged = (judged.cost ≡ None) × (judged.verdict ≡ f)

-- an offer of the area, or outside it, has this cost and verdict, or none for this reason
abbrev pub IsJudgedIn : {X : Type 0} → (X → Type 0) → (Verdict → Type 0) → (X → ℕ) → (X → Verdict → Type 0) → Judged → Type 0
IsJudgedIn {X} Has Lacks cost_of IsFate judged = ((x : X) × Has x × (judged.cost ≡ Some (cost_of x)) × IsFate x judged.verdict) ⊎ ((judged.cost ≡ None) × Lacks judged.verdict)

-- the cost of an offer within the AS, or why it has none
abbrev pub IsInternalCost : Layers → ℕ → Offer → OfferKind → ℕ → Type 0
IsInternalCost w area o (kind.Stub metric) cost = IsStubCost w area o metric cost
IsInternalCost w area o kind.Transit cost = IsTransitCost w area o cost
IsInternalCost w area o (kind.Summary metric) cost = IsSummaryCost w area o metric cost
IsInternalCost w area o (kind.AsExternal metric external) cost = ⊥

abbrev pub LacksCostWithin : Layers → ℕ → Offer → OfferKind → Verdict → Type 0
LacksCostWithin w area o (kind.Stub metric) f = LacksStubCost w area o f
LacksCostWithin w area o kind.Transit f = LacksTransitCost w area o f
LacksCostWithin w area o (kind.Summary metric) f = LacksSummaryCost w area o metric f
LacksCostWithin w area o (kind.AsExternal metric external) f = f ≡ verdict.NotExamined

-- an offer within the AS, by the scope of its LSA
abbrev pub IsJudgedWithin : Layers → Option Entry → Option ℕ → Offer → Scope → Judged → Type 0
IsJudgedWithin w internal greatest o (Area area) judged = IsJudgedIn (IsInternalCost w area o o.kind) (LacksCostWithin w area o o.kind) (λ c. c) (IsFateWithin internal greatest o area) judged
IsJudgedWithin w internal greatest o As judged = (judged.cost ≡ None) × (judged.verdict ≡ verdict.NotExamined)

abbrev pub IsJudgedAs : Layers → Option Entry → Option ℕ → Option ExternalKey → Offer → OfferKind → Judged → Type 0
IsJudgedAs w internal greatest least o (kind.AsExternal metric external) judged = IsJudgedIn (IsExternalKey w o metric external) (LacksKey w o metric external) (λ (k : ExternalKey). k.cost) (IsFateOutside internal least) judged
IsJudgedAs w internal greatest least o _ judged = IsJudgedWithin w internal greatest o o.source.scope judged

abbrev pub IsJudged : Layers → Option Entry → Option ℕ → Option ExternalKey → Offer → Judged → Type 0
IsJudged w internal greatest least o judged = IsJudgedAs w internal greatest least o o.kind judged

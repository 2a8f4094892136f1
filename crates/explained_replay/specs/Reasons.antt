-- At which step of RFC 2328, 16 an offer was lost, and why.
use Rattle.std.specs.Prelude.{ℕ, Bool, true, false, List, codes}
use Rattle.explanation.specs.declared.verdict.Verdict.{Verdict}
use Rattle.explanation.specs.declared.verdict.Verdict.TheVariants.{Taken, MaxAge, Infinity, Own, Another, Unreached, NoInterface, LesserId, LesserArea, NotExamined, ActiveRange, NoBorderRouter, IntraArea, NoBoundaryRouter, NoForward, Internal, Type2, Metric2, Class, Costlier}
use Rattle.explanation.specs.declared.offer.OfferKind.{OfferKind}
use Rattle.explanation.specs.declared.offer.OfferKind.TheVariants.{Stub, Transit, Summary, AsExternal}

abbrev pub is_taken : Verdict → Bool
is_taken Taken = true
is_taken _ = false

-- for the offers of router-LSAs and network-LSAs
abbrev pub intra_step : Verdict → List ℕ
intra_step MaxAge = codes "16.1 (2b)"
intra_step Another = codes "16.1 (2b)"
intra_step Unreached = codes "16.1 (2b)"
intra_step LesserId = codes "16.1 (4)"
intra_step LesserArea = codes "16.8"
intra_step _ = codes "16.1"

-- for the offers of summary-LSAs
abbrev pub inter_step : Verdict → List ℕ
inter_step MaxAge = codes "16.2 (1)"
inter_step Infinity = codes "16.2 (1)"
inter_step Own = codes "16.2 (2)"
inter_step ActiveRange = codes "16.2 (3)"
inter_step NoBorderRouter = codes "16.2 (4)"
inter_step IntraArea = codes "16.2 (6)"
inter_step Costlier = codes "16.2 (7)"
inter_step LesserArea = codes "16.8"
inter_step _ = codes "16.2"

-- for the offers of AS-external-LSAs
abbrev pub external_step : Verdict → List ℕ
external_step MaxAge = codes "16.4 (1)"
external_step Infinity = codes "16.4 (1)"
external_step Own = codes "16.4 (2)"
external_step NoBoundaryRouter = codes "16.4 (3)"
external_step NoForward = codes "16.4 (3)"
external_step Internal = codes "16.4 (6a)"
external_step Type2 = codes "16.4 (6b)"
external_step Metric2 = codes "16.4 (6b)"
external_step Class = codes "16.4 (6c)"
external_step Costlier = codes "16.4 (6d)"
external_step _ = codes "16.4"

-- the step that decides; where the kind cannot have the verdict, the section that examines the kind
abbrev pub step_text : OfferKind → Verdict → List ℕ
step_text (Stub metric) verdict = intra_step verdict
step_text Transit verdict = intra_step verdict
step_text (Summary metric) verdict = inter_step verdict
step_text (AsExternal metric external) verdict = external_step verdict

abbrev pub reason_text : Verdict → List ℕ
reason_text Taken = codes "its paths are among those of the route"
reason_text MaxAge = codes "the LSA is at MaxAge"
reason_text Infinity = codes "its metric is LSInfinity"
reason_text Own = codes "the router itself originated it"
reason_text Another = codes "another network-LSA stands for the transit network"
reason_text Unreached = codes "no links that both ends have lead there"
reason_text NoInterface = codes "no interface of the area that is up lies in it"
reason_text LesserId = codes "another transit network of this prefix, at the same distance, has a greater Link State ID"
reason_text LesserArea = codes "another area offers the same cost, and has a greater Area ID"
reason_text NotExamined = codes "the summary-LSAs of the area are not examined"
reason_text ActiveRange = codes "the network is that of an active range"
reason_text NoBorderRouter = codes "the border router is not reached in the area"
reason_text IntraArea = codes "there is an intra-area route"
reason_text NoBoundaryRouter = codes "the AS boundary router is not reached"
reason_text NoForward = codes "the forwarding address is in no network that has an intra-area or inter-area route"
reason_text Internal = codes "there is an intra-area or inter-area route"
reason_text Type2 = codes "another one has a metric of type 1"
reason_text Metric2 = codes "another one has a lesser metric of type 2"
reason_text Class = codes "another one leads over an intra-area path through another area than the backbone"
reason_text Costlier = codes "another one costs less"

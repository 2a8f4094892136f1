-- The explanation of an address (RFC 2328, 11.1 and 16).
use Rattle.std.specs.Prelude.{ℕ, ◌≡◌, ◌≢◌, List, [], ◌∷◌, ◌++◌, Contains, Option, Some, None, map}
use Rattle.std.specs.List.Sorted.{IsStrictlySortedBy}
use Rattle.ospf_types.specs.declared.entry.Entry.{Entry}
use Rattle.ospf_types.specs.declared.prefix.Prefix.{Prefix}
use Rattle.ospf_types.specs.Network.{network_cmp}
use Rattle.event_state.specs.States.{State}
use Rattle.calculation.specs.Calculations.{entry_at}
use Rattle.route_layers.specs.Layers.{AreActive}
use Rattle.explanation.specs.declared.explained.Candidate.{Candidate}
use Rattle.explanation.specs.declared.verdict.Verdict.{Verdict}
use Rattle.explanation.specs.declared.verdict.Verdict.TheVariants.{Taken}
use Rattle.explanation.specs.declared.layers.Layers.{Layers}
use Rattle.explanation.specs.declared.offer.Offer.{Offer}
use Rattle.explanation.specs.declared.offered.ExternalKey.{ExternalKey}
use Rattle.explanation.specs.declared.trace.Trace.{Trace}
use Rattle.explanation.specs.Judging.{IsJudged}
use Rattle.explanation.specs.Layers.{AreLayers}
use Rattle.explanation.specs.Groups.{offers_for}
use Rattle.explanation.specs.Networks.{IsJudgedAmong, all_offers, by_networks}
use Rattle.explanation.specs.Outside.{AreTraces}

-- An offer that is taken has a trace for each of the paths that it gives to its network's route.
-- Other offers have none.
pub record AreTracesFor (w : Layers) (o : Offer) (f : Verdict) (traces : List Trace) : Type 0 where
  pub taken : f ≡ Taken → (e : Entry) → entry_at w.calculation.now o.network ≡ Some e → AreTraces w o e.paths traces
  pub no_route : entry_at w.calculation.now o.network ≡ None → traces ≡ []
  pub lost : f ≢ Taken → traces ≡ []

-- the verdict on the offer, among exactly the offers of all for its network
pub record IsCandidate (w : Layers) (all : List Offer) (c : Candidate) : Type 0 where
  pub judged : IsJudgedAmong w all c.offer (record { cost = c.cost; verdict = c.verdict })
  pub traces : AreTracesFor w c.offer c.verdict c.traces.items

-- the verdicts on these offers
pub record AreCandidates (w : Layers) (all offers : List Offer) (candidates : List Candidate) : Type 0 where
  pub sound : (c : Candidate) → Contains candidates c → Contains offers c.offer × IsCandidate w all c
  pub complete : (o : Offer) → Contains offers o → (c : Candidate) × Contains candidates c × (c.offer ≡ o)

abbrev pub offers_of : List Candidate → List Offer
offers_of candidates = map (λ (c : Candidate). c.offer) candidates

-- The candidates are in the order of their networks: by address, then by length. Those of one
-- network are in the order of all offers.
pub record AreCandidatesInOrder (all : List Offer) (candidates : List Candidate) : Type 0 where
  pub networks : List Prefix
  pub ascend : IsStrictlySortedBy network_cmp networks
  pub listed : offers_of candidates ≡ by_networks all networks

-- the offers of networks that contain the address, by the results calculated of the state
pub record IsExplained (s : State) (address : ℕ) (candidates : List Candidate) : Type 0 where
  pub layers : Layers
  pub state : layers.state.now ≡ s
  pub right : AreLayers s layers.calculation.now layers.areas.now
  pub active : AreActive s layers.active.now
  pub candidates_are : AreCandidates layers (all_offers layers address) (all_offers layers address) candidates
  pub in_order : AreCandidatesInOrder (all_offers layers address) candidates

-- the verdict on this offer among these rivals is added
abbrev pub AddsJudged : Layers → Option Entry → Option ℕ → Option ExternalKey → Offer → List Candidate → List Candidate → Type 0
AddsJudged w internal greatest least o before after = (c : Candidate) × (c.offer ≡ o)
    × IsJudged w internal greatest least o (record { cost = c.cost; verdict = c.verdict }) × AreTracesFor w o c.verdict c.traces.items × (after ≡ before ++ c ∷ [])

-- the verdict on this offer is added
abbrev pub AddsCandidate : Layers → List Offer → Offer → List Candidate → List Candidate → Type 0
AddsCandidate w all o before after = (c : Candidate) × IsCandidate w all c × (c.offer ≡ o) × (after ≡ before ++ c ∷ [])

-- the verdicts on these offers are added to those on the others
abbrev pub MakesMore : Layers → List Offer → List Offer → List Candidate → List Candidate → Type 0
MakesMore w all group before after = (others : List Offer) → AreCandidates w all others before → AreCandidates w all (others ++ group) after

-- the verdicts on all offers of the network are added
abbrev pub AddsNetwork : Layers → List Offer → Prefix → List Candidate → List Candidate → Type 0
AddsNetwork w all p before after = MakesMore w all (offers_for p all) before after × (offers_of after ≡ offers_of before ++ offers_for p all)

-- the networks of all these offers
abbrev pub AreNetworks : List Offer → List Prefix → Type 0
AreNetworks offers networks = (o : Offer) → Contains offers o → Contains networks o.network

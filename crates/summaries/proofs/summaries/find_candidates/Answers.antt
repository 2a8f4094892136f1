-- One destination more.
use Rattle.std.proofs.Common.{◌≡◌, ◌+◌, List, [], ◌∷◌, ◌++◌, take, sym, ap, subst, ◌∙◌, inl, inr}
use Rattle.std.specs.Prelude.{Contains}
use Rattle.std.proofs.lemmas.List.{map-append, take_more}
use Rattle.std.proofs.lemmas.List.Elements.{Contains-append_cases}
use Rattle.ospf_types.specs.declared.key.Dest.{Dest}
use Rattle.ospf_types.proofs.Elements.{no_element}
use Rattle.ospf_types.proofs.InOrder.{only_item}
use Rattle.summaries.specs.declared.giving.SummaryCandidate.{SummaryCandidate}
use Rattle.summaries.specs.Candidates.{IsCandidateOf, dests_in}
use Rattle.summaries.proofs.summaries.find_candidates.Goals as goal

pub loop-dest-init : goal.loop-dest-init
loop-dest-init c = (ap dests_in c.clear.ensures.items, λ x there. absurd (no_element x (subst (λ (xs : List SummaryCandidate). Contains xs x) c.clear.ensures.items there)))

pub loop-dest-preserved : goal.loop-dest-preserved
loop-dest-preserved c =
    let v = c.args.inputs.now in
    let dests = c.args.dests.now in
    let i = c.loop-dest.dest-index in
    let found = c.loop-dest.found.items in
    let one : SummaryCandidate = c.find_candidate.result in
    let d : Dest = c.dest-item.result in
    let pushed = c.in_ok-push.ensures.items in
    let was = c.loop-dest.invariant in
    let here : d ∷ [] ≡ one.dest ∷ [] = ap (λ (e : Dest). e ∷ []) (sym c.find_candidate.ensures.dest) in
    let more : take (i + 1) dests ≡ take i dests ++ d ∷ [] = take_more dests i d c.loop-dest-test.true ∙ ap (λ (e : Dest). take i dests ++ e ∷ []) (sym c.dest-item.is) in (
      ap dests_in pushed ∙ map-append (λ (x : SummaryCandidate). x.dest) found (one ∷ []) ∙ (λ k. was.0 k ++ sym here k) ∙ sym more,
      λ x there. elim (Contains-append_cases found (one ∷ []) x (subst (λ (xs : List SummaryCandidate). Contains xs x) pushed there)) [
        | inl before ↦ was.1 x before
        | inr same ↦ subst (IsCandidateOf v) (sym (only_item one x same)) c.find_candidate.ensures.right
      ],
    )

-- One destination more.
use Rattle.std.proofs.Common.{◌≡◌, ℕ, ◌+◌, ◌<◌, ◌≤◌, List, ◌∷◌, length, drop, get_or, sym, ap, subst, ◌∙◌}
use Rattle.std.specs.Prelude.{◌↔◌, IsTrue}
use Rattle.std.proofs.lemmas.List.{length-map, get_or-map}
use Rattle.ospf_types.proofs.Elements.{first_element, contains_at}
use Rattle.summary_lists.specs.declared.due.DueSummary.{DueSummary}
use Rattle.summary_lists.specs.Lists.{Metrics, IsMetricIn, due_for}
use Rattle.summary_lists.proofs.Parts.{IsLeft, all_left, left_after}
use Rattle.summary_lists.proofs.Changing.{left_at}
use Rattle.summaries.specs.declared.giving.SummaryCandidate.{SummaryCandidate}
use Rattle.summaries.specs.Candidates.{dests_in}
use Rattle.summaries.specs.Giving.{IsServed}
use Rattle.summaries.specs.Inputs.{SummaryInputsValue}
use Rattle.summaries.proofs.Comparing.{AreComparedTo, none_compared, compared_more, compared_all, later_dests}
use Rattle.summaries.proofs.summaries.Planning.changes.Goals as goal

pub look_up-had-requires-clause-in_order : goal.look_up-had-requires-clause-in_order
look_up-had-requires-clause-in_order c = c.loop-candidate.invariant.1.in_order

pub look_up-had-requires-clause-of_kind : goal.look_up-had-requires-clause-of_kind
look_up-had-requires-clause-of_kind c = c.loop-candidate.invariant.1.of_kind

pub loop-candidate-init : goal.loop-candidate-init
loop-candidate-init c =
    let dests = dests_in c.args.self.candidates.now in (
      subst (λ (ms : Metrics). AreComparedTo c.args.self.inputs.now c.args.area.now c.args.list.now dests ms 0) (sym c.new-metrics.ensures.items)
          (none_compared c.args.self.inputs.now c.args.area.now c.args.list.now dests c.requires.in_order),
      all_left c.args.list.now dests c.requires.list c.requires.kinds,
    )

pub loop-candidate-preserved : goal.loop-candidate-preserved
loop-candidate-preserved c =
    let list = c.args.list.now in
    let cands = c.args.self.candidates.now in
    let dests = dests_in cands in
    let i = c.loop-candidate.candidate-index in
    let x : SummaryCandidate = c.candidate-item.result in
    let d = x.dest in
    let lt : i < length dests = subst (λ (n : ℕ). i < n) (sym (length-map cands (λ (y : SummaryCandidate). y.dest))) c.loop-candidate-test.true in
    let at : d ≡ get_or dests i d = ap (λ (y : SummaryCandidate). y.dest) c.candidate-item.is ∙ sym (get_or-map (λ (y : SummaryCandidate). y.dest) cands i x d c.loop-candidate-test.true) in
    let was = c.loop-candidate.invariant in
    let rest = c.loop-candidate.rest.now in
    let left : IsLeft list rest (d ∷ drop (i + 1) dests) = subst (IsLeft list rest) (left_at dests i d lt at) was.1 in
    let had : IsMetricIn list d c.look_up-had.result.0 = λ m.
    let same = left.same d (first_element d (drop (i + 1) dests)) (due_for d m) (λ k. d) in
    let is = c.look_up-had.ensures.metric m in
    (λ h. same.0 (is.0 h), λ h. is.1 (same.1 h)) in
    let v = c.args.self.inputs.now in
    let serves = subst (λ (w : SummaryInputsValue). IsTrue c.is_served-served.result ↔ IsServed w.active c.args.area.now.id) c.inputs.view_is c.is_served-served.ensures in
    let right = c.requires.right x (contains_at cands i x c.loop-candidate-test.true c.candidate-item.is) in (
      compared_more c.args.self.inputs.now c.args.area.now list dests c.loop-candidate.metrics.items i d c.metric-metric.result lt at (c.metric-metric.ensures v serves right) was.0 c.push_change.new.metrics.items (c.in_ok-moves.ensures list had),
      subst (λ (ds : List DueSummary). IsLeft list ds (drop (i + 1) dests)) (sym c.look_up-had.ensures.after) (left_after list rest d (drop (i + 1) dests) (later_dests dests i d lt at c.requires.in_order) left),
    )

pub returns : goal.returns
returns c =
    let cands = c.args.self.candidates.now in
    let dests = dests_in cands in
    let i = c.loop-candidate.candidate-index in
    let past : length dests ≤ i = subst (λ (n : ℕ). n ≤ i) (sym (length-map cands (λ (y : SummaryCandidate). y.dest))) c.loop-candidate-test.false in
    compared_all c.args.self.inputs.now c.args.area.now c.args.list.now dests c.loop-candidate.metrics.items i past c.loop-candidate.invariant.0

-- The range's own networks decide.
use Rattle.std.proofs.Common.{◌≡◌, ◌<◌, Some, sym, subst, ◌∙◌}
use Rattle.std.specs.Prelude.{◌↔◌}
use Rattle.ospf_types.specs.Summaries.{IsGreatest}
use Rattle.active_ranges.specs.Active.{ActiveValue, HasCost}
use Rattle.active_ranges.proofs.Weighing.{costliest_there, costliest_none}
use Rattle.active_ranges.proofs.active.ActiveRanges.costliest.Goals as goal

pub returns-in_err-networks : goal.returns-in_err-networks
returns-in_err-networks c = λ cost.
    let range = c.args.range in
    let area = c.args.area in
    let limit = c.args.limit in
    let none = costliest_none c.self.inside.ranges.entries c.self.inside.spent range area limit c.in_err-networks.ensures.value cost in (
      λ is. let wrong = sym c.from_residual.ensures ∙ is in absurd cc,
      λ g. absurd (none (subst (λ (v : ActiveValue). IsGreatest (λ c. HasCost v range area c × (c < limit)) cost) (sym c.self.view_is) g)),
    )

pub returns : goal.returns
returns c = λ cost.
    let range = c.args.range in
    let area = c.args.area in
    let limit = c.args.limit in
    let most = c.costliest.result in
    let there = costliest_there c.self.inside.ranges.entries c.self.inside.spent range area limit c.in_ok-networks.networks.now c.in_ok-networks.ensures.value most c.costliest.ensures cost in
    subst (λ (v : ActiveValue). (most ≡ Some cost) ↔ IsGreatest (λ c. HasCost v range area c × (c < limit)) cost) c.self.view_is there

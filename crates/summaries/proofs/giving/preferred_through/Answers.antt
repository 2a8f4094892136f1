-- The preferred entry leads through an area at a finite cost.
use Rattle.std.proofs.Common.{◌<◌, ℕ, ap, sym, subst, ◌∙◌}
use Rattle.std.specs.Prelude.{option_copied}
use Rattle.ospf_types.specs.Inter.{LSInfinity}
use Rattle.summaries.proofs.Throughs.{preferred_leads}
use Rattle.summaries.proofs.giving.preferred_through.Goals as goal

pub returns-then-cost-lt-LS_INFINITY : goal.returns-then-cost-lt-LS_INFINITY
returns-then-cost-lt-LS_INFINITY c =
    let again = c.cost-then-cost-lt-LS_INFINITY.ensures.value in
    let finite = subst (λ (n : ℕ). n < LSInfinity) (c.cost.ensures.value ∙ sym again) c.if-cost-lt-LS_INFINITY.true in
    preferred_leads (option_copied c.args.preferred) c.in_ok-preferred.preferred.now c.area.result c.cost-then-cost-lt-LS_INFINITY.result (ap option_copied c.in_ok-preferred.was) c.area.ensures again finite

use Rattle.std.proofs.Common.{ap, sym, ◌∙◌, inr}
use Rattle.std.specs.FinMap.{get}
use Rattle.external.specs.Externals.{ExternalValue}
use Rattle.explanation.proofs.layers.Layers.forward.Goals as goal

pub returns-clause-some : goal.returns-clause-some
returns-clause-some c = λ router. inr (
  c.requires,
  (
    c.in_ok-forwarding_match.field-0.now,
    c.in_ok-way.way.now,
    sym (c.in_ok-forwarding_match.ensures ∙ ap (λ (v : ExternalValue). get v.forwards c.args.address) c.external.ensures),
    sym c.in_ok-way.ensures,
    c.class.ensures,
    c.cost.ensures.value,
  ),
)

use Rattle.std.proofs.Common.{◌≡◌, Option, ℕ, refl, sym, subst, ◌∙◌, inl, inr}
use Rattle.std.specs.Prelude.{true, false}
use Rattle.inter.proofs.Following.{same_areas}
use Rattle.summary_lists.specs.Lists.{IsMetricIn}
use Rattle.summaries.proofs.Comparing.{one_metric, equal_tested}
use Rattle.summaries.proofs.summaries.push_change.Goals as goal

pub returns-then-eq : goal.returns-then-eq
returns-then-eq c = λ list has.
    let same : c.args.metric ≡ c.args.had = same_areas c.args.metric c.args.had (sym c.eq.ensures ∙ c.if-eq.true) in
    inl (refl, subst (λ (m : Option ℕ). IsMetricIn list c.args.dest m) (sym same) has)

pub returns : goal.returns
returns c = λ list had. inr (
  c.in_ok-push.ensures.items,
  λ has.
      let same : c.args.metric ≡ c.args.had = one_metric list c.args.dest c.args.metric c.args.had has had in
      let equal : true ≡ c.eq.result = sym (c.eq.ensures ∙ equal_tested c.args.metric c.args.had same) in
      let differs : true ≡ false = equal ∙ c.if-eq.false in
      absurd cc,
)

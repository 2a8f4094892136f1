-- Reasons before all sources.
use Rattle.std.proofs.Common.{◌≡◌, ℕ, List, false, true, sym, ap, subst, ◌∙◌}
use Rattle.std.specs.Prelude.{Contains}
use Rattle.summaries.specs.Inputs.{SummaryInputsValue}
use Rattle.due_explanation.specs.Reasons.{AreSeveral, IsExplainedIn}
use Rattle.due_explanation.proofs.SourceMetrics.{due_served, none_unless_active, served, stub_due, stub_why}
use Rattle.due_explanation.proofs.reasons.reason_in.Goals as goal

pub returns-then-not-is_active : goal.returns-then-not-is_active
returns-then-not-is_active c =
    let v = c.args.inputs.now in
    let a = c.args.area.now in
    let active = ap (λ (w : SummaryInputsValue). w.active) c.inputs.view_is in
    let two = subst AreSeveral active (c.are_several.ensures.0 c.if-not-are_several.false) in
    let not : Contains v.active a.id → _ = λ here. let wrong : true ≡ false = sym (c.is_active.ensures.1 (subst (λ (xs : List ℕ). Contains xs a.id) (sym active) here)) ∙ c.if-not-is_active.true in absurd cc in
    subst (IsExplainedIn v a c.args.dest.now) (sym c.undue-then-not-is_active.ensures) (record { metric = none_unless_active v a c.args.dest.now not; why = (two, not) })

pub returns-in-Some : goal.returns-in-Some
returns-in-Some c =
    let v = c.args.inputs.now in
    let a = c.args.area.now in
    let d = c.args.dest.now in
    let x = c.in-Some.explained in
    let active = ap (λ (w : SummaryInputsValue). w.active) c.inputs.view_is in
    let two = subst AreSeveral active (c.are_several.ensures.0 c.if-not-are_several.false) in
    let here = subst (λ (xs : List ℕ). Contains xs a.id) active (c.is_active.ensures.0 c.if-not-is_active.false) in
    let is = served v.active a.id two here in
    record {
      metric = due_served v a d x.metric is (stub_due v a d x.metric x.reason c.in-Some.ensures.some);
      why = stub_why v a d x.metric x.reason is c.in-Some.ensures.some;
    }

pub reason_by_sources-requires-clause-served : goal.reason_by_sources-requires-clause-served
reason_by_sources-requires-clause-served c =
    let v = c.args.inputs.now in
    let a = c.args.area.now in
    let active = ap (λ (w : SummaryInputsValue). w.active) c.inputs.view_is in
    served v.active a.id (subst AreSeveral active (c.are_several.ensures.0 c.if-not-are_several.false)) (subst (λ (xs : List ℕ). Contains xs a.id) active (c.is_active.ensures.0 c.if-not-is_active.false))

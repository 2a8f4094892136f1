use Rattle.std.proofs.Common.{◌≡◌, ◌+◌, ◌<◌, ◌≤◌, List, length, get_or, set, sym, ap, subst, ◌∙◌, arith}
use Rattle.ospf_types.specs.declared.config.AreaConfig.{AreaConfig}
use Rattle.summary_lists.specs.declared.plan.AreaPlan.{AreaPlan}
use Rattle.summaries.specs.Candidates.{dests_in}
use Rattle.summaries.specs.Inputs.{SummaryInputsValue}
use Rattle.summary_lists.specs.Lists.{AreaSummariesValue}
use Rattle.summaries.specs.Planning.{ArePlannedTo}
use Rattle.summaries.proofs.Turns.{none_planned, planned_more, all_planned, listed_set}
use Rattle.summaries.proofs.summaries.Planning.plan_areas.Goals as goal

pub bounds-lists-place : goal.bounds-lists-place
bounds-lists-place c =
    let areas : c.inputs.inside.areas.now ≡ c.args.self.inputs.now.areas = ap (λ (w : SummaryInputsValue). w.areas) c.inputs.view_is in
    let lt : c.loop-place.place < length c.args.self.inputs.now.areas = subst (λ (list : List AreaConfig). c.loop-place.place < length list) areas c.loop-place-test.true in
    omega (arith, lt, c.requires.long, c.loop-place.auto.lists)

pub loop-place-init : goal.loop-place-init
loop-place-init c =
    let v = c.args.self.inputs.now in
    subst (λ (plans : List AreaPlan). ArePlannedTo v (dests_in c.args.self.candidates.now) v.areas c.args.lists.now c.args.lists.now plans 0) (sym c.in_ok-plans.ensures.items)
    (none_planned v (dests_in c.args.self.candidates.now) v.areas c.args.lists.now)

pub loop-place-preserved : goal.loop-place-preserved
loop-place-preserved c =
    let v = c.args.self.inputs.now in
    let i = c.loop-place.place in
    let areas : c.inputs.inside.areas.now ≡ v.areas = ap (λ (w : SummaryInputsValue). w.areas) c.inputs.view_is in
    let lt : i < length v.areas = subst (λ (list : List AreaConfig). i < length list) areas c.loop-place-test.true in
    let a : AreaConfig = c.area-item.result in
    let at : a ≡ get_or v.areas i a = c.area-item.is ∙ ap (λ (list : List AreaConfig). get_or list i a) areas in
    let now = c.loop-place.lists in
    let was : AreaSummariesValue = get_or now i c.index-lists-place.result in
    let was_at : was ≡ get_or now i was = ap (get_or now i) c.index-lists-place.is in
    let new : AreaSummariesValue = c.plan_area.new.summaries in
    subst (λ (plans : List AreaPlan). ArePlannedTo v (dests_in c.args.self.candidates.now) v.areas c.args.lists.now (set now i new) plans (i + 1)) (sym c.in_ok-push.ensures.items)
    (planned_more v (dests_in c.args.self.candidates.now) v.areas c.args.lists.now now c.loop-place.plans.items i a was new c.in_ok-plan.plan
    lt (c.loop-place.auto.lists ∙ c.requires.long) c.requires.long at was_at c.in_ok-plan.ensures.area c.in_ok-plan.ensures.list c.in_ok-plan.ensures.planned c.loop-place.invariant)

pub returns-clause-planned : goal.returns-clause-planned
returns-clause-planned c =
    let v = c.args.self.inputs.now in
    let areas : c.inputs.inside.areas.now ≡ v.areas = ap (λ (w : SummaryInputsValue). w.areas) c.inputs.view_is in
    let past : length v.areas ≤ c.loop-place.place = subst (λ (list : List AreaConfig). length list ≤ c.loop-place.place) areas c.loop-place-test.false in
    all_planned v (dests_in c.args.self.candidates.now) v.areas c.args.lists.now c.loop-place.lists c.loop-place.plans.items c.loop-place.place
    past c.requires.long (c.loop-place.auto.lists ∙ c.requires.long) c.loop-place.invariant

-- where memory is refused, the list in its place is unchanged
pub returns-in_err-plan-clause-same : goal.returns-in_err-plan-clause-same
returns-in_err-plan-clause-same c =
    let now = c.loop-place.lists in
    let i = c.loop-place.place in
    let was : AreaSummariesValue = get_or now i c.index-lists-place.result in
    listed_set now i c.plan_area.new.summaries was (ap (get_or now i) c.index-lists-place.is) c.plan_area.ensures.area c.plan_area.ensures.list ∙ c.loop-place.invariant.same

pub returns-in_err-push-clause-same : goal.returns-in_err-push-clause-same
returns-in_err-push-clause-same c =
    let now = c.loop-place.lists in
    let i = c.loop-place.place in
    let was : AreaSummariesValue = get_or now i c.index-lists-place.result in
    listed_set now i c.plan_area.new.summaries was (ap (get_or now i) c.index-lists-place.is) c.plan_area.ensures.area c.plan_area.ensures.list ∙ c.loop-place.invariant.same

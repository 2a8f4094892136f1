use Rattle.std.proofs.Common.{◌≡◌, List, [], length, sym, ap, subst, ◌∙◌}
use Rattle.std.proofs.lemmas.Bool.{eqb-true}
use Rattle.std.proofs.lemmas.List.{nil_from_length, with_items_is}
use Rattle.ospf_types.proofs.Elements.{no_element}
use Rattle.ospf_types.specs.declared.key.Dest.{Dest}
use Rattle.summary_lists.specs.declared.plan.AreaPlan.{AreaPlan}
use Rattle.summaries.specs.Candidates.{dests_in}
use Rattle.summaries.specs.Inputs.{SummaryInputsValue}
use Rattle.summary_lists.specs.Lists.{AreaSummariesValue}
use Rattle.summaries.specs.DueSummaries.{AreDueChanges, DueSummariesValue, AreListsOf, listed}
use Rattle.summaries.specs.Carrying.{AllFit, AllChanged, changes_of}
use Rattle.summaries.specs.Changes.{AreDueAlikeBut}
use Rattle.summaries.proofs.Untouched.{lists_now, lists_rest}
use Rattle.summaries.proofs.Turns.{planned_changes, planned_fit, planned_lists, lists_long}
use Rattle.summaries.proofs.summaries.DueSummaries.plan.Goals as goal

pub plan_areas-requires-clause-long : goal.plan_areas-requires-clause-long
plan_areas-requires-clause-long c =
    let v = c.args.inputs.now in
    let b = c.requires.before in
    let lists : c.deref_mut.result.now ≡ c.args.self.now.areas = c.deref_mut.ensures.value ∙ ap (λ (w : DueSummariesValue). w.areas) c.self.view_is in
    ap (λ (ws : List AreaSummariesValue). length ws) lists ∙ lists_long b.0 v.areas c.args.self.now.areas (lists_now b.0 v c.args.self.now.areas b.2.areas b.1.lists)

pub returns-clause-ready : goal.returns-clause-ready
returns-clause-ready c =
    let v = c.args.inputs.now in
    let planned = c.in_ok-areas.ensures.planned in
    let length_is : length c.plan_areas.new.lists ≡ c.self.inside.areas.len = c.plan_areas.auto.lists ∙ ap (λ (ws : List AreaSummariesValue). length ws) c.deref_mut.ensures.value ∙ sym c.self.inside.areas.ok.0 in
    subst (AllFit c.in_ok-areas.areas.items) (sym (with_items_is c.self.inside.areas c.plan_areas.new.lists length_is))
    (planned_fit v (dests_in c.deref-2.result.now) v.areas c.deref_mut.result.now c.plan_areas.new.lists c.in_ok-areas.areas.items planned)

pub returns-clause-kept : goal.returns-clause-kept
returns-clause-kept c after carried =
    let v = c.args.inputs.now in
    let b = c.requires.before in
    let affected : List Dest = c.in_ok-affected.affected.items in
    let plans : List AreaPlan = c.in_ok-areas.areas.items in
    let length_is : length c.plan_areas.new.lists ≡ c.self.inside.areas.len = c.plan_areas.auto.lists ∙ ap (λ (ws : List AreaSummariesValue). length ws) c.deref_mut.ensures.value ∙ sym c.self.inside.areas.ok.0 in
    let leads : AllChanged (changes_of plans) c.plan_areas.new.lists after.areas = subst (λ (lists : List AreaSummariesValue). AllChanged (changes_of plans) lists after.areas) (with_items_is c.self.inside.areas c.plan_areas.new.lists length_is) carried.lists in
    let own : c.deref_mut.result.now ≡ c.args.self.now.areas = c.deref_mut.ensures.value ∙ ap (λ (w : DueSummariesValue). w.areas) c.self.view_is in
    let lists : AreListsOf b.0 v.areas c.deref_mut.result.now =
    subst (AreListsOf b.0 v.areas) (sym own) (lists_now b.0 v c.args.self.now.areas b.2.areas b.1.lists) in
    let named_are : dests_in c.deref-2.result.now ≡ affected = ap dests_in c.deref-2.ensures.value ∙ c.in_ok-find_candidates.ensures.dests ∙ c.deref.ensures.value in
    let alike : AreDueAlikeBut (dests_in c.deref-2.result.now) b.0 v = subst (λ (ds : List Dest). AreDueAlikeBut ds b.0 v) (sym named_are) (c.in_ok-affected.ensures.enough b.0 b.1 b.2) in
    record {
      active = carried.active ∙ c.in_ok-active.ensures.ok ∙ ap (λ (w : SummaryInputsValue). w.active) c.inputs.view_is;
      lists = planned_lists v (dests_in c.deref-2.result.now) v.areas c.deref_mut.result.now c.plan_areas.new.lists plans c.in_ok-areas.ensures.planned after.areas leads b.0 alike lists;
    }

pub returns-clause-changes : goal.returns-clause-changes
returns-clause-changes c after carried =
    let v = c.args.inputs.now in
    let plans : List AreaPlan = c.in_ok-areas.areas.items in
    let length_is : length c.plan_areas.new.lists ≡ c.self.inside.areas.len = c.plan_areas.auto.lists ∙ ap (λ (ws : List AreaSummariesValue). length ws) c.deref_mut.ensures.value ∙ sym c.self.inside.areas.ok.0 in
    let leads : AllChanged (changes_of plans) c.plan_areas.new.lists after.areas = subst (λ (lists : List AreaSummariesValue). AllChanged (changes_of plans) lists after.areas) (with_items_is c.self.inside.areas c.plan_areas.new.lists length_is) carried.lists in
    let own : c.deref_mut.result.now ≡ c.args.self.now.areas = c.deref_mut.ensures.value ∙ ap (λ (w : DueSummariesValue). w.areas) c.self.view_is in
    subst (λ (lists : List AreaSummariesValue). AreDueChanges (changes_of plans) (listed lists) (listed after.areas)) own
    (planned_changes v (dests_in c.deref-2.result.now) v.areas c.deref_mut.result.now c.plan_areas.new.lists plans c.in_ok-areas.ensures.planned after.areas leads)

-- where nothing is named
pub returns-then-is_empty-clause-kept : goal.returns-then-is_empty-clause-kept
returns-then-is_empty-clause-kept c after carried =
    let v = c.args.inputs.now in
    let b = c.requires.before in
    let affected : List Dest = c.in_ok-affected.affected.items in
    let none : affected ≡ [] = nil_from_length affected (sym c.in_ok-affected.affected.ok.0 ∙ eqb-true _ 0 (sym c.is_empty.ensures ∙ c.if-is_empty.true)) in
    let alike : AreDueAlikeBut [] b.0 v = subst (λ (ds : List Dest). AreDueAlikeBut ds b.0 v) none (c.in_ok-affected.ensures.enough b.0 b.1 b.2) in
    let same : after.areas ≡ c.args.self.now.areas = subst (λ (ps : List AreaPlan). AllChanged (changes_of ps) c.args.self.now.areas after.areas) c.new-areas.ensures.items carried.lists in
    record {
      active = carried.active ∙ c.in_ok-active.ensures.ok ∙ ap (λ (w : SummaryInputsValue). w.active) c.inputs.view_is;
      lists = subst (AreListsOf v v.areas) (sym same)
          (lists_rest b.0 v v.areas c.args.self.now.areas (λ a d there m. alike a d there (no_element d) m) (lists_now b.0 v c.args.self.now.areas b.2.areas b.1.lists));
    }

pub returns-then-is_empty-clause-changes : goal.returns-then-is_empty-clause-changes
returns-then-is_empty-clause-changes c after carried =
    let areas = c.args.self.now.areas in
    let same : after.areas ≡ areas = subst (λ (ps : List AreaPlan). AllChanged (changes_of ps) areas after.areas) c.new-areas.ensures.items carried.lists in
    subst (λ (ps : List AreaPlan). AreDueChanges (changes_of ps) (listed areas) (listed after.areas)) (sym c.new-areas.ensures.items) (ap listed same)

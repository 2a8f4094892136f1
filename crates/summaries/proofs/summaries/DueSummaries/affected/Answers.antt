use Rattle.std.proofs.Common.{◌≡◌, ◌<◌, ℕ, List, true, length, refl, sym, ap, subst, ◌∙◌}
use Rattle.std.specs.List.Sorted.{IsStrictlySortedBy}
use Rattle.std.proofs.lemmas.Bool.Decides.{Decides-eqb}
use Rattle.std.proofs.lemmas.Result.{IfOk-weaker}
use Rattle.std.proofs.lemmas.Slice.Eq.{slice_eq-Decides}
use Rattle.ospf_types.specs.declared.config.AreaConfig.{AreaConfig}
use Rattle.ospf_types.specs.declared.key.Dest.{Dest}
use Rattle.summaries.specs.DueSummaries.{DueSummariesValue}
use Rattle.summaries.specs.Inputs.{SummaryInputsValue}
use Rattle.summaries.specs.Touched.{IsTouchedBy}
use Rattle.ospf_types.specs.Keys.{dest_cmp}
use Rattle.summaries.proofs.Untouched.{alike_few, alike_touched, none_in_order}
use Rattle.summaries.proofs.summaries.DueSummaries.affected.Goals as goal

-- where other areas are active
pub returns-then-not-are_same-clause-enough : goal.returns-then-not-are_same-clause-enough
returns-then-not-are_same-clause-enough c = IfOk-weaker c.all.result _ _ (λ found enough before were differ. enough before were differ.areas) c.all.ensures.enough

pub returns-then-inputs-lt2-clause-in_order : goal.returns-then-inputs-lt2-clause-in_order
returns-then-inputs-lt2-clause-in_order c = subst (IsStrictlySortedBy dest_cmp) (sym c.new.ensures.items) (none_in_order dest_cmp)

pub returns-then-inputs-lt2-clause-enough : goal.returns-then-inputs-lt2-clause-enough
returns-then-inputs-lt2-clause-enough c before were differ =
    let v = c.args.inputs.now in
    let equal : c.as_slice.result.now ≡ c.inputs.inside.active.now = (slice_eq-Decides Decides-eqb c.as_slice.result.now c.inputs.inside.active.now true c.if-not-are_same.ensures).0 refl in
    let own : c.as_slice.result.now ≡ c.args.self.now.active = c.as_slice.ensures ∙ ap (λ (w : DueSummariesValue). w.active) c.self.view_is in
    let view : c.inputs.inside.active.now ≡ v.active = ap (λ (w : SummaryInputsValue). w.active) c.inputs.view_is in
    let few : length c.inputs.inside.active.now < 2 = c.if-inputs-lt2.true in
    alike_few c.new.result.items before v c.args.self.now (subst (λ (xs : List ℕ). length xs < 2) view few) (sym own ∙ equal ∙ view) were

pub returns-clause-enough : goal.returns-clause-enough
returns-clause-enough c =
    let v = c.args.inputs.now in
    let dests : List Dest = c.args.dests.now in
    let equal : c.as_slice.result.now ≡ c.inputs.inside.active.now = (slice_eq-Decides Decides-eqb c.as_slice.result.now c.inputs.inside.active.now true c.if-not-are_same.ensures).0 refl in
    let own : c.as_slice.result.now ≡ c.args.self.now.active = c.as_slice.ensures ∙ ap (λ (w : DueSummariesValue). w.active) c.self.view_is in
    let active : c.args.self.now.active ≡ v.active = sym own ∙ equal ∙ ap (λ (w : SummaryInputsValue). w.active) c.inputs.view_is in
    let areas : c.inputs.inside.areas.now ≡ v.areas = ap (λ (w : SummaryInputsValue). w.areas) c.inputs.view_is in
    IfOk-weaker c.affected.result _ _ (λ found enough before were differ.
    alike_touched dests found.items before v c.args.self.now (λ d t. enough d (subst (λ (list : List AreaConfig). IsTouchedBy list dests d) (sym areas) t)) active were differ)
    c.affected.ensures.enough

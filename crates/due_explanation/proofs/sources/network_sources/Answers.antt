-- One area more.
use Rattle.std.proofs.Common.{◌++◌, List, refl, ap, subst, ◌∙◌}
use Rattle.summaries.specs.Inputs.{SummaryInputsValue}
use Rattle.due_explanation.specs.Sources.{AreRangeSources}
use Rattle.due_explanation.specs.declared.due.DueSource.{DueSource}
use Rattle.due_explanation.proofs.Listing.{added, all_done, one_more}
use Rattle.due_explanation.proofs.sources.network_sources.Goals as goal

pub loop-area-init : goal.loop-area-init
loop-area-init c = λ rest are. (rest, are, refl)

pub loop-area-preserved : goal.loop-area-preserved
loop-area-preserved c =
    one_more c.args.inputs.now c.args.network c.inputs.inside.areas.now c.loop-area.area-index c.push_found-2.new.sources.items c.loop-area.sources.items c.push_found-in-loop-area.new.sources.items
    c.area-item.result c.range_source.result c.loop-area-test.true c.area-item.is c.range_source.ensures
    (added _ _ _ _ _ c.in_ok-push_found-3.ensures c.as_ref-in-loop-area.ensures.value refl) c.loop-area.invariant

pub returns : goal.returns
returns c =
    let v = c.args.inputs.now in
    let p = c.args.network in
    let areas = ap (λ (w : SummaryInputsValue). w.areas) c.inputs.view_is in
    let intra = added _ _ _ _ _ c.in_ok-push_found.ensures c.as_ref.ensures.value c.new-sources.ensures.items in
    let inter = added _ _ _ _ _ c.in_ok-push_found-2.ensures c.as_ref-2.ensures.value intra in
    let w = all_done v p c.inputs.inside.areas.now c.loop-area.area-index c.push_found-2.new.sources.items c.loop-area.sources.items c.loop-area-test.false c.loop-area.invariant in
    record {
      intra = c.intra_source.result;
      inter = c.inter_source.result;
      ranges = w.0;
      intra_is = c.intra_source.ensures;
      inter_is = c.inter_source.ensures;
      ranges_are = subst (λ xs. AreRangeSources v p xs w.0) areas w.1;
      whole = w.2 ∙ ap (λ (xs : List DueSource). xs ++ w.0) inter;
    }

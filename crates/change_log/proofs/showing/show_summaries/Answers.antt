use Rattle.std.proofs.Common.{◌≡◌, ◌++◌, ◌+◌, List, drop, refl, sym, ap, ◌∙◌}
use Rattle.std.specs.List.{flat_map}
use Rattle.std.proofs.lemmas.List.{drop_all}
use Rattle.event_core.specs.DueSummaries.{listed}
use Rattle.event_core.specs.Lists.{AreaSummariesValue}
use Rattle.replay.proofs.Written.{err_as}
use Rattle.replay.proofs.Paging.{adding_none, adding_lines, adding_as, adding_whole, adding_page, adding_cut, line_next}
use Rattle.change_log.specs.Lines.{lines_of}
use Rattle.change_log.specs.Changes.{area_due}
use Rattle.change_log.proofs.Texts.{all_listed, listed_in, listed_is}
use Rattle.change_log.proofs.showing.show_summaries.Goals as goal

pub loop-area-init : goal.loop-area-init
loop-area-init g c = adding_none _ _ _ _ refl

pub loop-area-preserved : goal.loop-area-preserved
loop-area-preserved g c =
    let number = c.args.at.now.number in
    let wanted = c.args.at.now.wanted in
    let w : AreaSummariesValue = c.area-item.result in
    let items : List AreaSummariesValue = c.areas-area-items.result.now in
    let i = c.loop-area.area-index in
    let printed : lines_of number wanted (area_due (c.area.result, c.as_slice.result.now)) ≡ listed_in number wanted w = λ j. lines_of number wanted (area_due (c.area.ensures j, c.as_slice.ensures.value j)) in
    let next = line_next (listed_in number wanted) items i w c.loop-area-test.true c.area-item.is ∙ ap (λ l. l ++ flat_map (listed_in number wanted) (drop (i + 1) items)) (sym printed) in
    adding_lines _ _ _ _ _ _ _ _ _ _ c.loop-area.invariant next c.in_ok-show_area.ensures.ok

pub returns-in_err-show_area-clause-err : goal.returns-in_err-show_area-clause-err
returns-in_err-show_area-clause-err g c =
    let number = c.args.at.now.number in
    let wanted = c.args.at.now.wanted in
    let w : AreaSummariesValue = c.area-item.result in
    let items : List AreaSummariesValue = c.areas-area-items.result.now in
    let i = c.loop-area.area-index in
    let printed : lines_of number wanted (area_due (c.area.result, c.as_slice.result.now)) ≡ listed_in number wanted w = λ j. lines_of number wanted (area_due (c.area.ensures j, c.as_slice.ensures.value j)) in
    let next = line_next (listed_in number wanted) items i w c.loop-area-test.true c.area-item.is ∙ ap (λ l. l ++ flat_map (listed_in number wanted) (drop (i + 1) items)) (sym printed) in
    let all : all_listed number wanted items ≡ lines_of number wanted (flat_map area_due (listed c.args.summaries.now.areas)) =
    listed_is number wanted items ∙ ap (λ (areas : List AreaSummariesValue). lines_of number wanted (flat_map area_due (listed areas))) c.areas-area-items.ensures in
    λ whole. err_as _ c.from_residual.result c.in_err-show_area.field-0.0 c.from_residual.ensures.1
    (adding_cut _ _ _ _ _ _ _ _ _ _ whole (adding_as _ _ _ _ _ _ _ c.loop-area.invariant all) next (c.in_err-show_area.ensures.err (adding_page _ _ _ _ _ _ c.loop-area.invariant whole)))

pub returns-clause-ok : goal.returns-clause-ok
returns-clause-ok g c =
    let number = c.args.at.now.number in
    let wanted = c.args.at.now.wanted in
    let items : List AreaSummariesValue = c.areas-area-items.result.now in
    let all : all_listed number wanted items ≡ lines_of number wanted (flat_map area_due (listed c.args.summaries.now.areas)) =
    listed_is number wanted items ∙ ap (λ (areas : List AreaSummariesValue). lines_of number wanted (flat_map area_due (listed areas))) c.areas-area-items.ensures in
    adding_whole _ _ _ _ _ _ (adding_as _ _ _ _ _ _ _ c.loop-area.invariant all) (ap (flat_map (listed_in number wanted)) (drop_all c.loop-area.area-index items c.loop-area-test.false))

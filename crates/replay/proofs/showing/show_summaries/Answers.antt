use Rattle.std.proofs.Common.{◌≡◌, ◌++◌, ◌+◌, List, drop, refl, sym, ap, ◌∙◌}
use Rattle.std.specs.List.{flat_map}
use Rattle.std.proofs.lemmas.List.{drop_all}
use Rattle.event_core.specs.DueSummaries.{listed}
use Rattle.event_core.specs.Lists.{AreaSummariesValue}
use Rattle.replay.specs.Lines.{area_lines}
use Rattle.replay.proofs.Written.{err_as}
use Rattle.replay.proofs.Paging.{adding_none, adding_lines, adding_as, adding_whole, adding_page, adding_cut, line_next, lines_in, lines_listed}
use Rattle.replay.proofs.showing.show_summaries.Goals as goal

pub loop-area-init : goal.loop-area-init
loop-area-init g c = adding_none _ _ _ _ refl

pub loop-area-preserved : goal.loop-area-preserved
loop-area-preserved g c =
    let w : AreaSummariesValue = c.area-item.result in
    let items : List AreaSummariesValue = c.areas-area-items.result.now in
    let i = c.loop-area.area-index in
    let printed : area_lines c.args.format (c.area.result, c.as_slice.result.now) ≡ lines_in c.args.format w = λ j. area_lines c.args.format (c.area.ensures j, c.as_slice.ensures.value j) in
    let next = line_next (lines_in c.args.format) items i w c.loop-area-test.true c.area-item.is ∙ ap (λ l. l ++ flat_map (lines_in c.args.format) (drop (i + 1) items)) (sym printed) in
    adding_lines _ _ _ _ _ _ _ _ _ _ c.loop-area.invariant next c.in_ok-show_area.ensures.ok

pub returns-in_err-show_area-clause-err : goal.returns-in_err-show_area-clause-err
returns-in_err-show_area-clause-err g c =
    let w : AreaSummariesValue = c.area-item.result in
    let items : List AreaSummariesValue = c.areas-area-items.result.now in
    let i = c.loop-area.area-index in
    let printed : area_lines c.args.format (c.area.result, c.as_slice.result.now) ≡ lines_in c.args.format w = λ j. area_lines c.args.format (c.area.ensures j, c.as_slice.ensures.value j) in
    let next = line_next (lines_in c.args.format) items i w c.loop-area-test.true c.area-item.is ∙ ap (λ l. l ++ flat_map (lines_in c.args.format) (drop (i + 1) items)) (sym printed) in
    let all : flat_map (lines_in c.args.format) items ≡ flat_map (area_lines c.args.format) (listed c.args.summaries.now.areas) = lines_listed c.args.format items ∙ ap (λ (areas : List AreaSummariesValue). flat_map (area_lines c.args.format) (listed areas)) c.areas-area-items.ensures in
    λ whole. err_as _ c.from_residual.result c.in_err-show_area.field-0.0 c.from_residual.ensures.1
    (adding_cut _ _ _ _ _ _ _ _ _ _ whole (adding_as _ _ _ _ _ _ _ c.loop-area.invariant all) next (c.in_err-show_area.ensures.err (adding_page _ _ _ _ _ _ c.loop-area.invariant whole)))

pub returns-clause-ok : goal.returns-clause-ok
returns-clause-ok g c =
    let items : List AreaSummariesValue = c.areas-area-items.result.now in
    let all : flat_map (lines_in c.args.format) items ≡ flat_map (area_lines c.args.format) (listed c.args.summaries.now.areas) = lines_listed c.args.format items ∙ ap (λ (areas : List AreaSummariesValue). flat_map (area_lines c.args.format) (listed areas)) c.areas-area-items.ensures in
    adding_whole _ _ _ _ _ _ (adding_as _ _ _ _ _ _ _ c.loop-area.invariant all) (ap (flat_map (lines_in c.args.format)) (drop_all c.loop-area.area-index items c.loop-area-test.false))

use Rattle.std.proofs.Common.{◌≡◌, ◌++◌, List, map, sym}
use Rattle.std.specs.List.{flat_map}
use Rattle.std.specs.FinMap.{entries}
use Rattle.event_core.specs.DueSummaries.{lists_of}
use Rattle.replay.proofs.Written.{err_as}
use Rattle.change_log.specs.Lines.{Change}
use Rattle.change_log.specs.Changes.{all_of, area_due, item_set}
use Rattle.change_log.proofs.Shown.{both_shown, first_cut, second_cut}
use Rattle.change_log.proofs.showing.show_all.Goals as goal

pub returns-in_err-show_items-clause-err : goal.returns-in_err-show_items-clause-err
returns-in_err-show_items-clause-err g c =
    let sets : List Change = map item_set (entries c.table.result.now.items) in
    let due : List Change = flat_map area_due c.args.core.now.summaries in
    let is : all_of c.args.core.now ≡ sets ++ due = λ i. map item_set (entries (sym c.table.ensures.value i).items) ++ due in
    λ whole. err_as _ c.from_residual.result c.in_err-show_items.field-0.0 c.from_residual.ensures.1
    (first_cut c.args.at.now.number c.args.at.now.wanted sets due (all_of c.args.core.now) is _ _ _ _ (c.in_err-show_items.ensures.err whole))

pub returns-in_err-show_summaries-clause-err : goal.returns-in_err-show_summaries-clause-err
returns-in_err-show_summaries-clause-err g c =
    let sets : List Change = map item_set (entries c.table.result.now.items) in
    let due : List Change = flat_map area_due (lists_of c.summaries.result.now) in
    let is : all_of c.args.core.now ≡ sets ++ due = λ i. map item_set (entries (sym c.table.ensures.value i).items) ++ flat_map area_due (sym c.summaries.ensures.value i) in
    λ whole. err_as _ c.from_residual-in_err-show_summaries.result c.in_err-show_summaries.field-0.0 c.from_residual-in_err-show_summaries.ensures.1
    (second_cut c.args.at.now.number c.args.at.now.wanted sets due (all_of c.args.core.now) is _ _ _ _ _ _ whole c.in_ok-show_items.ensures.ok c.in_err-show_summaries.ensures.err)

pub returns-clause-ok : goal.returns-clause-ok
returns-clause-ok g c =
    let sets : List Change = map item_set (entries c.table.result.now.items) in
    let due : List Change = flat_map area_due (lists_of c.summaries.result.now) in
    let is : all_of c.args.core.now ≡ sets ++ due = λ i. map item_set (entries (sym c.table.ensures.value i).items) ++ flat_map area_due (sym c.summaries.ensures.value i) in
    both_shown c.args.at.now.number c.args.at.now.wanted sets due (all_of c.args.core.now) is _ _ _ _ _ _ c.in_ok-show_items.ensures.ok c.in_ok-show_summaries.ensures.ok

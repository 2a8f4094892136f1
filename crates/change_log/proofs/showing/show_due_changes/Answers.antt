use Rattle.std.proofs.Common.{◌≤◌, length, ap, sym, subst}
use Rattle.std.specs.List.{flat_map}
use Rattle.std.proofs.lemmas.List.{drop_all}
use Rattle.replay.proofs.Written.{err_as}
use Rattle.replay.proofs.Paging.{adding_none, adding_lines, adding_whole, adding_page, adding_cut}
use Rattle.change_log.specs.Changes.{area_changes}
use Rattle.change_log.proofs.Texts.{area_next, changed_in, listed_lines}
use Rattle.change_log.proofs.showing.show_due_changes.Goals as goal

pub loop-place-init : goal.loop-place-init
loop-place-init g c = adding_none _ _ _ _ (listed_lines c.args.at.now.number c.args.at.now.wanted area_changes c.args.changes.now)

pub loop-place-preserved : goal.loop-place-preserved
loop-place-preserved g c =
    let next = area_next (changed_in c.args.at.now.number c.args.at.now.wanted) c.args.changes.now c.loop-place.place (c.in-Some.area, c.in-Some.metrics.now) (sym c.in-Some.ensures) in
    adding_lines _ _ _ _ _ _ _ _ _ _ c.loop-place.invariant next c.in_ok-show_metrics.ensures.ok

pub returns-in_err-show_metrics-clause-err : goal.returns-in_err-show_metrics-clause-err
returns-in_err-show_metrics-clause-err g c =
    let next = area_next (changed_in c.args.at.now.number c.args.at.now.wanted) c.args.changes.now c.loop-place.place (c.in-Some.area, c.in-Some.metrics.now) (sym c.in-Some.ensures) in
    λ whole. err_as _ c.from_residual.result c.in_err-show_metrics.field-0.0 c.from_residual.ensures.1
    (adding_cut _ _ _ _ _ _ _ _ _ _ whole c.loop-place.invariant next (c.in_err-show_metrics.ensures.err (adding_page _ _ _ _ _ _ c.loop-place.invariant whole)))

pub returns-clause-ok : goal.returns-clause-ok
returns-clause-ok g c =
    let past : length c.args.changes.now ≤ c.loop-place.place = subst (λ n. n ≤ c.loop-place.place) c.areas-place-end.ensures c.loop-place-test.false in
    adding_whole _ _ _ _ _ _ c.loop-place.invariant (ap (flat_map (changed_in c.args.at.now.number c.args.at.now.wanted)) (drop_all c.loop-place.place c.args.changes.now past))

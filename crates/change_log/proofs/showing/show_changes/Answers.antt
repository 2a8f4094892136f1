use Rattle.std.proofs.Common.{◌≡◌, ◌++◌, List, map, sym}
use Rattle.std.specs.List.{flat_map}
use Rattle.replay.proofs.Written.{err_as}
use Rattle.change_log.specs.Lines.{Change}
use Rattle.change_log.specs.Changes.{area_changes, network_change}
use Rattle.change_log.proofs.Shown.{both_shown, first_cut, second_cut}
use Rattle.change_log.proofs.showing.show_changes.Goals as goal

pub returns-in_err-show_networks-clause-err : goal.returns-in_err-show_networks-clause-err
returns-in_err-show_networks-clause-err g c =
    let core = c.args.core.now in
    let named : List Change = map (network_change c.table.result.now.items) c.changes.result.now in
    let due : List Change = flat_map area_changes core.due_changes in
    let all : List Change = map (network_change core.table.items) core.changes ++ due in
    let is : all ≡ named ++ due = λ i. map (network_change (sym c.table.ensures.value i).items) (sym c.changes.ensures i) ++ due in
    λ whole. err_as _ c.from_residual.result c.in_err-show_networks.field-0.0 c.from_residual.ensures.1
    (first_cut c.args.at.now.number c.args.at.now.wanted named due all is _ _ _ _ (c.in_err-show_networks.ensures.err whole))

pub returns-in_err-show_due_changes-clause-err : goal.returns-in_err-show_due_changes-clause-err
returns-in_err-show_due_changes-clause-err g c =
    let core = c.args.core.now in
    let named : List Change = map (network_change c.table.result.now.items) c.changes.result.now in
    let due : List Change = flat_map area_changes c.due_changes.result.now in
    let all : List Change = map (network_change core.table.items) core.changes ++ flat_map area_changes core.due_changes in
    let is : all ≡ named ++ due = λ i. map (network_change (sym c.table.ensures.value i).items) (sym c.changes.ensures i) ++ flat_map area_changes (sym c.due_changes.ensures i) in
    λ whole. err_as _ c.from_residual-in_err-show_due_changes.result c.in_err-show_due_changes.field-0.0 c.from_residual-in_err-show_due_changes.ensures.1
    (second_cut c.args.at.now.number c.args.at.now.wanted named due all is _ _ _ _ _ _ whole c.in_ok-show_networks.ensures.ok c.in_err-show_due_changes.ensures.err)

pub returns-clause-ok : goal.returns-clause-ok
returns-clause-ok g c =
    let core = c.args.core.now in
    let named : List Change = map (network_change c.table.result.now.items) c.changes.result.now in
    let due : List Change = flat_map area_changes c.due_changes.result.now in
    let all : List Change = map (network_change core.table.items) core.changes ++ flat_map area_changes core.due_changes in
    let is : all ≡ named ++ due = λ i. map (network_change (sym c.table.ensures.value i).items) (sym c.changes.ensures i) ++ flat_map area_changes (sym c.due_changes.ensures i) in
    both_shown c.args.at.now.number c.args.at.now.wanted named due all is _ _ _ _ _ _ c.in_ok-show_networks.ensures.ok c.in_ok-show_due_changes.ensures.ok

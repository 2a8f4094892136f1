-- The changes of an event lead from the published table to the new one, if the published list was
-- the whole one.
use Rattle.std.proofs.Common.{◌≡◌, ◌+◌, List, length, subst}
use Rattle.std.specs.Prelude.{◌++◌}
use Rattle.std.specs.FinMap.{FinMap}
use Rattle.ospf_types.specs.Network.{network_cmp}
use Rattle.event_state.specs.declared.event.Event.{Event}
use Rattle.event_state.specs.Rolls.{IsRolled}
use Rattle.event_state.specs.States.{inputs_of}
use Rattle.event_state.specs.Steps.{run_of, standard_limits}
use Rattle.event_core.specs.Cores.{CoreValue, IsCore}
use Rattle.event_core.specs.Following.{AreChanges}
use Rattle.route_table.specs.declared.table.Item.{Item}
use Rattle.route_table.specs.Deltas.{Lead}
use Rattle.publication.specs.Published.{IsShownRight, IsTableFor}
use Rattle.publication.specs.Updates.{those_of}
use Rattle.publication.specs.declared.published_table.PublishedTable.{PublishedTable}
use Rattle.engine.proofs.Runs.{table_whole}
use Rattle.engine.proofs.Tabling.{same_items, changes_lead}

pub follows : (rolled : List Event) (before after : CoreValue) (shown : PublishedTable) → IsCore before → before.limits ≡ standard_limits → IsShownRight shown → IsRolled shown.base standard_limits rolled before.base
    → shown.front.list ≡ rolled ++ before.journal → before.built ≡ length before.journal
    → AreChanges before.table.items after.table.items after.changes
    → Lead shown.table.items after.table.items (those_of after.table.items after.changes)
follows rolled before after shown core limits right is fresh built changes =
    let list = rolled ++ before.journal in
    let whole = table_whole shown.base rolled before is limits core built in
    let mine : IsTableFor shown.base list shown.table = subst (λ (l : List Event). IsTableFor shown.base l shown.table) fresh right in
    let same = same_items (inputs_of (run_of shown.base standard_limits list)) (shown.base.serial + length list) before.table shown.table whole.1 mine.1 in
    subst (λ (m : FinMap network_cmp Item). Lead m after.table.items (those_of after.table.items after.changes)) same (changes_lead before.table.items after.table.items after.changes changes)

use Rattle.std.proofs.Common.{refl, sym, ap, ◌∙◌, ◌++◌, subst, List, fold}
use Rattle.publication.specs.declared.published_table.PublishedTable.{PublishedTable}
use Rattle.publication.specs.declared.published_table.Update.{Update}
use Rattle.publication.specs.Lines.{HistoryLine}
use Rattle.publication.specs.Published.{IsTableFor}
use Rattle.publication.specs.Updates.{updated, shown_state_of, deltas, IsRightState}
use Rattle.publication.proofs.Folds.{gives_changes}
use Rattle.publication.proofs.publishing.publish_table_changes.Goals as goal

pub publish-requires-clause-appended : goal.publish-requires-clause-appended
publish-requires-clause-appended g c =
    let w = c.args.writer in
    let front = c.front-front.ensures ∙ c.look.ensures.same in
    let same = ap (λ d. d.shown.value) c.append_changes.ensures.desk in
    let appended = c.if-not-append_changes.ensures.pending refl ∙ ap (λ us. us ++ deltas c.args.networks.now c.args.table.now c.front-front.result) c.requires.clean in
    subst (λ (z : PublishedTable × List Update). IsRightState c.front-front.result z.0.base (fold updated (shown_state_of z.0) z.1)) (λ i. (sym same i, sym appended i))
    (gives_changes (shown_state_of w.desk.shown.value) c.args.networks.now c.args.table.now c.front-front.result c.requires.changes (subst (λ (l : HistoryLine). IsTableFor w.desk.shown.value.base l.list c.args.table.now) (sym front) c.requires.right))

use Rattle.std.proofs.Common.{◌≡◌, [], Some, List, ap, sym, ◌∙◌}
use Rattle.event_state.specs.declared.base.Base.{Base}
use Rattle.event_state.specs.declared.event.Event.{Event}
use Rattle.publication.specs.Lines.{HistoryLine}
use Rattle.publication.specs.Names.{Name}
use Rattle.publication.specs.declared.published_table.PublishedState.{PublishedState}
use Rattle.publication.specs.declared.published_table.PublishedTable.{PublishedTable}
use Rattle.engine.proofs.Keeping.{match_true, none_named, opened_fresh, opened_kept, opened_right, opened_table}
use Rattle.engine.proofs.engine_state.EngineState.open.Goals as goal

pub new-requires-clause-rule : goal.new-requires-clause-rule
new-requires-clause-rule g c =
    let face = c.in_ok-first.ensures ∙ (λ i. record { table = c.table.ensures.value i; front = c.front.result; base = (c.of-opening.ensures ∙ c.base.ensures.value) i }) in
    let first = ap (λ (l : HistoryLine). l.list) c.front.ensures ∙ c.open-history.ensures in
    (opened_right c.args.core c.front.result c.in_ok-first.first c.table.ensures.kept c.requires.limits c.requires.journal first face, none_named _)

pub publish_table-writer-requires-clause-right : goal.publish_table-writer-requires-clause-right
publish_table-writer-requires-clause-right g c =
    let face = c.in_ok-first.ensures ∙ (λ i. record { table = c.table.ensures.value i; front = c.front.result; base = (c.of-opening.ensures ∙ c.base.ensures.value) i }) in
    opened_table c.args.core c.in_ok-writer.writer.desk.shown.value.base c.open-history.result.list c.table-3.result.now c.table.ensures.kept c.requires.limits c.requires.journal
    (ap (λ (x : PublishedTable). x.base) c.in_ok-writer.ensures.0 ∙ ap (λ (f : PublishedState). f.base) face) c.open-history.ensures c.table-3.ensures.value

pub invariant_of-result : goal.invariant_of-result
invariant_of-result g c =
    let core = c.args.core in
    let face = c.in_ok-first.ensures ∙ (λ i. record { table = c.table.ensures.value i; front = c.front.result; base = (c.of-opening.ensures ∙ c.base.ensures.value) i }) in
    let first = c.in_ok-writer.writer.desk.shown.value in
    let did = c.publish_table-writer.ensures in
    let done = c.if-not-done.false in
    let shown = c.publish_table-writer.result.0.desk.shown.value in
    let published = match_true _ _ c.publish_table-writer.result.1 done did.shown in
    let known = match_true _ _ c.publish_table-writer.result.1 done did.known in
    let empty : c.open-history.result.list ≡ [] = c.open-history.ensures in
    let rolled = ap (λ (l : HistoryLine). l.list) c.front-rolled.ensures ∙ empty in
    let written = ap (λ (l : HistoryLine). l.list) did.history ∙ empty in
    let listed = ap (λ (l : HistoryLine). l.list) published.0 ∙ empty in
    let book = ap (λ (l : HistoryLine). l.book) did.history ∙ sym (ap (λ (l : HistoryLine). l.book) published.0) in
    let base = ap (λ (n : Name). n.base) did.name ∙ ap (λ (x : PublishedTable). x.base) c.in_ok-writer.ensures.0 ∙ ap (λ (f : PublishedState). f.base) face in (
      c.table.ensures.kept,
      opened_kept core c.publish_table-writer.new.history c.front-rolled.result shown _ c.requires.journal c.requires.limits rolled written listed book base (known ∙ ap Some (sym did.name)) published.1,
      opened_fresh core c.publish_table-writer.new.history c.front-rolled.result shown _ c.requires.journal rolled written listed (did.pending done),
    )

use Rattle.engine.proofs.Keeping.{author_kept, shown_kept, shown_fresh, table_shown}
use Rattle.std.proofs.Common.{◌≡◌, true, refl, subst, sym}
use Rattle.route_table.specs.Tables.{TableValue}
use Rattle.publication.specs.Published.{IsTableFor}
use Rattle.engine.proofs.engine_state.EngineParts.publish_changes.Goals as goal

pub invariant_of-result : goal.invariant_of-result
invariant_of-result g c =
    let followed = c.follow_built.ensures in
    (followed.kept, author_kept c.args.self.core c.args.self.history c.follow_built.new.history c.args.self.rolled c.args.self.writer.desk.shown.value _ followed.book followed.written c.requires.kept, c.requires.behind)

pub publish_table_changes-writer-requires-clause-right : goal.publish_table_changes-writer-requires-clause-right
publish_table_changes-writer-requires-clause-right g c =
    let followed = c.follow_built.ensures in
    let whole = c.if-not-follow_built.ensures.whole refl in
    let shown = c.args.self.writer.desk.shown.value in
    let kept = author_kept c.args.self.core c.args.self.history c.follow_built.new.history c.args.self.rolled shown _ followed.book followed.written c.requires.kept in
    let right = table_shown c.args.self.core c.follow_built.new.history c.args.self.rolled shown _ followed.kept kept whole.0 whole.1 in
    subst (λ (t : TableValue). IsTableFor shown.base c.follow_built.new.history.list t) (sym c.table.ensures.value) right

pub invariant_of-result-2 : goal.invariant_of-result-2
invariant_of-result-2 g c =
    let followed = c.follow_built.ensures in
    let whole = c.if-not-follow_built.ensures.whole refl in
    let shown = c.args.self.writer.desk.shown.value in
    let history = c.follow_built.new.history in
    let kept = author_kept c.args.self.core c.args.self.history history c.args.self.rolled shown _ followed.book followed.written c.requires.kept in
    let published = c.publish_table_changes-writer.ensures in (
      followed.kept,
      rw published.history
          (shown_kept c.args.self.core history history c.args.self.rolled shown c.publish_table_changes-writer.result.0.desk.shown.value _ _ c.publish_table_changes-writer.result.1 refl published.name published.shown published.known kept),
      rw published.history
          (shown_fresh c.args.self.core history history c.args.self.rolled shown c.publish_table_changes-writer.result.0.desk.shown.value _ c.publish_table_changes-writer.result.1 refl whole.0 c.requires.behind published.shown (λ (e : c.publish_table_changes-writer.result.1 ≡ true). published.pending e)),
    )

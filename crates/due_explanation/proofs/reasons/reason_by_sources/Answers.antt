-- The metric is the greatest of those of what gives one.
use Rattle.std.proofs.Common.{◌≡◌, List, length, map, sym, ap, subst, ◌∙◌}
use Rattle.std.proofs.lemmas.List.{length-map, with_items_is}
use Rattle.summaries.specs.Giving.{IsMost}
use Rattle.due_explanation.specs.Sources.{GivesAmong, settled}
use Rattle.due_explanation.specs.declared.due.DueSource.{DueSource}
use Rattle.due_explanation.proofs.SourceMetrics.{due_served, sources_due}
use Rattle.due_explanation.proofs.reasons.reason_by_sources.Goals as goal

pub returns : goal.returns
returns c =
    let v = c.args.inputs.now in
    let a = c.args.area.now in
    let d = c.args.dest.now in
    let metric = c.greatest_into-metric.result in
    let alone = c.in_ok-sources.sources.items in
    let are = c.in_ok-sources.ensures in
    let most = subst (λ (xs : List DueSource). IsMost (GivesAmong a.id xs) metric) c.deref.ensures.value c.greatest_into-metric.ensures in
    let all : c.settle_all.new.sources ≡ map (settled a.id metric) alone = c.settle_all.ensures ∙ ap (map (settled a.id metric)) c.deref_mut.ensures.value in
    let many : length c.settle_all.new.sources ≡ length alone = ap length all ∙ length-map alone (settled a.id metric) in
    record {
      metric = due_served v a d metric c.requires.served (sources_due v a d alone metric c.requires.may_send are most);
      why = (c.requires.served, c.requires.may_send, (alone, are, with_items_is c.in_ok-sources.sources c.settle_all.new.sources (many ∙ sym c.in_ok-sources.sources.ok.0) ∙ all));
    }

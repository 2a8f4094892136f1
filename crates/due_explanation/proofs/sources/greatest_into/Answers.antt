-- One source more.
use Rattle.std.proofs.Common.{List, refl, subst, inl, inr}
use Rattle.std.proofs.lemmas.List.{take_all}
use Rattle.ospf_types.proofs.Elements.{no_element, contains_more}
use Rattle.summaries.specs.Giving.{IsMost}
use Rattle.summaries.proofs.GivenParts.{most_as, most_more}
use Rattle.due_explanation.specs.Sources.{GivesAmong, GivesInto}
use Rattle.due_explanation.specs.declared.due.DueSource.{DueSource}
use Rattle.due_explanation.proofs.sources.greatest_into.Goals as goal

pub loop-source-init : goal.loop-source-init
loop-source-init c = record {
  found = λ n e. absurd cc;
  reached = λ n w. absurd (no_element w.0 w.1);
}

pub loop-source-preserved : goal.loop-source-preserved
loop-source-preserved c =
    let xs = c.args.sources.now in
    let i = c.loop-source.source-index in
    let x = c.source-item.result in
    let more = λ (s : DueSource). contains_more xs i x s c.loop-source-test.true c.source-item.is in
    most_as c.greater-most.result (λ n. (
      λ w. elim w [ inl had ↦ (had.0, (more had.0).1 (inl had.1), had.2) | inr gives ↦ (x, (more x).1 (inr refl), gives) ],
      λ w. elim ((more w.0).0 w.1) [ inl had ↦ inl (w.0, had, w.2) | inr same ↦ inr (subst (λ (s : DueSource). GivesInto c.args.area s n) same w.2) ],
    )) (most_more c.loop-source.most c.greater-most.result c.loop-source.invariant c.metric_into.ensures c.greater-most.ensures)

pub returns : goal.returns
returns c = subst (λ (xs : List DueSource). IsMost (GivesAmong c.args.area xs) c.loop-source.most) (take_all c.loop-source.source-index c.args.sources.now c.loop-source-test.false) c.loop-source.invariant

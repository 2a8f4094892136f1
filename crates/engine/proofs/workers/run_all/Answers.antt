use Rattle.std.proofs.Common.{List, refl, subst}
use Rattle.engine.specs.Answers.{AreAnswered}
use Rattle.publication.specs.Names.{Name}
use Rattle.event_state.specs.declared.event.Event.{Event}
use Rattle.engine.proofs.Zips.{zip_through}
use Rattle.engine.proofs.workers.run_all.Goals as goal

pub returns-then-started-clause-answers : goal.returns-then-started-clause-answers
returns-then-started-clause-answers g c =
    zip_through _ _ _ c.args.jobs.items c.start_all-started.new.children.items c.join_all-all.result.items (c.if-started.ensures.children refl) c.join_all-all.ensures
    (λ job child d one two. subst (λ (z : Name × List Event). AreAnswered z.0 z.1 d.items) (λ i. (one.0 i, one.1 i)) two)

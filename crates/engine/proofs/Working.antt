-- The answers of jobs belong to the lists that the jobs were made of.
use Rattle.std.proofs.Common.{◌≡◌, List, Vec, Global, Result, Ok, Err, IfOk, subst}
use Rattle.std.specs.List.{AllZip}
use Rattle.engine.specs.Answers.{AreAnswered}
use Rattle.publication.specs.Names.{Name}
use Rattle.event_state.specs.declared.event.Event.{Event}
use Rattle.engine.specs.declared.answer.Answer.{Answer}
use Rattle.engine.specs.declared.answer.Refused.{Refused}
use Rattle.engine.specs.declared.workers.WorkerJob.{WorkerJob}
use Rattle.engine.proofs.Zips.{zip_through}

pub of_lists : {E : Type 0} (name : Name) (r : Result (Vec (Vec (Result Answer Refused) Global) Global) E) (lists : List (Vec Event Global)) (jobs : List WorkerJob)
    → AllZip (λ events job. job.events ≡ events) lists jobs
    → IfOk r (λ all. AllZip (λ job answers. AreAnswered name job.events.items answers.items) jobs all.items)
    → IfOk r (λ all. AllZip (λ events answers. AreAnswered name events.items answers.items) lists all.items)
of_lists name (Ok all) lists jobs made answered =
    zip_through _ _ _ lists jobs all.items made answered (λ events job answers one two. subst (λ (v : Vec Event Global). AreAnswered name v.items answers.items) one two)
of_lists name (Err e) lists jobs made answered = tt

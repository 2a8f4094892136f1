use Rattle.std.proofs.Common.{sym, map, subst, inr, refl}
use Rattle.cli_args.specs.Command.{HasJob, HasTexts, IsJob, job_texts}
use Rattle.cli_args.proofs.Jobs.{job_is_fit, mistake_is, only_memory, unique}
use Rattle.cli_args.proofs.Lines.{reads}
use Rattle.cli_args.proofs.Names.{met_as_given, fails_as_given}
use Rattle.cli_args.proofs.command_line.job.Goals as goal

pub returns-in-Some-clause-job : goal.returns-in-Some-clause-job
returns-in-Some-clause-job c =
    let given = met_as_given _ c.in-Ok.matches _ c.in_ok-command.ensures c.in-Ok.ensures.matches in
    subst (λ s. IsJob s c.in-Some.job) given c.in-Some.ensures.some

pub returns-in-Some-clause-fit : goal.returns-in-Some-clause-fit
returns-in-Some-clause-fit c = job_is_fit _ c.in-Some.job c.in-Some.ensures.some

pub returns-in-Some-clause-gives : goal.returns-in-Some-clause-gives
returns-in-Some-clause-gives c t spells =
    let given = met_as_given _ c.in-Ok.matches _ c.in_ok-command.ensures c.in-Ok.ensures.matches in
    unique _ (job_texts c.in-Some.job) t c.in-Some.ensures.some (subst (λ s. HasTexts s t) (sym given) (reads _ t spells).has)

pub returns-in-Ok-clause-mistake : goal.returns-in-Ok-clause-mistake
returns-in-Ok-clause-mistake c =
    let given = met_as_given _ c.in-Ok.matches _ c.in_ok-command.ensures c.in-Ok.ensures.matches in
    inr (c.in_ok-missing_word-in-None.ensures, λ h. c.in-None.ensures.none refl (subst HasJob (sym given) h))

pub returns-in-Ok-clause-gives : goal.returns-in-Ok-clause-gives
returns-in-Ok-clause-gives c t spells =
    let given = met_as_given _ c.in-Ok.matches _ c.in_ok-command.ensures c.in-Ok.ensures.matches in
    absurd (c.in-None.ensures.none refl (t, subst (λ s. HasTexts s t) (sym given) (reads _ t spells).has))

pub returns-clause-mistake : goal.returns-clause-mistake
returns-clause-mistake c =
    let fails = fails_as_given _ _ c.in-Err.error c.in_ok-command.ensures c.in-Err.ensures.kinds in
    mistake_is (map (λ w. w.now) c.args.words.now) c.in-Err.error _ fails c.usage_of.ensures

pub returns-clause-gives : goal.returns-clause-gives
returns-clause-gives c t spells =
    let fails = fails_as_given _ _ c.in-Err.error c.in_ok-command.ensures c.in-Err.ensures.kinds in
    only_memory (map (λ w. w.now) c.args.words.now) c.in-Err.error _ fails c.usage_of.ensures (reads _ t spells).faultless

-- The output of the program, whatever its words were.
use Rattle.std.specs.Borrow.{Bor}
use Rattle.std.specs.Prelude.{ℕ, ◌≡◌, ◌||◌, Bool, true, false, not, List, Option, None, Result, Ok, Err, codes}
use Rattle.cli_args.specs.declared.command.CaptureWords.{CaptureWords}
use Rattle.cli_args.specs.declared.command.Job.{Job}
use Rattle.cli_args.specs.declared.command.Job.TheVariants as job
use Rattle.cli_args.specs.declared.command.Usage.{Usage}
use Rattle.abr_cli.specs.declared.dispatch.AnyCommand.{AnyCommand}
use Rattle.abr_cli.specs.declared.dispatch.AnyCommand.TheVariants as asked
use Rattle.cli_args.specs.Command.{AreWorkers, texts_of}
use Rattle.cli_queries.specs.Answers.{PrintsAnswer}
use Rattle.cli_queries.specs.One.{IsOneAnswer}
use Rattle.cli_queries.specs.Decode.{IsDecodeAnswer}
use Rattle.cli_queries.specs.Number.{IsNumberAnswer}
use Rattle.output_lines.specs.declared.format.Format.{Format}
use Rattle.replay.specs.declared.progress.Progress.{Progress}
use Rattle.output_lines.specs.declared.format.Show.{Show}
use Rattle.abr_cli.specs.declared.changing.ChangesCommand.{ChangesCommand}
use Rattle.abr_cli.specs.declared.replaying.ReplayCommand.{ReplayCommand}
use Rattle.abr_cli.specs.Changing.{IsChangesTold}
use Rattle.abr_cli.specs.declared.explaining.ExplainCommand.{ExplainCommand}
use Rattle.abr_cli.specs.Explaining.{IsExplainTold}
use Rattle.abr_cli.specs.declared.paging.PageCommand.{PageCommand}
use Rattle.abr_cli.specs.Paging.{IsPageTold}
use Rattle.abr_cli.specs.declared.capturing.CaptureCommand.{CaptureCommand}
use Rattle.abr_cli.specs.Capturing.{IsCaptureTold}
use Rattle.abr_cli.specs.Replaying.{IsReplayTold}
use Rattle.cli_queries.specs.Usage.{IsUsageAnswer}

-- the progress that is shown, if the words ask for it
abbrev pub shown_progress : Bool → Progress → Progress
shown_progress asked own = record own { is_shown = asked || own.is_shown }

-- the job of `abr replay`
abbrev pub replay_asked : Bor (List ℕ) → (workers : ℕ) → Show → Format → (progress : Bool) → ReplayCommand
replay_asked file workers show format progress = record {
  file = file;
  options = record {
    workers = workers;
    printing = record { show = show; format = format; progress = progress };
  };
}

-- the job of `abr changes`: the changes up to the first fault
abbrev pub changes_asked : Bor (List ℕ) → Option (Bor (List ℕ)) → Format → Progress → ChangesCommand
changes_asked file only format progress = record { file = file; only = only; format = format; answers = false; skips_faults = false; progress = progress }

-- the report that `abr follow` asks for: the outcome of each line, also after a fault unless it is
-- strict
abbrev pub follow_asked : Bor (List ℕ) → Option (Bor (List ℕ)) → (strict : Bool) → Format → ChangesCommand
follow_asked file only strict format = record {
  file = file;
  only = only;
  format = format;
  answers = true;
  skips_faults = not strict;
  progress = record { is_shown = false; all = None };
}

-- the job of `abr explain`
abbrev pub explain_asked : (file address : Bor (List ℕ)) → Option (Bor (List ℕ)) → Format → Progress → ExplainCommand
explain_asked file address due format progress = record { file = file; address = address; due = due; format = format; progress = progress.is_shown }

-- the job of `abr page`
abbrev pub page_asked : Bor (List ℕ) → Option (Bor (List ℕ)) → Progress → PageCommand
page_asked file output progress = record { file = file; output = output; progress = progress.is_shown }

-- the job of `abr capture`, if the file with the beginning has these bytes
abbrev pub capture_asked : CaptureWords → (beginning : Option (Bor (List ℕ))) → CaptureCommand
capture_asked w beginning = record {
  file = w.file;
  router = w.router;
  begin = w.begin;
  beginning = beginning;
  options = record { keeps_all = w.keeps_all; without_seconds = w.without_seconds };
}

-- the command, with all that it was given, is the one that the job asks for
abbrev pub IsAsked : Progress → (beginning : Option (Bor (List ℕ))) → Job → AnyCommand → Type 0
IsAsked own beginning (job.One words) a = a ≡ asked.One words
IsAsked own beginning (job.Decode word long) a = a ≡ asked.Decode word long
IsAsked own beginning (job.Replay file workers show format progress) a = a ≡ asked.Replay (replay_asked file workers show format (shown_progress progress own).is_shown)
IsAsked own beginning (job.Changes file only format progress) a = a ≡ asked.Changes (changes_asked file only format (shown_progress progress own))
IsAsked own beginning (job.Follow only strict format) a = (file : Bor (List ℕ)) × (file.now ≡ codes "-") × (a ≡ asked.Changes (follow_asked file only strict format))
IsAsked own beginning (job.Explain file address due format progress) a = a ≡ asked.Explain (explain_asked file address due format (shown_progress progress own))
IsAsked own beginning (job.Page file output progress) a = a ≡ asked.Page (page_asked file output (shown_progress progress own))
IsAsked own beginning (job.Capture words) a = a ≡ asked.Capture (capture_asked words beginning)
IsAsked own beginning (job.Fault number) a = a ≡ asked.Fault number

-- a replay has as many workers as there may be
abbrev pub HasFitWorkers : AnyCommand → Type 0
HasFitWorkers (asked.One words) = Unit {0}
HasFitWorkers (asked.Decode word long) = Unit {0}
HasFitWorkers (asked.Replay r) = AreWorkers r.options.workers
HasFitWorkers (asked.Changes c) = Unit {0}
HasFitWorkers (asked.Explain e) = Unit {0}
HasFitWorkers (asked.Page p) = Unit {0}
HasFitWorkers (asked.Capture c) = Unit {0}
HasFitWorkers (asked.Fault number) = Unit {0}

-- The command was carried out. The input is read only if a recording is run, or a capture recorded.
abbrev pub IsCommandDone : AnyCommand → (status : ℕ) (i i' o o' f f' : Option (List ℕ)) → Type 0
IsCommandDone (asked.One words) status i i' o o' f f' = (i' ≡ i) × PrintsAnswer (IsOneAnswer (texts_of words)) status o o' f f'
IsCommandDone (asked.Decode hex long) status i i' o o' f f' = (i' ≡ i) × PrintsAnswer (IsDecodeAnswer long hex.now) status o o' f f'
IsCommandDone (asked.Replay r) status i i' o o' f f' = IsReplayTold r.file r.options.workers r.options.printing status i i' o o' f f'
IsCommandDone (asked.Changes c) status i i' o o' f f' = IsChangesTold c status i i' o o' f f'
IsCommandDone (asked.Explain e) status i i' o o' f f' = IsExplainTold e status i i' o o' f f'
IsCommandDone (asked.Page p) status i i' o o' f f' = IsPageTold p status i i' o o' f f'
IsCommandDone (asked.Capture c) status i i' o o' f f' = IsCaptureTold c status i i' o o' f f'
IsCommandDone (asked.Fault number) status i i' o o' f f' = (i' ≡ i) × PrintsAnswer (IsNumberAnswer number.now) status o o' f f'

-- the command was carried out that the job asks for
pub record IsDone (own : Progress) (beginning : Option (Bor (List ℕ))) (j : Job) (status : ℕ) (i i' o o' f f' : Option (List ℕ)) : Type 0 where
  pub command : AnyCommand
  pub is_asked : IsAsked own beginning j command
  pub is_told : IsCommandDone command status i i' o o' f f'

-- the job was done, or it was said why there is none
abbrev pub IsJobTold : Progress → (beginning : Option (Bor (List ℕ))) → Result Job Usage → (status : ℕ) (i i' o o' f f' : Option (List ℕ)) → Type 0
IsJobTold own beginning (Ok job) status i i' o o' f f' = IsDone own beginning job status i i' o o' f f'
IsJobTold own beginning (Err usage) status i i' o o' f f' = (i' ≡ i) × PrintsAnswer (IsUsageAnswer usage) status o o' f f'

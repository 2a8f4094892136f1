-- The output of `abr page`.
use Rattle.std.specs.Prelude.{ℕ, ◌≡◌, ◌⊎◌, List, Option, Some, None}
use Rattle.std.specs.Borrow.{Bor}
use Rattle.recording.specs.Faults.{IsFaultOf}
use Rattle.replay.specs.Advance.{ShowsProgress}
use Rattle.replay.specs.Inputs.{ReadsAll}
use Rattle.replay.specs.declared.fault.ReplayFault.{ReplayFault}
use Rattle.replay.specs.declared.fault.ReplayFault.TheVariants.{Read, Write, Closed, Memory, Line}
use Rattle.page_replay.specs.Outputs.{WritesPage, WritesPagePart}
use Rattle.worker_replay.specs.declared.fault.WorkerReplayFault.TheVariants.{Replay}
use Rattle.cli_queries.specs.declared.command_fault.CommandFault.TheVariants as fault
use Rattle.cli_queries.specs.Answers.{IsSaidOf}
use Rattle.abr_cli.specs.Replaying.{IsEndSaid}
use Rattle.abr_cli.specs.Showing.{IsProgressTold}
use Rattle.abr_cli.specs.declared.paging.PageCommand.{PageCommand}

-- the input and the output after a page that is not whole for this fault
abbrev pub WritesPageEarly : ReplayFault → (i i' o o' : Option (List ℕ)) → Type 0
WritesPageEarly Read i i' o o' = o' ≡ o
WritesPageEarly Write i i' o o' = WritesPagePart i i' o o'
WritesPageEarly Closed i i' o o' = WritesPagePart i i' o o'
WritesPageEarly Memory i i' o o' = o' ≡ o
WritesPageEarly (Line f) i i' o o' = (o' ≡ o) × ((bytes : List ℕ) × ReadsAll i i' bytes × IsFaultOf bytes f)

-- the file that could not be written, if this is the fault and the page has one
abbrev pub unwritten : Option (Bor (List ℕ)) → ReplayFault → Option (Bor (List ℕ))
unwritten output Read = None
unwritten output Write = output
unwritten output Closed = None
unwritten output Memory = None
unwritten output (Line f) = None

-- a line says that this file could not be written, or that memory ran out; if there is no such
-- file, the line of the end of a run for this fault was printed
abbrev pub IsEndSaidOf : Option (Bor (List ℕ)) → Bor (List ℕ) → ReplayFault → (status : ℕ) (f f' : Option (List ℕ)) → Type 0
IsEndSaidOf (Some output) file x status f f' = IsSaidOf (fault.WriteTo output) status f f' ⊎ IsSaidOf fault.Memory status f f'
IsEndSaidOf None file x status f f' = IsEndSaid file (Replay x) status f f'

-- a line says why there is no whole page
abbrev pub IsPageEndSaid : Bor (List ℕ) → Option (Bor (List ℕ)) → ReplayFault → (status : ℕ) (f f' : Option (List ℕ)) → Type 0
IsPageEndSaid file output x status f f' = IsEndSaidOf (unwritten output x) file x status f f'

-- the page was written, and nothing was said; or there is no whole page, and it was said why
abbrev pub IsPageEnded : PageCommand → (status : ℕ) (i i' o o' f f' : Option (List ℕ)) → Type 0
IsPageEnded c status i i' o o' f f' = ((status ≡ 0) × WritesPage i i' o o' × (f' ≡ f))
    ⊎ ((x : ReplayFault) × WritesPageEarly x i i' o o' × IsPageEndSaid c.file c.output x status f f')

-- it was shown how much is done, where that is to be shown, and then said how it ended
abbrev pub IsPageTold : PageCommand → (status : ℕ) (i i' o o' f f' : Option (List ℕ)) → Type 0
IsPageTold c status i i' o o' f f' = (mid : Option (List ℕ))
    × IsProgressTold (record { is_shown = c.progress; all = None }) (ShowsProgress c.progress) f mid × IsPageEnded c status i i' o o' mid f'

-- The output of `abr replay`.
use Rattle.std.specs.Prelude.{ℕ, ◌≡◌, ◌⊎◌, ◌<◌, List, Option, Result, Ok, Err, MatchResult}
use Rattle.std.specs.Borrow.{Bor}
use Rattle.replay.specs.Inputs.{ReadsAll}
use Rattle.replay.specs.declared.buffer.PrintError.{PrintError}
use Rattle.replay.specs.declared.buffer.PrintError.TheVariants as stop
use Rattle.replay.specs.declared.writing.WriteError.{WriteError}
use Rattle.replay.specs.declared.writing.WriteError.TheVariants as cannot_write
use Rattle.recording.specs.Faults.{IsFaultOf}
use Rattle.replay.specs.declared.fault.ReplayFault.TheVariants.{Read, Write, Closed, Memory, Line}
use Rattle.replay.specs.declared.printing.PrintOptions.{PrintOptions}
use Rattle.replay.specs.Outputs as one
use Rattle.worker_replay.specs.declared.fault.WorkerReplayFault.{WorkerReplayFault}
use Rattle.worker_replay.specs.declared.fault.WorkerReplayFault.TheVariants.{Replay, Spawn, Place, NoEntry}
use Rattle.worker_replay.specs.Outputs as many
use Rattle.cli_queries.specs.declared.command_fault.CommandFault.{CommandFault}
use Rattle.cli_queries.specs.declared.command_fault.CommandFault.TheVariants as fault
use Rattle.cli_queries.specs.Answers.{IsSaidOf, IsUnwrittenSaid}
use Rattle.abr_cli.specs.Showing.{IsRunTold}

-- the fault of a replay as one of the command, which names the file if it cannot be read; or the
-- reason why the output was not written whole
abbrev pub fault_from : Bor (List ℕ) → WorkerReplayFault → Result CommandFault WriteError
fault_from file (Replay Read) = Ok (fault.Read file)
fault_from file (Replay Write) = Err cannot_write.Failed
fault_from file (Replay Closed) = Err cannot_write.Closed
fault_from file (Replay Memory) = Ok fault.Memory
fault_from file (Replay (Line f)) = Ok (fault.Line f)
fault_from file Spawn = Ok fault.Spawn
fault_from file Place = Ok fault.Place
fault_from file NoEntry = Ok fault.NoEntry

-- a replay by this number of workers went to its end
abbrev pub IsReplayed : ℕ → PrintOptions → (i i' o o' : Option (List ℕ)) → Type 0
IsReplayed workers p i i' o o' = ((workers ≡ 1) × one.Replays p i i' o o') ⊎ ((1 < workers) × many.Replays p i i' o o')

-- the beginning of its output was written that such a stop leaves
abbrev pub IsReplayedPart : ℕ → PrintError → PrintOptions → (i i' o o' : Option (List ℕ)) → Type 0
IsReplayedPart workers why p i i' o o' = ((workers ≡ 1) × one.ReplaysPart why p i i' o o') ⊎ ((1 < workers) × many.ReplaysPart why p i i' o o')

-- The input and the output after a replay that ended early for this fault. Only one of several
-- workers may not start, or get no entry.
abbrev pub EndsEarly : ℕ → WorkerReplayFault → PrintOptions → (i i' o o' : Option (List ℕ)) → Type 0
EndsEarly workers (Replay Read) p i i' o o' = o' ≡ o
EndsEarly workers (Replay Write) p i i' o o' = IsReplayedPart workers stop.Write p i i' o o'
EndsEarly workers (Replay Closed) p i i' o o' = IsReplayedPart workers stop.Closed p i i' o o'
EndsEarly workers (Replay Memory) p i i' o o' = (o' ≡ o) ⊎ IsReplayedPart workers stop.Memory p i i' o o'
EndsEarly workers (Replay (Line f)) p i i' o o' = (o' ≡ o) × ((bytes : List ℕ) × ReadsAll i i' bytes × IsFaultOf bytes f)
EndsEarly workers Spawn p i i' o o' = (1 < workers) × (o' ≡ o)
EndsEarly workers Place p i i' o o' = (1 < workers) × (o' ≡ o)
EndsEarly workers NoEntry p i i' o o' = (1 < workers) × (o' ≡ o)

-- a replay by this number of workers
abbrev pub EndsBy : ℕ → PrintOptions → Result (Unit {0}) WorkerReplayFault → (i i' o o' : Option (List ℕ)) → Type 0
EndsBy workers p result i i' o o' = MatchResult result (λ _. IsReplayed workers p i i' o o') (λ e. EndsEarly workers e p i i' o o')

-- A replay ended early, and the status is 1. The line of its fault was printed, or a line that the
-- output is not written whole. If its pipe was closed, nothing is printed.
abbrev pub IsFaultSaid : Bor (List ℕ) → WorkerReplayFault → (status : ℕ) (f f' : Option (List ℕ)) → Type 0
IsFaultSaid file e status f f' = MatchResult (fault_from file e) (λ c. IsSaidOf c status f f') (λ why. IsUnwrittenSaid why status f f')

-- The line was printed, or the one for a lack of memory if there was none for the line of the
-- fault. The line about the output needs none.
abbrev pub IsEndSaid : Bor (List ℕ) → WorkerReplayFault → (status : ℕ) (f f' : Option (List ℕ)) → Type 0
IsEndSaid file e status f f' = MatchResult (fault_from file e) (λ c. IsSaidOf c status f f' ⊎ IsSaidOf fault.Memory status f f') (λ why. IsUnwrittenSaid why status f f')

-- the replay by this number of workers went to its end, and nothing was printed about it; or it
-- ended early, and its fault was printed
abbrev pub IsReplayEnded : Bor (List ℕ) → ℕ → PrintOptions → (status : ℕ) (i i' o o' f f' : Option (List ℕ)) → Type 0
IsReplayEnded file workers p status i i' o o' f f' = ((status ≡ 0) × IsReplayed workers p i i' o o' × (f' ≡ f))
    ⊎ ((e : WorkerReplayFault) × EndsEarly workers e p i i' o o' × IsFaultSaid file e status f f')

-- it was shown how much is done, where that is to be shown, and then said how the replay ended
abbrev pub IsReplayTold : Bor (List ℕ) → ℕ → PrintOptions → (status : ℕ) (i i' o o' f f' : Option (List ℕ)) → Type 0
IsReplayTold file workers p status i i' o o' f f' = (mid : Option (List ℕ)) × IsRunTold workers p.progress f mid × IsReplayEnded file workers p status i i' o o' mid f'

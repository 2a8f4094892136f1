-- The output of `abr changes` and `abr follow`.
use Rattle.std.specs.Prelude.{ℕ, ◌≡◌, ◌⊎◌, List, Option, Some, None}
use Rattle.std.specs.Borrow.{Bor}
use Rattle.ospf_types.specs.declared.prefix.Prefix.{Prefix}
use Rattle.cli_queries.specs.Writing.{WritesNetwork}
use Rattle.replay.specs.declared.fault.ReplayFault.{ReplayFault}
use Rattle.replay.specs.declared.fault.ReplayFault.TheVariants.{Read, Write, Closed, Memory, Line}
use Rattle.replay.specs.declared.buffer.PrintError.TheVariants as stop
use Rattle.change_log.specs.Outputs.{FailsAtFront, FailsBehind, TellsAll, TellsPart, TellsThese}
use Rattle.change_log.specs.declared.printing.ChangeOptions.{ChangeOptions}
use Rattle.worker_replay.specs.declared.fault.WorkerReplayFault.TheVariants.{Replay}
use Rattle.cli_queries.specs.declared.command_fault.CommandFault.TheVariants as fault
use Rattle.cli_queries.specs.declared.argument_values.WordFault.TheVariants.{NotANetwork}
use Rattle.cli_queries.specs.Answers.{IsSaid}
use Rattle.cli_queries.specs.Faults.{command_fault_text, fault_line}
use Rattle.abr_cli.specs.Replaying.{IsEndSaid}
use Rattle.abr_cli.specs.Showing.{IsAdvanceTold}
use Rattle.abr_cli.specs.declared.changing.ChangesCommand.{ChangesCommand}

-- the word asks for this network; without a word all are asked for
abbrev pub AsksForChanges : Option (Bor (List ℕ)) → Option Prefix → Type 0
AsksForChanges None None = Unit {0}
AsksForChanges None (Some p) = ⊥
AsksForChanges (Some word) None = ⊥
AsksForChanges (Some word) (Some p) = WritesNetwork word.now p

-- the word is not a network
abbrev pub LacksNetwork : Option (Bor (List ℕ)) → Type 0
LacksNetwork None = ⊥
LacksNetwork (Some word) = (p : Prefix) → ¬ WritesNetwork word.now p

-- the input and the output after a report that ended early for this fault
abbrev pub TellsEarly : ChangeOptions → ReplayFault → (i i' o o' : Option (List ℕ)) → Type 0
TellsEarly t Read i i' o o' = (o' ≡ o) ⊎ ((bytes : List ℕ) × TellsThese t i i' bytes o o')
TellsEarly t Write i i' o o' = TellsPart stop.Write t i i' o o'
TellsEarly t Closed i i' o o' = TellsPart stop.Closed t i i' o o'
TellsEarly t Memory i i' o o' = (o' ≡ o) ⊎ TellsPart stop.Memory t i i' o o'
TellsEarly t (Line f) i i' o o' = ((o' ≡ o) × FailsAtFront i i' f) ⊎ FailsBehind t i i' f o o'

-- nothing was read, and a line says that the word is not a network, or that there is no memory for
-- that line
abbrev pub IsNetworkFaultSaid : (status : ℕ) (i i' o o' f f' : Option (List ℕ)) → Type 0
IsNetworkFaultSaid status i i' o o' f f' =
    (i' ≡ i) × (o' ≡ o) × (IsSaid (fault_line (command_fault_text (fault.Word NotANetwork))) 2 status f f' ⊎ IsSaid (fault_line (command_fault_text fault.Memory)) 1 status f f')

-- the report of the command, for this network if one is given
abbrev pub telling_of : ChangesCommand → Option Prefix → ChangeOptions
telling_of c only = record {
  wanted = record { only = only; format = c.format };
  answers = c.answers;
  skips_faults = c.skips_faults;
  progress = c.progress;
}

-- the report went to its end, and nothing was printed about it; or it ended early, and its fault
-- was printed, or a lack of memory
abbrev pub IsTellingEnded : Bor (List ℕ) → ChangeOptions → (status : ℕ) (i i' o o' f f' : Option (List ℕ)) → Type 0
IsTellingEnded file t status i i' o o' f f' = ((status ≡ 0) × TellsAll t i i' o o' × (f' ≡ f))
    ⊎ ((e : ReplayFault) × TellsEarly t e i i' o o' × IsEndSaid file (Replay e) status f f')

-- it was shown how much is done, where that is to be shown, and then said how the telling ended
abbrev pub IsTellingTold : Bor (List ℕ) → ChangeOptions → (status : ℕ) (i i' o o' f f' : Option (List ℕ)) → Type 0
IsTellingTold file t status i i' o o' f f' = (mid : Option (List ℕ)) × IsAdvanceTold t.progress f mid × IsTellingEnded file t status i i' o o' mid f'

-- the word of the one network, if there is one, was not a network; or the report was written
abbrev pub IsChangesTold : ChangesCommand → (status : ℕ) (i i' o o' f f' : Option (List ℕ)) → Type 0
IsChangesTold c status i i' o o' f f' = (LacksNetwork c.only × IsNetworkFaultSaid status i i' o o' f f')
    ⊎ ((only : Option Prefix) × AsksForChanges c.only only × IsTellingTold c.file (telling_of c only) status i i' o o' f f')

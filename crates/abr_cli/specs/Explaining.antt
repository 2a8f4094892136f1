-- The output of `abr explain`.
use Rattle.std.specs.Prelude.{ℕ, ◌≡◌, ◌⊎◌, List, Option, Some, None}
use Rattle.std.specs.Borrow.{Bor}
use Rattle.ospf_types.specs.declared.key.Dest.{Dest}
use Rattle.ospf_types.specs.declared.key.Dest.TheVariants.{Net, Router}
use Rattle.cli_queries.specs.Writing.{WritesNetwork}
use Rattle.recording.specs.Faults.{IsFaultOf}
use Rattle.replay.specs.Advance.{ShowsProgress}
use Rattle.replay.specs.Inputs.{ReadsAll}
use Rattle.replay.specs.declared.fault.ReplayFault.{ReplayFault}
use Rattle.replay.specs.declared.fault.ReplayFault.TheVariants.{Read, Write, Closed, Memory, Line}
use Rattle.explained_replay.specs.Outputs.{Explains, ExplainsPart}
use Rattle.explained_replay.specs.declared.question.Explaining.{Explaining}
use Rattle.explained_replay.specs.declared.question.Question.{Question}
use Rattle.explained_replay.specs.declared.question.Question.TheVariants.{Address, Due}
use Rattle.worker_replay.specs.declared.fault.WorkerReplayFault.TheVariants.{Replay}
use Rattle.cli_queries.specs.declared.command_fault.CommandFault.TheVariants as fault
use Rattle.cli_queries.specs.declared.argument_values.WordFault.{WordFault}
use Rattle.cli_queries.specs.declared.argument_values.WordFault.TheVariants.{NotAnAddress, NotANetwork}
use Rattle.cli_queries.specs.Answers.{IsSaid}
use Rattle.cli_queries.specs.Faults.{command_fault_text, fault_line}
use Rattle.cli_queries.specs.Words.{IsAddress, IsNoNetwork, WritesAddress}
use Rattle.abr_cli.specs.Replaying.{IsEndSaid}
use Rattle.abr_cli.specs.Showing.{IsProgressTold}
use Rattle.abr_cli.specs.declared.explaining.ExplainCommand.{ExplainCommand}

-- the word writes a network, or the Router ID of an AS boundary router
abbrev pub WritesDest : List ℕ → Dest → Type 0
WritesDest word (Net p) = WritesNetwork word p
WritesDest word (Router router) = WritesAddress word router

-- the words ask this: of an address, or, where an area is named, of what is due there
abbrev pub AsksToExplain : List ℕ → Option (Bor (List ℕ)) → Question → Type 0
AsksToExplain word None (Address address) = WritesAddress word address
AsksToExplain word None (Due id d) = ⊥
AsksToExplain word (Some area) (Address address) = ⊥
AsksToExplain word (Some area) (Due id d) = WritesAddress area.now id × WritesDest word d

-- a word cannot be read for this reason, the area's first
abbrev pub IsWordFault : List ℕ → Option (Bor (List ℕ)) → WordFault → Type 0
IsWordFault word None f = (f ≡ NotAnAddress) × (¬ IsAddress word)
IsWordFault word (Some area) f =
    ((f ≡ NotAnAddress) × (¬ IsAddress area.now)) ⊎ ((f ≡ NotANetwork) × IsAddress area.now × (¬ IsAddress word) × IsNoNetwork word)

-- nothing was read, and a line says that a word cannot be read, or that there is no memory for that
-- line
abbrev pub IsWordFaultSaid : WordFault → (status : ℕ) (i i' o o' f f' : Option (List ℕ)) → Type 0
IsWordFaultSaid w status i i' o o' f f' =
    (i' ≡ i) × (o' ≡ o) × (IsSaid (fault_line (command_fault_text (fault.Word w))) 2 status f f' ⊎ IsSaid (fault_line (command_fault_text fault.Memory)) 1 status f f')

-- the input and the output after an explanation that is not whole for this fault
abbrev pub ExplainsEarly : Explaining → ReplayFault → (i i' o o' : Option (List ℕ)) → Type 0
ExplainsEarly e Read i i' o o' = o' ≡ o
ExplainsEarly e Write i i' o o' = ExplainsPart e i i' o o'
ExplainsEarly e Closed i i' o o' = ExplainsPart e i i' o o'
ExplainsEarly e Memory i i' o o' = o' ≡ o
ExplainsEarly e (Line f) i i' o o' = (o' ≡ o) × ((bytes : List ℕ) × ReadsAll i i' bytes × IsFaultOf bytes f)

-- the command wrote its answer, without a line about it; or it is not whole, and the fault was
-- printed, or a lack of memory
abbrev pub IsExplainingEnded : Bor (List ℕ) → Explaining → (status : ℕ) (i i' o o' f f' : Option (List ℕ)) → Type 0
IsExplainingEnded file e status i i' o o' f f' = ((status ≡ 0) × Explains e i i' o o' × (f' ≡ f))
    ⊎ ((x : ReplayFault) × ExplainsEarly e x i i' o o' × IsEndSaid file (Replay x) status f f')

-- it was shown how much is done, where that is to be shown, and then said how it ended
abbrev pub IsExplainingTold : Bor (List ℕ) → Explaining → (status : ℕ) (i i' o o' f f' : Option (List ℕ)) → Type 0
IsExplainingTold file e status i i' o o' f f' = (mid : Option (List ℕ))
    × IsProgressTold (record { is_shown = e.progress; all = None }) (ShowsProgress e.progress) f mid × IsExplainingEnded file e status i i' o o' mid f'

-- the form in which the question is answered
abbrev pub explaining_of : ExplainCommand → Question → Explaining
explaining_of c q = record { question = q; format = c.format; progress = c.progress }

-- a word could not be read; or the question was answered
abbrev pub IsExplainTold : ExplainCommand → (status : ℕ) (i i' o o' f f' : Option (List ℕ)) → Type 0
IsExplainTold c status i i' o o' f f' = ((w : WordFault) × IsWordFault c.address.now c.due w × IsWordFaultSaid w status i i' o o' f f')
    ⊎ ((q : Question) × AsksToExplain c.address.now c.due q × IsExplainingTold c.file (explaining_of c q) status i i' o o' f f')

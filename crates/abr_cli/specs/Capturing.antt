-- The output of `abr capture`.
use Rattle.std.specs.Prelude.{ℕ, ◌≡◌, ◌⊎◌, List, Option, Some, None, Result, Ok, Err, MatchResult}
use Rattle.std.specs.Borrow.{Bor}
use Rattle.replay.specs.declared.writing.WriteError.{WriteError}
use Rattle.replay.specs.declared.writing.WriteError.TheVariants as cannot_write
use Rattle.captured_lsas.specs.declared.options.Options.{Options}
use Rattle.capture_recording.specs.Outputs.{CaptureOutcome}
use Rattle.capture_recording.specs.declared.capturing.Preamble.{Preamble}
use Rattle.capture_recording.specs.declared.capturing.Preamble.TheVariants.{Given, Router}
use Rattle.capture_recording.specs.declared.fault.CapturingFault.{CapturingFault}
use Rattle.capture_recording.specs.declared.fault.CapturingFault.TheVariants as capturing
use Rattle.cli_queries.specs.declared.command_fault.CommandFault.{CommandFault}
use Rattle.cli_queries.specs.declared.command_fault.CommandFault.TheVariants as fault
use Rattle.cli_queries.specs.declared.argument_values.WordFault.{WordFault}
use Rattle.cli_queries.specs.declared.argument_values.WordFault.TheVariants.{NotAnAddress}
use Rattle.cli_queries.specs.Answers.{IsSaid, IsUnwrittenSaid}
use Rattle.cli_queries.specs.Faults.{command_fault_text, fault_line, status_of}
use Rattle.cli_queries.specs.Words.{IsAddress, WritesAddress}
use Rattle.abr_cli.specs.declared.capturing.CaptureCommand.{CaptureCommand}

-- ---- what the recording begins with

-- the word writes this Router ID, where there is one
abbrev pub HasRouter : Option (Bor (List ℕ)) → Option ℕ → Type 0
HasRouter None None = Unit {0}
HasRouter None (Some router) = ⊥
HasRouter (Some word) None = ⊥
HasRouter (Some word) (Some router) = WritesAddress word.now router

-- the word is not an address
abbrev pub IsRouterFault : Option (Bor (List ℕ)) → WordFault → Type 0
IsRouterFault None f = ⊥
IsRouterFault (Some word) f = (f ≡ NotAnAddress) × (¬ IsAddress word.now)

-- the bytes of the file, if one is named, or else the configuration of the router that the capture
-- shows
abbrev pub IsFileBeginning : (begin beginning : Option (Bor (List ℕ))) → Option ℕ → Preamble → Type 0
IsFileBeginning None bytes None b = ⊥
IsFileBeginning None bytes (Some router) b = b ≡ Router router
IsFileBeginning (Some name) None router b = ⊥
IsFileBeginning (Some name) (Some bytes) router b = b ≡ Given bytes

-- the file cannot be read, or there is neither a file nor a router
abbrev pub HasNone : (begin beginning : Option (Bor (List ℕ))) → Option ℕ → CommandFault → Type 0
HasNone None bytes None f = f ≡ fault.Beginning
HasNone None bytes (Some router) f = ⊥
HasNone (Some name) None router f = f ≡ fault.Read name
HasNone (Some name) (Some bytes) router f = ⊥

abbrev pub BeginsWith : CaptureCommand → Preamble → Type 0
BeginsWith c b = (router : Option ℕ) × HasRouter c.router router × IsFileBeginning c.begin c.beginning router b

-- the reason why there is no beginning; a word that is not an address comes first
abbrev pub LacksBeginning : CaptureCommand → CommandFault → Type 0
LacksBeginning c f = ((w : WordFault) × IsRouterFault c.router w × (f ≡ fault.Word w))
    ⊎ ((router : Option ℕ) × HasRouter c.router router × HasNone c.begin c.beginning router f)

-- ---- how it ended

-- the line of the fault was written, with its status, or the line for a lack of memory if there is
-- none for it
abbrev pub IsSaidOrMemory : CommandFault → (status : ℕ) (f f' : Option (List ℕ)) → Type 0
IsSaidOrMemory c status f f' =
    IsSaid (fault_line (command_fault_text c)) (status_of c) status f f' ⊎ IsSaid (fault_line (command_fault_text fault.Memory)) 1 status f f'

-- the fault as one of the command, which names the capture; or why the output was not written whole
abbrev pub fault_from_capture : Bor (List ℕ) → CapturingFault → Result CommandFault WriteError
fault_from_capture file (capturing.Capture kind place) = Ok (fault.Capture file place kind)
fault_from_capture file capturing.Read = Ok (fault.Read file)
fault_from_capture file (capturing.Line f) = Ok (fault.Line f)
fault_from_capture file (capturing.Config f) = Ok (fault.Config f)
fault_from_capture file capturing.Unsaid = Err cannot_write.Failed
fault_from_capture file capturing.Write = Err cannot_write.Failed
fault_from_capture file capturing.Closed = Err cannot_write.Closed
fault_from_capture file capturing.Memory = Ok fault.Memory

-- a line says why there is no whole recording
abbrev pub IsCaptureEndSaid : Bor (List ℕ) → CapturingFault → (status : ℕ) (f f' : Option (List ℕ)) → Type 0
IsCaptureEndSaid file x status f f' =
    MatchResult (fault_from_capture file x) (λ c. IsSaidOrMemory c status f f') (λ why. IsUnwrittenSaid why status f f')

-- the capture was recorded; or it was not recorded whole, and it was said why
abbrev pub IsCaptureEnded : Bor (List ℕ) → Options → Preamble → (status : ℕ) (i i' o o' f f' : Option (List ℕ)) → Type 0
IsCaptureEnded file options b status i i' o o' f f' = ((status ≡ 0) × CaptureOutcome options b i i' o o' f f' (Ok tt))
    ⊎ ((x : CapturingFault) × (mid : Option (List ℕ)) × CaptureOutcome options b i i' o o' f mid (Err x) × IsCaptureEndSaid file x status mid f')

-- nothing was read, and it was said why there is no beginning; or the capture was recorded
abbrev pub IsCaptureTold : CaptureCommand → (status : ℕ) (i i' o o' f f' : Option (List ℕ)) → Type 0
IsCaptureTold c status i i' o o' f f' = ((x : CommandFault) × LacksBeginning c x × (i' ≡ i) × (o' ≡ o) × IsSaidOrMemory x status f f')
    ⊎ ((b : Preamble) × BeginsWith c b × IsCaptureEnded c.file c.options b status i i' o o' f f')

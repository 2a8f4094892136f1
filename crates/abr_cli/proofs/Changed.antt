-- The end of a report of changes.
use Rattle.std.proofs.Common.{◌≡◌, ◌⊎◌, ℕ, List, Option, ap, refl, subst, inl, inr}
use Rattle.recording.specs.declared.fault.LineFault.{LineFault}
use Rattle.replay.specs.declared.fault.ReplayFault.{ReplayFault}
use Rattle.replay.specs.declared.fault.ReplayFault.TheVariants.{Read, Write, Closed, Memory, Line}
use Rattle.replay.specs.declared.buffer.PrintError.TheVariants as stop
use Rattle.change_log.specs.Outputs.{FailsAtFront, FailsBehind, TellsPart, TellsThese}
use Rattle.change_log.specs.declared.printing.ChangeOptions.{ChangeOptions}
use Rattle.cli_queries.specs.declared.command_fault.CommandFault.{CommandFault}
use Rattle.cli_queries.specs.declared.command_fault.CommandFault.TheVariants as fault
use Rattle.cli_queries.specs.declared.argument_values.WordFault.TheVariants.{NotANetwork}
use Rattle.cli_queries.specs.Answers.{IsSaid}
use Rattle.cli_queries.specs.Faults.{command_fault_text, fault_line, status_of}
use Rattle.ospf_types.specs.declared.prefix.Prefix.{Prefix}
use Rattle.replay.specs.Advance.{EndsShowing, IsProgress, Shows}
use Rattle.abr_cli.specs.Changing.{AsksForChanges, IsChangesTold, IsTellingEnded, IsNetworkFaultSaid, TellsEarly, telling_of}
use Rattle.abr_cli.specs.declared.changing.ChangesCommand.{ChangesCommand}
use Rattle.abr_cli.proofs.Shown.{advance_told}

-- the line for each fault by itself
pub early_by_fault : {X : Type 0} (held : X → Option (List ℕ)) (t : ChangeOptions) (e : ReplayFault) (i i' : Option (List ℕ)) (old new : X) → (e ≡ Read → (new ≡ old) ⊎ ((bytes : List ℕ) × TellsThese t i i' bytes (held old) (held new)))
    → ((f : LineFault) → e ≡ Line f → ((new ≡ old) × FailsAtFront i i' f) ⊎ FailsBehind t i i' f (held old) (held new))
    → (e ≡ Write → TellsPart stop.Write t i i' (held old) (held new)) → (e ≡ Closed → TellsPart stop.Closed t i i' (held old) (held new))
    → (e ≡ Memory → (new ≡ old) ⊎ TellsPart stop.Memory t i i' (held old) (held new)) → TellsEarly t e i i' (held old) (held new)
early_by_fault held t Read i i' old new read line write closed memory = elim (read refl) [ inl same ↦ inl (ap held same) | inr these ↦ inr these ]
early_by_fault held t Write i i' old new read line write closed memory = write refl
early_by_fault held t Closed i i' old new read line write closed memory = closed refl
early_by_fault held t Memory i i' old new read line write closed memory = elim (memory refl) [ inl same ↦ inl (ap held same) | inr part ↦ inr part ]
early_by_fault held t (Line f) i i' old new read line write closed memory = elim (line f refl) [ inl front ↦ inl (ap held front.0, front.1) | inr behind ↦ inr behind ]

-- a word that is not a network
pub word_said : (e : CommandFault) (status : ℕ) (i o f f' : Option (List ℕ)) → e ≡ fault.Word NotANetwork
    → IsSaid (fault_line (command_fault_text e)) (status_of e) status f f' ⊎ IsSaid (fault_line (command_fault_text fault.Memory)) 1 status f f' → IsNetworkFaultSaid status i i o o f f'
word_said e status i o f f' is said = (
  refl,
  refl,
  subst (λ (x : CommandFault). IsSaid (fault_line (command_fault_text x)) (status_of x) status f f' ⊎ IsSaid (fault_line (command_fault_text fault.Memory)) 1 status f f') is said,
)

-- the report for the network that is given
pub network_told : (c : ChangesCommand) (only : Option Prefix) (t : ChangeOptions) (status : ℕ) (i i' o o' f start shown mid f' : Option (List ℕ)) → AsksForChanges c.only only → t ≡ telling_of c only
    → Shows c.progress 0 f start → IsProgress t.progress start shown → EndsShowing c.progress shown mid → IsTellingEnded c.file t status i i' o o' mid f' → IsChangesTold c status i i' o o' f f'
network_told c only t status i i' o o' f start shown mid f' asks is begun progress ended told =
    let shows : IsProgress c.progress start shown = subst (λ (x : ChangeOptions). IsProgress x.progress start shown) is progress in
    inr (only, asks, (mid, advance_told c.progress f start shown mid begun shows ended, subst (λ (x : ChangeOptions). IsTellingEnded c.file x status i i' o o' mid f') is told))

-- The end of writing a page.
use Rattle.std.proofs.Common.{◌≡◌, ◌⊎◌, ℕ, List, Option, ap, refl, inl, inr}
use Rattle.std.specs.Borrow.{Bor}
use Rattle.recording.specs.declared.fault.LineFault.{LineFault}
use Rattle.recording.specs.Faults.{IsFaultOf}
use Rattle.replay.specs.Inputs.{ReadsAll}
use Rattle.replay.specs.declared.fault.ReplayFault.{ReplayFault}
use Rattle.replay.specs.declared.fault.ReplayFault.TheVariants.{Read, Write, Closed, Memory, Line}
use Rattle.page_replay.specs.Outputs.{WritesPagePart}
use Rattle.cli_queries.specs.declared.command_fault.CommandFault.TheVariants as fault
use Rattle.cli_queries.specs.Answers.{IsSaid, IsSaidOf}
use Rattle.cli_queries.specs.Faults.{command_fault_text, fault_line}
use Rattle.cli_queries.proofs.Said.{said_of}
use Rattle.abr_cli.specs.Paging.{WritesPageEarly}

-- the line for each fault by itself
pub early_by_fault : {X : Type 0} (held : X → Option (List ℕ)) (x : ReplayFault) (i i' : Option (List ℕ)) (old new : X) → (x ≡ Read → new ≡ old)
    → ((f : LineFault) → x ≡ Line f → (new ≡ old) × ((bytes : List ℕ) × ReadsAll i i' bytes × IsFaultOf bytes f))
    → (x ≡ Write → WritesPagePart i i' (held old) (held new)) → (x ≡ Closed → WritesPagePart i i' (held old) (held new)) → (x ≡ Memory → new ≡ old)
    → WritesPageEarly x i i' (held old) (held new)
early_by_fault held Read i i' old new read line write closed memory = ap held (read refl)
early_by_fault held Write i i' old new read line write closed memory = write refl
early_by_fault held Closed i i' old new read line write closed memory = closed refl
early_by_fault held Memory i i' old new read line write closed memory = ap held (memory refl)
early_by_fault held (Line f) i i' old new read line write closed memory = let h = line f refl in (ap held h.0, h.1)

-- a file that could not be written
pub file_said : (file : Bor (List ℕ)) (status : ℕ) (f f' : Option (List ℕ))
    → IsSaid (fault_line (command_fault_text (fault.WriteTo file))) 1 status f f' ⊎ IsSaid (fault_line (command_fault_text fault.Memory)) 1 status f f'
    → IsSaidOf (fault.WriteTo file) status f f' ⊎ IsSaidOf fault.Memory status f f'
file_said file status f f' (inl said) = inl (said_of (fault.WriteTo file) status f f' said)
file_said file status f f' (inr said) = inr (said_of fault.Memory status f f' said)

-- The end of an explanation.
use Rattle.std.proofs.Common.{◌≡◌, ◌⊎◌, ℕ, List, Option, None, Some, ap, refl, subst, inl, inr}
use Rattle.std.specs.Borrow.{Bor}
use Rattle.recording.specs.declared.fault.LineFault.{LineFault}
use Rattle.recording.specs.Faults.{IsFaultOf}
use Rattle.replay.specs.Inputs.{ReadsAll}
use Rattle.replay.specs.declared.fault.ReplayFault.{ReplayFault}
use Rattle.replay.specs.declared.fault.ReplayFault.TheVariants.{Read, Write, Closed, Memory, Line}
use Rattle.explained_replay.specs.Outputs.{ExplainsPart}
use Rattle.explained_replay.specs.declared.question.Explaining.{Explaining}
use Rattle.cli_queries.specs.declared.command_fault.CommandFault.TheVariants as fault
use Rattle.cli_queries.specs.declared.argument_values.WordFault.{WordFault}
use Rattle.cli_queries.specs.Answers.{IsSaid}
use Rattle.cli_queries.specs.Faults.{command_fault_text, fault_line, status_of}
use Rattle.abr_cli.specs.Explaining.{ExplainsEarly, IsWordFault, IsWordFaultSaid}

-- the line for each fault by itself
pub early_by_fault : {X : Type 0} (held : X → Option (List ℕ)) (e : Explaining) (x : ReplayFault) (i i' : Option (List ℕ)) (old new : X) → (x ≡ Read → new ≡ old)
    → ((f : LineFault) → x ≡ Line f → (new ≡ old) × ((bytes : List ℕ) × ReadsAll i i' bytes × IsFaultOf bytes f))
    → (x ≡ Write → ExplainsPart e i i' (held old) (held new)) → (x ≡ Closed → ExplainsPart e i i' (held old) (held new)) → (x ≡ Memory → new ≡ old)
    → ExplainsEarly e x i i' (held old) (held new)
early_by_fault held e Read i i' old new read line write closed memory = ap held (read refl)
early_by_fault held e Write i i' old new read line write closed memory = write refl
early_by_fault held e Closed i i' old new read line write closed memory = closed refl
early_by_fault held e Memory i i' old new read line write closed memory = ap held (memory refl)
early_by_fault held e (Line f) i i' old new read line write closed memory = let h = line f refl in (ap held h.0, h.1)

-- such a word has status 2
word_status : (word : List ℕ) (due : Option (Bor (List ℕ))) (w : WordFault) → IsWordFault word due w → status_of (fault.Word w) ≡ 2
word_status word None w is = ap (λ (x : WordFault). status_of (fault.Word x)) is.0
word_status word (Some area) w (inl is) = ap (λ (x : WordFault). status_of (fault.Word x)) is.0
word_status word (Some area) w (inr is) = ap (λ (x : WordFault). status_of (fault.Word x)) is.0

-- a word that cannot be read
pub word_said : (word : List ℕ) (due : Option (Bor (List ℕ))) (w : WordFault) (status : ℕ) (i o f f' : Option (List ℕ)) → IsWordFault word due w
    → IsSaid (fault_line (command_fault_text (fault.Word w))) (status_of (fault.Word w)) status f f' ⊎ IsSaid (fault_line (command_fault_text fault.Memory)) 1 status f f' → IsWordFaultSaid w status i i o o f f'
word_said word due w status i o f f' is said = (
  refl,
  refl,
  subst (λ (n : ℕ). IsSaid (fault_line (command_fault_text (fault.Word w))) n status f f' ⊎ IsSaid (fault_line (command_fault_text fault.Memory)) 1 status f f') (word_status word due w is) said,
)

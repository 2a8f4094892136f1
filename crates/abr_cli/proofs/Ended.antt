-- The end of a replay.
use Rattle.std.proofs.Common.{◌≡◌, ◌⊎◌, ◌<◌, ℕ, List, Option, Result, Ok, Err, OnOk, ap, sym, subst, inl, inr, refl}
use Rattle.std.specs.Prelude.{MatchResult}
use Rattle.std.specs.Borrow.{Bor}
use Rattle.replay.specs.Inputs.{ReadsAll}
use Rattle.replay.specs.declared.buffer.PrintError.TheVariants as stop
use Rattle.recording.specs.declared.fault.LineFault.{LineFault}
use Rattle.recording.specs.Faults.{IsFaultOf}
use Rattle.replay.specs.declared.fault.ReplayFault.{ReplayFault}
use Rattle.replay.specs.declared.fault.ReplayFault.TheVariants.{Read, Write, Closed, Memory, Line}
use Rattle.replay.specs.declared.printing.PrintOptions.{PrintOptions}
use Rattle.worker_replay.specs.declared.fault.WorkerReplayFault.{WorkerReplayFault}
use Rattle.worker_replay.specs.declared.fault.WorkerReplayFault.TheVariants.{Replay, Spawn, Place, NoEntry}
use Rattle.worker_replay.specs.Outputs as many
use Rattle.replay.specs.declared.writing.WriteError.{WriteError}
use Rattle.cli_queries.specs.declared.command_fault.CommandFault.{CommandFault}
use Rattle.cli_queries.specs.declared.command_fault.CommandFault.TheVariants as fault
use Rattle.cli_queries.specs.Faults.{command_fault_text, fault_line, status_of}
use Rattle.cli_queries.specs.Answers.{IsSaid, IsSaidOf, IsUnwrittenSaid}
use Rattle.cli_queries.proofs.Said.{said_of}
use Rattle.abr_cli.specs.Replaying.{fault_from, EndsBy, EndsEarly, IsEndSaid, IsReplayEnded, IsReplayedPart}

-- a replay may end by a lack of memory wherever it may end but with a failed write
pub ended_early : (file : Bor (List ℕ)) (workers : ℕ) (e : WorkerReplayFault) (p : PrintOptions) (status : ℕ) (i i' o o' f f' : Option (List ℕ)) → EndsEarly workers e p i i' o o' → IsEndSaid file e status f f'
    → IsReplayEnded file workers p status i i' o o' f f'
ended_early file workers (Replay Read) p status i i' o o' f f' h (inl said) = inr (Replay Read, h, said)
ended_early file workers (Replay Read) p status i i' o o' f f' h (inr said) = inr (Replay Memory, inl h, said)
ended_early file workers (Replay Write) p status i i' o o' f f' h said = inr (Replay Write, h, said)
ended_early file workers (Replay Closed) p status i i' o o' f f' h said = inr (Replay Closed, h, said)
ended_early file workers (Replay Memory) p status i i' o o' f f' h (inl said) = inr (Replay Memory, h, said)
ended_early file workers (Replay Memory) p status i i' o o' f f' h (inr said) = inr (Replay Memory, h, said)
ended_early file workers (Replay (Line l)) p status i i' o o' f f' h (inl said) = inr (Replay (Line l), h, said)
ended_early file workers (Replay (Line l)) p status i i' o o' f f' h (inr said) = inr (Replay Memory, inl h.0, said)
ended_early file workers Spawn p status i i' o o' f f' h (inl said) = inr (Spawn, h, said)
ended_early file workers Spawn p status i i' o o' f f' h (inr said) = inr (Replay Memory, inl h.1, said)
ended_early file workers Place p status i i' o o' f f' h (inl said) = inr (Place, h, said)
ended_early file workers Place p status i i' o o' f f' h (inr said) = inr (Replay Memory, inl h.1, said)
ended_early file workers NoEntry p status i i' o o' f f' h (inl said) = inr (NoEntry, h, said)
ended_early file workers NoEntry p status i i' o o' f f' h (inr said) = inr (Replay Memory, inl h.1, said)

-- the line for each fault by itself
pub by_fault : (workers : ℕ) (e : ReplayFault) (p : PrintOptions) (i i' o o' : Option (List ℕ)) → (e ≡ Read → o' ≡ o)
    → ((f : LineFault) → e ≡ Line f → (o' ≡ o) × ((bytes : List ℕ) × ReadsAll i i' bytes × IsFaultOf bytes f))
    → (e ≡ Write → IsReplayedPart workers stop.Write p i i' o o') → (e ≡ Closed → IsReplayedPart workers stop.Closed p i i' o o') → (e ≡ Memory → (o' ≡ o) ⊎ IsReplayedPart workers stop.Memory p i i' o o') → EndsEarly workers (Replay e) p i i' o o'
by_fault workers Read p i i' o o' read line write closed memory = read refl
by_fault workers Write p i i' o o' read line write closed memory = write refl
by_fault workers Closed p i i' o o' read line write closed memory = closed refl
by_fault workers Memory p i i' o o' read line write closed memory = memory refl
by_fault workers (Line f) p i i' o o' read line write closed memory = line f refl

-- a replay by several workers, by its clauses
pub many_ends : {X : Type 0} (held : X → Option (List ℕ)) (workers : ℕ) (r : Result (Unit {0}) WorkerReplayFault) (p : PrintOptions) (i i' : Option (List ℕ)) (old new : X) → 1 < workers
    → OnOk r (many.Replays p i i' (held old) (held new)) → (r ≡ Err (Replay Read) → new ≡ old)
    → ((f : LineFault) → r ≡ Err (Replay (Line f)) → (new ≡ old) × ((bytes : List ℕ) × ReadsAll i i' bytes × IsFaultOf bytes f))
    → (r ≡ Err Spawn → new ≡ old) → (r ≡ Err Place → new ≡ old) → (r ≡ Err NoEntry → new ≡ old)
    → (r ≡ Err (Replay Write) → many.ReplaysPart stop.Write p i i' (held old) (held new))
    → (r ≡ Err (Replay Closed) → many.ReplaysPart stop.Closed p i i' (held old) (held new))
    → (r ≡ Err (Replay Memory) → (new ≡ old) ⊎ many.ReplaysPart stop.Memory p i i' (held old) (held new)) → EndsBy workers p r i i' (held old) (held new)
many_ends held workers (Ok u) p i i' old new several ok read line spawn place entry write closed memory = inr (several, ok)
many_ends held workers (Err (Replay Read)) p i i' old new several ok read line spawn place entry write closed memory = ap held (read refl)
many_ends held workers (Err (Replay Write)) p i i' old new several ok read line spawn place entry write closed memory = inr (several, write refl)
many_ends held workers (Err (Replay Closed)) p i i' old new several ok read line spawn place entry write closed memory = inr (several, closed refl)
many_ends held workers (Err (Replay Memory)) p i i' old new several ok read line spawn place entry write closed memory = go (memory refl)
  where
    go : (new ≡ old) ⊎ many.ReplaysPart stop.Memory p i i' (held old) (held new) → (held new ≡ held old) ⊎ IsReplayedPart workers stop.Memory p i i' (held old) (held new)
    go (inl same) = inl (ap held same)
    go (inr part) = inr (inr (several, part))
many_ends held workers (Err (Replay (Line f))) p i i' old new several ok read line spawn place entry write closed memory =
    let h = line f refl in (ap held h.0, h.1)
many_ends held workers (Err Spawn) p i i' old new several ok read line spawn place entry write closed memory = (several, ap held (spawn refl))
many_ends held workers (Err Place) p i i' old new several ok read line spawn place entry write closed memory = (several, ap held (place refl))
many_ends held workers (Err NoEntry) p i i' old new several ok read line spawn place entry write closed memory = (several, ap held (entry refl))

-- ---- what is said of it

same_status : (r : Result CommandFault WriteError) (x c : CommandFault) → r ≡ Ok x → r ≡ Ok c → status_of c ≡ status_of x
same_status r x c has is = let same : c ≡ x = cc (has, is) in ap status_of same

-- each fault of a replay has status 1
status_one : (file : Bor (List ℕ)) (e : WorkerReplayFault) (c : CommandFault) → fault_from file e ≡ Ok c → status_of c ≡ 1
status_one file (Replay Read) c is = same_status (fault_from file (Replay Read)) (fault.Read file) c refl is
status_one file (Replay Write) c is = cc
status_one file (Replay Closed) c is = cc
status_one file (Replay Memory) c is = same_status (fault_from file (Replay Memory)) fault.Memory c refl is
status_one file (Replay (Line l)) c is = same_status (fault_from file (Replay (Line l))) (fault.Line l) c refl is
status_one file Spawn c is = same_status (fault_from file Spawn) fault.Spawn c refl is
status_one file Place c is = same_status (fault_from file Place) fault.Place c refl is
status_one file NoEntry c is = same_status (fault_from file NoEntry) fault.NoEntry c refl is

abbrev line_of : CommandFault → List ℕ
line_of c = fault_line (command_fault_text c)

-- the line of the fault, or of a lack of memory if there is none for it
pub fault_said : (file : Bor (List ℕ)) (e : WorkerReplayFault) (c : CommandFault) (status : ℕ) (f f' : Option (List ℕ)) → fault_from file e ≡ Ok c
    → IsSaid (line_of c) (status_of c) status f f' ⊎ IsSaid (line_of fault.Memory) 1 status f f' → IsEndSaid file e status f f'
fault_said file e c status f f' is said =
    subst (λ r. MatchResult r (λ k. IsSaidOf k status f f' ⊎ IsSaidOf fault.Memory status f f') (λ why. IsUnwrittenSaid why status f f')) (sym is) (either said)
  where
    either : IsSaid (line_of c) (status_of c) status f f' ⊎ IsSaid (line_of fault.Memory) 1 status f f' → IsSaidOf c status f f' ⊎ IsSaidOf fault.Memory status f f'
    either (inl line) = inl (said_of c status f f' (subst (λ n. IsSaid (line_of c) n status f f') (status_one file e c is) line))
    either (inr memory) = inr (said_of fault.Memory status f f' memory)

pub unwritten_said : (file : Bor (List ℕ)) (e : WorkerReplayFault) (why : WriteError) (status : ℕ) (f f' : Option (List ℕ)) → fault_from file e ≡ Err why → IsUnwrittenSaid why status f f' → IsEndSaid file e status f f'
unwritten_said file e why status f f' is said =
    subst (λ r. MatchResult r (λ k. IsSaidOf k status f f' ⊎ IsSaidOf fault.Memory status f f') (λ w. IsUnwrittenSaid w status f f')) (sym is) said

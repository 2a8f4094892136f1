-- The answers of events to C, and the core after them.
use Rattle.std.specs.Prelude.{ℕ, ◌≡◌, ◌⊎◌, List, IfOk, Option, Some, None, Result}
use Rattle.ospf_types.specs.declared.key.Scope.{Scope}
use Rattle.ospf_types.specs.Lsa.{Lsa}
use Rattle.lsa_codec.specs.declared.fault.WireFault.{WireFault}
use Rattle.lsa_codec.specs.Faults.{fault_of}
use Rattle.lsa_codec.specs.Checksum.{IsSound}
use Rattle.lsa_codec.specs.Spelling.{Spells}
use Rattle.event_state.specs.declared.event.Event.{Event}
use Rattle.event_state.specs.declared.event.Event.TheVariants as event
use Rattle.event_state.specs.declared.refusal.Refusal.{Refusal}
use Rattle.event_core.specs.declared.reply.Reply.{Reply}
use Rattle.event_core.specs.declared.reply.Status.{Status}
use Rattle.event_core.specs.Cores.{CoreValue, Applies, IsRollRefusal, NamesChanges, HasBoundedWork, Rolls, MatchesStatus}
use Rattle.abr_c.specs.Numbers.{answer_number, no_core, no_network, out_of_memory, refusal_number, status_number, wire_number}

-- the reply of the core to the event, and its number
pub record IsCallAnswered (e : Event) (old : CoreValue) (told : ℕ) (new : CoreValue) : Type 0 where
  pub answer : Result Reply Refusal
  pub number : told ≡ answer_number answer
  pub applied : Applies old e answer new
  pub changes : IfOk answer (λ reply. NamesChanges old reply.state new)
  pub work : IfOk answer (λ reply. HasBoundedWork old reply.state new)

-- the event is answered by the core; or there is none
abbrev pub IsEventAnswered : Event → Option CoreValue → (number : ℕ) → Option CoreValue → Type 0
IsEventAnswered e (Some old) number (Some new) = IsCallAnswered e old number new
IsEventAnswered e (Some old) number None = ⊥
IsEventAnswered e None number new = (number ≡ no_core) × (new ≡ None)

-- the arguments name an event, which is applied; or they name no network
abbrev pub IsToldIf : Option Event → Option CoreValue → (number : ℕ) → Option CoreValue → Type 0
IsToldIf (Some e) old number new = IsEventAnswered e old number new
IsToldIf None old number new = (number ≡ no_network) × (new ≡ old)

-- the bytes spell an LSA, which is installed; or the number names their first fault, or a lack of
-- memory
abbrev pub Installs : Scope → (bytes : List ℕ) → Option CoreValue → (number : ℕ) → Option CoreValue → Type 0
Installs at bytes old number new =
    ((lsa : Lsa) × IsSound bytes × Spells bytes lsa × IsEventAnswered (event.Install at lsa) old number new)
    ⊎ (((f : WireFault) × (fault_of bytes ≡ Some f) × (number ≡ wire_number f) × (new ≡ old))
    ⊎ ((fault_of bytes ≡ None) × (number ≡ out_of_memory) × (new ≡ old)))

-- The table and the due summaries reflect the whole journal, or are unchanged. All else is
-- unchanged.
pub record IsCaughtUp (old : CoreValue) (told : ℕ) (new : CoreValue) : Type 0 where
  pub status : Status
  pub number : told ≡ status_number status
  pub stands : MatchesStatus old status new
  pub journal : new.journal ≡ old.journal
  pub base : new.base ≡ old.base
  pub limits : new.limits ≡ old.limits
  pub changes : new.changes ≡ old.changes
  pub due_changes : new.due_changes ≡ old.due_changes
  pub work : new.work ≡ old.work

abbrev pub CatchesUp : Option CoreValue → (number : ℕ) → Option CoreValue → Type 0
CatchesUp (Some old) number (Some new) = IsCaughtUp old number new
CatchesUp (Some old) number None = ⊥
CatchesUp None number new = (number ≡ no_core) × (new ≡ None)

-- the core is rolled; or it is unchanged, and the number is the reason
abbrev pub IsRolled : CoreValue → (number : ℕ) → CoreValue → Type 0
IsRolled old number new =
    ((number ≡ 0) × Rolls old new)
    ⊎ ((r : Refusal) × IsRollRefusal old r × (number ≡ refusal_number r) × (new ≡ old))

abbrev pub RollsTo : Option CoreValue → (number : ℕ) → Option CoreValue → Type 0
RollsTo (Some old) number (Some new) = IsRolled old number new
RollsTo (Some old) number None = ⊥
RollsTo None number new = (number ≡ no_core) × (new ≡ None)

-- the number of the first fault of the bytes, 0 if they have none, or the number for a lack of
-- memory if they have none
abbrev pub IsLsaNumber : (bytes : List ℕ) → (number : ℕ) → Type 0
IsLsaNumber bytes number =
    ((f : WireFault) × (fault_of bytes ≡ Some f) × (number ≡ wire_number f))
    ⊎ ((fault_of bytes ≡ None) × ((number ≡ 0) ⊎ (number ≡ out_of_memory)))

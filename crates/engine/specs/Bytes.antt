-- The answers to the bytes of an LSA.
use Rattle.std.specs.Prelude.{ℕ, ◌≡◌, ◌⊎◌, List, Some, None}
use Rattle.ospf_types.specs.declared.key.Scope.{Scope}
use Rattle.ospf_types.specs.Lsa.{Lsa}
use Rattle.lsa_codec.specs.declared.fault.WireFault.TheVariants as wire
use Rattle.lsa_codec.specs.Faults.{fault_of}
use Rattle.lsa_codec.specs.Spelling.{Spells}
use Rattle.event_state.specs.declared.event.Event.TheVariants as event
use Rattle.publication.specs.Names.{Name}
use Rattle.engine.specs.Answers.{IsAnswerTo, Refusals}
use Rattle.engine.specs.declared.answer.Answer.{Answer}
use Rattle.engine.specs.declared.bytes_fault.BytesFault.{BytesFault}
use Rattle.engine.specs.declared.bytes_fault.BytesFault.TheVariants as bytes

-- they have no fault, and spell this LSA and no other: it is what `read` gives for them
abbrev pub AreReadAs : List ℕ → Lsa → Type 0
AreReadAs given l = (fault_of given ≡ None) × Spells given l

-- the answer to the install of the LSA that is read
abbrev pub AreInstalled : Name → Scope → List ℕ → Answer → Type 0
AreInstalled name at given answer = (l : Lsa) × AreReadAs given l × IsAnswerTo name (event.Install at l) answer

-- they have this fault as their first, or memory was refused; or the install of the LSA that is
-- read is refused
abbrev pub AreRefused : Name → Scope → List ℕ → BytesFault → Type 0
AreRefused name at given (bytes.Wire f) = (fault_of given ≡ Some f) ⊎ ((f ≡ wire.Memory) × (fault_of given ≡ None))
AreRefused name at given (bytes.Refused r) = (l : Lsa) × AreReadAs given l × Refusals name (event.Install at l) r

-- The numbers that calls return to C.
use Rattle.std.specs.Prelude.{ℕ, Result, Ok, Err}
use Rattle.lsa_codec.specs.declared.fault.WireFault.{WireFault}
use Rattle.lsa_codec.specs.declared.fault.WireFault.TheVariants as wire
use Rattle.ospf_types.specs.declared.fault.ConfigFault.{ConfigFault}
use Rattle.ospf_types.specs.declared.fault.ConfigFault.TheVariants as config
use Rattle.event_state.specs.declared.base_fault.EntryFault.{EntryFault}
use Rattle.event_state.specs.declared.base_fault.EntryFault.TheVariants as unfit
use Rattle.event_state.specs.declared.refusal.Refusal.{Refusal}
use Rattle.event_state.specs.declared.refusal.Refusal.TheVariants as refusal
use Rattle.recording.specs.declared.fault.Fault.{Fault}
use Rattle.recording.specs.declared.fault.Fault.TheVariants as fault
use Rattle.event_core.specs.declared.reply.Reply.{Reply}
use Rattle.event_core.specs.declared.reply.Status.{Status}
use Rattle.event_core.specs.declared.reply.Status.TheVariants.{Current, Behind}

-- a seed is too short
abbrev pub short_seed : ℕ
short_seed = 1

abbrev pub out_of_memory : ℕ
out_of_memory = 30

-- a line out of order
abbrev pub misplaced_line : ℕ
misplaced_line = 53

-- no core is open
abbrev pub no_core : ℕ
no_core = 60

-- an address and a length that are not a network
abbrev pub no_network : ℕ
no_network = 61

abbrev pub status_number : Status → ℕ
status_number Current = 0
status_number Behind = 11

abbrev pub refusal_number : Refusal → ℕ
refusal_number refusal.NoArea = 20
refusal_number refusal.Scope = 21
refusal_number refusal.Older = 22
refusal_number refusal.Same = 23
refusal_number refusal.NoLsa = 24
refusal_number refusal.NotOwn = 25
refusal_number refusal.NotMaxAge = 26
refusal_number refusal.Full = 27
refusal_number refusal.JournalFull = 28
refusal_number refusal.AddressTaken = 29
refusal_number refusal.RangeOverlaps = 34
refusal_number refusal.NoRange = 35
refusal_number refusal.RangeFull = 36
refusal_number refusal.Memory = 30
refusal_number refusal.Spawn = 31
refusal_number refusal.Workers = 32
refusal_number refusal.NotCurrent = 37

-- the number of the answer to an event
abbrev pub answer_number : Result Reply Refusal → ℕ
answer_number (Ok reply) = status_number reply.state
answer_number (Err refusal) = refusal_number refusal

abbrev pub wire_number : WireFault → ℕ
wire_number wire.Length = 1
wire_number wire.Checksum = 2
wire_number wire.Age = 3
wire_number wire.Sequence = 4
wire_number wire.Kind = 5
wire_number wire.Reserved = 6
wire_number wire.Mask = 7
wire_number wire.RouterId = 8
wire_number wire.LinkType = 9
wire_number wire.Shape = 10
wire_number wire.Memory = 30

abbrev pub config_number : ConfigFault → ℕ
config_number config.Areas = 40
config_number config.RangesOverlap = 41
config_number config.BackboneStub = 42
config_number config.Cost = 43
config_number config.RangeCount = 44
config_number config.Memory = 30

abbrev pub unfit_number : EntryFault → ℕ
unfit_number unfit.NoArea = 20
unfit_number unfit.Scope = 21
unfit_number unfit.Full = 27
unfit_number unfit.AddressTaken = 29

-- for an LSA, a configuration or a base, the number of its own fault
abbrev pub fault_number : Fault → ℕ
fault_number fault.Truncated = 50
fault_number fault.Version = 51
fault_number fault.Line = 52
fault_number fault.Order = 53
fault_number (fault.Wire f) = wire_number f
fault_number (fault.Config f) = config_number f
fault_number (fault.Base u) = unfit_number u
fault_number fault.Memory = 30

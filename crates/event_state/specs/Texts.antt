-- The printed text of a refusal, and of a fault of a base: its number and its name.
use Rattle.std.specs.Prelude.{ℕ, List, codes}
use Rattle.ospf_types.specs.Texts.{config_fault_text}
use Rattle.event_state.specs.declared.base_fault.BaseFault.{BaseFault}
use Rattle.event_state.specs.declared.base_fault.BaseFault.TheVariants as base_fault
use Rattle.event_state.specs.declared.base_fault.EntryFault.{EntryFault}
use Rattle.event_state.specs.declared.base_fault.EntryFault.TheVariants as unfit
use Rattle.event_state.specs.declared.refusal.Refusal.{Refusal}
use Rattle.event_state.specs.declared.refusal.Refusal.TheVariants as refusal

abbrev pub refusal_text : Refusal → List ℕ
refusal_text refusal.NoArea = codes "20 NoArea"
refusal_text refusal.Scope = codes "21 Scope"
refusal_text refusal.Older = codes "22 Older"
refusal_text refusal.Same = codes "23 Same"
refusal_text refusal.NoLsa = codes "24 NoLsa"
refusal_text refusal.NotOwn = codes "25 NotOwn"
refusal_text refusal.NotMaxAge = codes "26 NotMaxAge"
refusal_text refusal.Full = codes "27 Full"
refusal_text refusal.JournalFull = codes "28 JournalFull"
refusal_text refusal.AddressTaken = codes "29 AddressTaken"
refusal_text refusal.RangeOverlaps = codes "34 RangeOverlaps"
refusal_text refusal.NoRange = codes "35 NoRange"
refusal_text refusal.RangeFull = codes "36 RangeFull"
refusal_text refusal.Memory = codes "30 Memory"
refusal_text refusal.Spawn = codes "31 Spawn"
refusal_text refusal.Workers = codes "32 Workers"
refusal_text refusal.NotCurrent = codes "37 NotCurrent"

abbrev pub unfit_text : EntryFault → List ℕ
unfit_text unfit.NoArea = codes "20 NoArea"
unfit_text unfit.Scope = codes "21 Scope"
unfit_text unfit.Full = codes "27 Full"
unfit_text unfit.AddressTaken = codes "29 AddressTaken"

abbrev pub base_fault_text : BaseFault → List ℕ
base_fault_text (base_fault.Config fault) = config_fault_text fault
base_fault_text base_fault.Doubled = codes "47 Doubled"
base_fault_text (base_fault.EntryFault fault) = unfit_text fault

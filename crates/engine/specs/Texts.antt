-- The printed texts of the faults and refusals of an engine: number and name.
use Rattle.std.specs.Prelude.{ℕ, List, codes}
use Rattle.event_core.specs.Texts.{config_fault_text}
use Rattle.lsa_codec.specs.Text.{wire_fault_text}
use Rattle.event_state.specs.Texts.{unfit_text}
use Rattle.engine.specs.RefusedText.{refused_text}
use Rattle.engine.specs.declared.bytes_fault.BytesFault.{BytesFault}
use Rattle.engine.specs.declared.bytes_fault.BytesFault.TheVariants as bytes_fault
use Rattle.engine.specs.declared.open_fault.OpenFault.{OpenFault}
use Rattle.engine.specs.declared.open_fault.OpenFault.TheVariants as opens

abbrev pub open_fault_text : OpenFault → List ℕ
open_fault_text (opens.Config f) = config_fault_text f
open_fault_text opens.Doubled = codes "47 Doubled"
open_fault_text (opens.EntryFault u) = unfit_text u
open_fault_text opens.Readers = codes "45 Readers"
open_fault_text opens.Place = codes "46 Place"

abbrev pub bytes_fault_text : BytesFault → List ℕ
bytes_fault_text (bytes_fault.Wire f) = wire_fault_text f
bytes_fault_text (bytes_fault.Refused r) = refused_text r

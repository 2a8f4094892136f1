-- The printed texts of faults.
use Rattle.std.specs.Prelude.{ℕ, List, codes}
use Rattle.captures.specs.declared.fault.FaultKind.{FaultKind}
use Rattle.captures.specs.declared.fault.ReadError.{ReadError}
use Rattle.captures.specs.declared.fault.ReadError.TheVariants.{Fault, Memory}
use Rattle.captures.specs.declared.fault.FaultKind.TheVariants.{NoCapture, Version, BlockLength, PacketLength, NoInterface, Options, Resolution, CutOff}

-- the number and the name
abbrev pub fault_text : FaultKind → List ℕ
fault_text NoCapture = codes "62 NoCapture"
fault_text Version = codes "63 Version"
fault_text BlockLength = codes "64 BlockLength"
fault_text PacketLength = codes "65 PacketLength"
fault_text NoInterface = codes "66 NoInterface"
fault_text Options = codes "67 Options"
fault_text Resolution = codes "68 Resolution"
fault_text CutOff = codes "69 CutOff"

abbrev pub error_text : ReadError → List ℕ
error_text (Fault kind) = fault_text kind
error_text Memory = codes "30 Memory"

-- Steps of which each may fail.
use Rattle.std.specs.Prelude.{Result, Ok, Err}
use Rattle.captures.specs.declared.fault.FaultKind.{FaultKind}

-- the further step at the value of the first, or the fault of the first
abbrev pub and_then : {A B : Type 0} → Result A FaultKind → (A → Result B FaultKind) → Result B FaultKind
and_then (Ok value) further = further value
and_then (Err fault) further = Err fault

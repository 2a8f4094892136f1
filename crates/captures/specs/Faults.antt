-- Which error of a capture a fault of its input is.
use Rattle.input_reading.specs.declared.fault.ReadFault.{ReadFault}
use Rattle.input_reading.specs.declared.fault.ReadFault.TheVariants as fault
use Rattle.captures.specs.declared.capture_error.CaptureError.{CaptureError}
use Rattle.captures.specs.declared.capture_error.CaptureError.TheVariants.{Read, Memory}

abbrev pub error_of : ReadFault → CaptureError
error_of fault.Read = Read
error_of fault.Memory = Memory

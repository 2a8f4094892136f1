-- Which fault an error of the input is.
use Rattle.std.specs.Prelude.{◌≡◌, ◌≢◌, ◌⊎◌}
use Rattle.std.specs.IoError.{error_kind}
use Rattle.std.specs.declared.io.Error.{Error}
use Rattle.std.specs.declared.io.ErrorKind.TheVariants.{OutOfMemory}
use Rattle.input_reading.specs.declared.fault.ReadFault.{ReadFault}
use Rattle.input_reading.specs.declared.fault.ReadFault.TheVariants.{Read, Memory}

-- only an error of the kind `OutOfMemory` is one of memory
abbrev pub IsReadFaultOf : Error → ReadFault → Type 0
IsReadFaultOf error fault = (fault ≡ Memory × error_kind error ≡ OutOfMemory) ⊎ (fault ≡ Read × error_kind error ≢ OutOfMemory)

-- The contents of a writer after a failed write, and the meaning of the answer of a write.
use Rattle.std.specs.Prelude.{ℕ, ◌≡◌, ◌≢◌, ◌++◌, List, [], Option, Result, Ok, Err}
use Rattle.std.specs.declared.io.Error.{Error}
use Rattle.std.specs.declared.io.ErrorKind.{ErrorKind}
use Rattle.std.specs.declared.io.ErrorKind.TheVariants as io_kind
use Rattle.std.specs.IoError.{error_kind}
use Rattle.std.specs.Io.KnownBytes.{Appends}
use Rattle.replay.specs.declared.writing.WriteError.{WriteError}
use Rattle.replay.specs.declared.writing.WriteError.TheVariants.{Failed, Closed}

-- a writer's known bytes grew by a beginning of these, and not by all of them
pub record AppendsPart (old new : Option (List ℕ)) (bytes : List ℕ) : Type 0 where
  pub part : List ℕ
  pub rest : List ℕ
  pub joined : bytes ≡ part ++ rest
  pub lacks : rest ≢ []
  pub written : Appends old new part

-- ---- the answer of one write

-- the number of bytes that the write took: at least one, or 0 if it was interrupted
abbrev pub IsWriteStep : Result ℕ Error → (count : ℕ) → Type 0
IsWriteStep (Ok n) count = (count ≡ n) × (n ≢ 0)
IsWriteStep (Err e) count = (count ≡ 0) × (error_kind e ≡ io_kind.Interrupted)

-- The reason why nothing more is written after a write that failed so. The pipe was closed exactly
-- if the error is of that kind. An interrupted write is tried again.
abbrev pub IsErrorEnd : ErrorKind → WriteError → Type 0
IsErrorEnd kind Closed = kind ≡ io_kind.BrokenPipe
IsErrorEnd kind Failed = (kind ≢ io_kind.BrokenPipe) × (kind ≢ io_kind.Interrupted)

-- the reason why nothing more is written after a write: it took nothing, or it failed
abbrev pub IsWriteEnd : Result ℕ Error → WriteError → Type 0
IsWriteEnd (Ok n) why = (n ≡ 0) × (why ≡ Failed)
IsWriteEnd (Err e) why = IsErrorEnd (error_kind e) why

-- The input of a replay.
use Rattle.std.specs.Prelude.{ℕ, List, Option}
use Rattle.std.specs.Io.KnownBytes.{Consumes, IsAtEnd}

-- a reader's known bytes were these, and it has none left
pub record ReadsAll (before after : Option (List ℕ)) (bytes : List ℕ) : Type 0 where
  pub read : Consumes before after bytes
  pub end : IsAtEnd after

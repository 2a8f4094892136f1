-- The number of lines of an input.
use Rattle.std.specs.Prelude.{ℕ, ◌≡◌, ◌==◌, List, Option, count_by}
use Rattle.std.specs.Io.KnownBytes.{Consumes, IsAtEnd}

-- the number of line feeds in the bytes
abbrev pub line_feeds : List ℕ → ℕ
line_feeds bytes = count_by (λ b. b == 10) bytes

-- the number of lines that a reader had left, up to its end
pub record CountsLines (before after : Option (List ℕ)) (lines : ℕ) : Type 0 where
  pub bytes : List ℕ
  pub read : Consumes before after bytes
  pub end : IsAtEnd after
  pub counted : line_feeds bytes ≡ lines

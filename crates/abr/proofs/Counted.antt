-- Line feeds, counted piece by piece.
use Rattle.std.proofs.Common.{◌≡◌, ◌∙◌, ◌==◌, ◌+◌, ◌++◌, ℕ, List, [], Option, refl, ap, cond}
use Rattle.std.specs.Io.KnownBytes.{Consumes, IsAtEnd, Keeps}
use Rattle.std.proofs.KnownBytes.{Consumes-kept, Consumes-nil, Consumes-trans}
use Rattle.std.proofs.lemmas.List.Sums.{sum_by-append}
use Rattle.abr.specs.Counting.{CountsLines, line_feeds}

-- the number of line feeds in the bytes that were read so far
pub record Counted (before now : Option (List ℕ)) (lines : ℕ) : Type 0 where
  pub bytes : List ℕ
  pub read : Consumes before now bytes
  pub counted : line_feeds bytes ≡ lines

pub begin : (before : Option (List ℕ)) → Counted before before 0
begin before = record { bytes = []; read = Consumes-nil before; counted = refl }

pub more : (before now after : Option (List ℕ)) (lines : ℕ) (piece : List ℕ) → Counted before now lines → Consumes now after piece → Counted before after (lines + line_feeds piece)
more before now after lines piece c read = record {
  bytes = c.bytes ++ piece;
  read = Consumes-trans before now after c.bytes piece c.read read;
  counted = sum_by-append (λ b. cond (b == 10) 1 0) c.bytes piece ∙ ap (λ n. n + line_feeds piece) c.counted;
}

pub whole : (before after : Option (List ℕ)) (lines : ℕ) → Counted before after lines → IsAtEnd after → CountsLines before after lines
whole before after lines c end = record { bytes = c.bytes; read = c.read; end = end; counted = c.counted }

pub kept : (before now after : Option (List ℕ)) (lines : ℕ) → Counted before now lines → Keeps now after → Counted before after lines
kept before now after lines c keeps = record { bytes = c.bytes; read = Consumes-kept before now after c.bytes c.read keeps; counted = c.counted }

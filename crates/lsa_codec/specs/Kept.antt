-- The bytes that a checked advertisement keeps.
use Rattle.std.specs.Prelude.{ℕ, ◌≤◌, List, length}
use Rattle.lsa_codec.specs.Spelling.{Spells}
use Rattle.lsa_codec.specs.Checksum.{IsSound}
use Rattle.lsa_codec.specs.Decoding.{lsa_of}

-- They are sound, and spell the advertisement that is read of them. The header and four bytes of
-- the body are there.
pub record IsKept (bytes : List ℕ) : Type 0 where
  pub long : 24 ≤ length bytes
  pub sound : IsSound bytes
  pub spells : Spells bytes (lsa_of bytes)

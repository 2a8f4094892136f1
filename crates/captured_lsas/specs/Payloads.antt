-- The bytes of a payload.
use Rattle.std.specs.Prelude.{ℕ, List}
use Rattle.captured_lsas.specs.declared.heard.Payload.{Payload}
use Rattle.captured_lsas.specs.declared.heard.Payload.TheVariants.{Lent, Joined}

abbrev pub bytes_of : Payload → List ℕ
bytes_of (Lent bytes) = bytes.now
bytes_of (Joined bytes) = bytes.items

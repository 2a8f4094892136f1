-- Whatever is written in front is read as it.
use Rattle.std.specs.Prelude.{ℕ, List}
use Rattle.captures.specs.Reading.{CaptureState}
use Rattle.captures.specs.Writing.{ReadsFileHeader, ReadsFilePacket}
use Rattle.captures.specs.WritingBlocks.{ReadsSection, ReadsInterface, ReadsEnhanced, ReadsObsolete, ReadsSimple, PassesOther}

pub record ReadsWritten (s : CaptureState) (bytes : List ℕ) : Type 0 where
  pub file_header : ReadsFileHeader s bytes
  pub file_packet : ReadsFilePacket s bytes
  pub section : ReadsSection s bytes
  pub interface : ReadsInterface s bytes
  pub enhanced : ReadsEnhanced s bytes
  pub obsolete : ReadsObsolete s bytes
  pub simple : ReadsSimple s bytes
  pub other : PassesOther s bytes

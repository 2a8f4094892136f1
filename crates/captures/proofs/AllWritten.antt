-- Whatever is written is read as it.
use Rattle.std.proofs.Common.{ℕ, List}
use Rattle.captures.specs.Reading.{CaptureState}
use Rattle.captures.specs.Written.{ReadsWritten}
use Rattle.captures.proofs.Written.{header_written, packet_written}
use Rattle.captures.proofs.WrittenBlocks.{enhanced_written, obsolete_written, simple_written}
use Rattle.captures.proofs.WrittenSections.{section_written, interface_written, other_passed}

pub reads_written : (s : CaptureState) (bytes : List ℕ) → ReadsWritten s bytes
reads_written s bytes = record {
  file_header = header_written s bytes;
  file_packet = packet_written s bytes;
  section = section_written s bytes;
  interface = interface_written s bytes;
  enhanced = enhanced_written s bytes;
  obsolete = obsolete_written s bytes;
  simple = simple_written s bytes;
  other = other_passed s bytes;
}

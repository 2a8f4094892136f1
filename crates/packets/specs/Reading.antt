-- The datagram that bytes stand for.
use Rattle.std.specs.Prelude.{ℕ, ◌≡◌, not, List}
use Rattle.packets.specs.declared.datagram.Datagram.{Datagram}
use Rattle.packets.specs.Layout.{has_more, offset_field, identification_field, protocol_field, source_field, destination_field, payload_field}

-- each field is read from the header
pub record IsDatagram (bytes : List ℕ) (d : Datagram) : Type 0 where
  pub source : d.source ≡ source_field bytes
  pub destination : d.destination ≡ destination_field bytes
  pub identification : d.identification ≡ identification_field bytes
  pub protocol : d.protocol ≡ protocol_field bytes
  pub offset : d.offset ≡ offset_field bytes
  pub last : d.is_last ≡ not (has_more bytes)
  pub payload : d.payload.now ≡ payload_field bytes

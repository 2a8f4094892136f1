use Rattle.std.proofs.Common.{arith}
use Rattle.ospf_types.proofs.Addresses.{parsed_refused, parsed_spelled}
use Rattle.recording.proofs.words.read_address.Goals as goal

pub returns-in_err-address : goal.returns-in_err-address
returns-in_err-address c =
    rw c.from_residual.ensures (λ address fits same. parsed_refused c.parse_ascii.result c.args.word.now c.parse_ascii.ensures c.in_err-address.ensures.variant address fits same)

pub returns : goal.returns
returns c = (
  omega arith,
  rw c.to_bits.ensures (parsed_spelled c.parse_ascii.result c.args.word.now c.in_ok-address.address c.parse_ascii.ensures c.in_ok-address.ensures.value),
)

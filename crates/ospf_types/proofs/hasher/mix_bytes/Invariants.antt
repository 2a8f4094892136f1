use Rattle.std.proofs.Common.{◌≡◌, take, length, fold}
use Rattle.ospf_types.specs.Words.{mixed}
use Rattle.ospf_types.proofs.hasher.mix_bytes.Given as goal

abbrev pub invariant-loop-byte : goal.invariant-loop-byte
invariant-loop-byte l = l.state ≡ fold (mixed l.multiplier) (mixed l.multiplier l.fn.state (length l.bytes)) (take l.byte-index l.bytes)

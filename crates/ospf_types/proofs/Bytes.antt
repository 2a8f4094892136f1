-- A number written as its bytes is one word.
use Rattle.std.proofs.Common.{ℕ, ◌≡◌, ◌<◌, ◌^◌, ap, sym}
use Rattle.std.proofs.lemmas.Nat.{from_le_bytes-to_le_bytes_4, from_le_bytes-to_le_bytes_8}
use Rattle.std.specs.Hash.{le_bytes}
use Rattle.ospf_types.specs.Words.{mixed, written}

pub written-four : (m s n : ℕ) → n < 2 ^ 32 → mixed m s n ≡ written m s (le_bytes 4 n)
unfolding written le_bytes
written-four m s n h = ap (mixed m s) (sym (from_le_bytes-to_le_bytes_4 n h))

pub written-eight : (m s n : ℕ) → n < 2 ^ 64 → mixed m s n ≡ written m s (le_bytes 8 n)
unfolding written le_bytes
written-eight m s n h = ap (mixed m s) (sym (from_le_bytes-to_le_bytes_8 n h))

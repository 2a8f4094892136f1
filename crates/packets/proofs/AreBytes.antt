-- Lists of bytes, and parts of them.
use Rattle.std.proofs.Common.{ℕ, zero, suc, ◌<◌, List, [], ◌∷◌, ◌++◌, take, drop, get_or, arith}

-- each is a byte
abbrev pub AreBytes : List ℕ → Type 0
AreBytes bytes = (i : ℕ) → get_or bytes i 0 < 256

pub are_bytes_append : (front back : List ℕ) → AreBytes front → AreBytes back → AreBytes (front ++ back)
are_bytes_append [] back here there i = there i
are_bytes_append (byte ∷ front) back here there zero = here 0
are_bytes_append (byte ∷ front) back here there (suc i) = are_bytes_append front back (λ k. here (suc k)) there i

pub are_bytes_take : (n : ℕ) (bytes : List ℕ) → AreBytes bytes → AreBytes (take n bytes)
are_bytes_take zero bytes all i = omega arith
are_bytes_take (suc n) [] all i = omega arith
are_bytes_take (suc n) (byte ∷ bytes) all zero = all 0
are_bytes_take (suc n) (byte ∷ bytes) all (suc i) = are_bytes_take n bytes (λ k. all (suc k)) i

pub are_bytes_drop : (n : ℕ) (bytes : List ℕ) → AreBytes bytes → AreBytes (drop n bytes)
are_bytes_drop zero bytes all i = all i
are_bytes_drop (suc n) [] all i = omega arith
are_bytes_drop (suc n) (byte ∷ bytes) all i = are_bytes_drop n bytes (λ k. all (suc k)) i

-- another word in place of one
pub are_bytes_with : (front back : List ℕ) (high low high' low' : ℕ) → AreBytes (front ++ high ∷ low ∷ back) → high' < 256 → low' < 256 → AreBytes (front ++ high' ∷ low' ∷ back)
are_bytes_with [] back high low high' low' all h l zero = h
are_bytes_with [] back high low high' low' all h l (suc zero) = l
are_bytes_with [] back high low high' low' all h l (suc (suc i)) = all (suc (suc i))
are_bytes_with (byte ∷ front) back high low high' low' all h l zero = all 0
are_bytes_with (byte ∷ front) back high low high' low' all h l (suc i) = are_bytes_with front back high low high' low' (λ k. all (suc k)) h l i

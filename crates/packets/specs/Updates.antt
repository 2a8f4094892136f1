-- The body of a Link State Update (RFC 2328, A.3.5): the number of LSAs in four bytes, then the
-- LSAs, one after the other.
use Rattle.std.specs.Prelude.{ℕ, zero, suc, ◌≡◌, ◌≤◌, ◌<◌, ◌+◌, ◌⊎◌, Bool, ◌&&◌, nat_le, if◌then◌else◌, List, [], ◌∷◌, ◌++◌, length, map, take, drop, Result, Ok, Err}
use Rattle.std.specs.List.{concat, AllByRecursion}
use Rattle.std.specs.Result.{result_map_both}
use Rattle.std.specs.Borrow.{Bor}
use Rattle.byteorder.specs.Endian.{big_number}
use Rattle.packets.specs.declared.fault.UpdateFault.{UpdateFault}
use Rattle.packets.specs.declared.fault.UpdateFault.TheVariants.{LsaLength}

-- the number of LSAs
abbrev pub count_field : List ℕ → ℕ
count_field body = big_number 4 body

-- the length in an LSA's header (A.4.1)
abbrev pub lsa_length : List ℕ → ℕ
lsa_length lsa = big_number 2 (drop 18 lsa)

-- It is as long as its header says, and no shorter than a header.
pub record IsOneLsa (lsa : List ℕ) : Type 0 where
  pub header : 20 ≤ length lsa
  pub whole : lsa_length lsa ≡ length lsa

-- an LSA, or the fault where one is expected
abbrev pub UpdatePiece : Type 0
UpdatePiece = Result (List ℕ) UpdateFault

-- ---- which pieces there are

-- an LSA is at the start
pub record StartsWithLsa (bytes : List ℕ) : Type 0 where
  pub lsa : List ℕ
  pub behind : List ℕ
  pub whole : bytes ≡ lsa ++ behind
  pub is_lsa : IsOneLsa lsa

-- as many LSAs were found as there are to be, and nothing comes after the last
pub record IsUpdateWhole (found count : ℕ) (end : List UpdatePiece) : Type 0 where
  pub all : found ≡ count
  pub nothing : end ≡ []

-- fewer were found, no LSA is at the start of the rest, and a fault that tells the place comes
-- after the last
pub record IsUpdateCut (found count place : ℕ) (rest : List ℕ) (end : List UpdatePiece) : Type 0 where
  pub fewer : found < count
  pub none : StartsWithLsa rest → ⊥
  pub fault : end ≡ Err (LsaLength place) ∷ []

-- This many LSAs are to be in the bytes, and the place is how many bytes of the body are before.
-- The bytes are LSAs and a rest; the pieces are these LSAs and their end.
pub record ArePieces (count place : ℕ) (bytes : List ℕ) (pieces : List UpdatePiece) : Type 0 where
  pub lsas : List (List ℕ)
  pub rest : List ℕ
  pub end : List UpdatePiece
  pub whole : bytes ≡ concat lsas ++ rest
  pub each : AllByRecursion IsOneLsa lsas
  pub all : pieces ≡ map Ok lsas ++ end
  pub ends : IsUpdateWhole (length lsas) count end ⊎ IsUpdateCut (length lsas) count (place + length (concat lsas)) rest end

abbrev pub ArePiecesOf : List ℕ → List UpdatePiece → Type 0
ArePiecesOf body pieces = ArePieces (count_field body) 4 (drop 4 body) pieces

-- ---- the pieces, one after the other

-- the test of StartsWithLsa
abbrev pub has_lsa : List ℕ → Bool
has_lsa bytes = nat_le 20 (length bytes) && (nat_le 20 (lsa_length bytes) && nat_le (lsa_length bytes) (length bytes))

-- of this many LSAs that are to be in the bytes; the place is how many bytes of the body are before
abbrev pub pieces_from : (count place : ℕ) → List ℕ → List UpdatePiece
pieces_from zero place bytes = []
pieces_from (suc n) place bytes =
    if has_lsa bytes then Ok (take (lsa_length bytes) bytes) ∷ pieces_from n (place + lsa_length bytes) (drop (lsa_length bytes) bytes) else Err (LsaLength place) ∷ []

abbrev pub pieces_of : List ℕ → List UpdatePiece
pieces_of body = pieces_from (count_field body) 4 (drop 4 body)

-- a piece that is lent
abbrev pub lent : Result (Bor (List ℕ)) UpdateFault → UpdatePiece
lent piece = result_map_both (λ lsa. lsa.now) (λ fault. fault) piece

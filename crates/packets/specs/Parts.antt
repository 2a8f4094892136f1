-- The payload that the fragments of one datagram give (RFC 791, 3.2). They are listed from the last
-- one received to the first.
use Rattle.std.specs.Prelude.{ℕ, ◌≡◌, ◌≤◌, ◌<◌, ◌+◌, ◌-◌, ◌&&◌, Bool, true, nat_le, nat_lt, max, if◌then◌else◌, List, [], ◌∷◌, length, slice_index, Option, Some, None}
use Rattle.std.specs.List.{list_any, AllByRecursion}
use Rattle.packets.specs.declared.datagram.Datagram.{Datagram}

-- what a fragment says
pub record FragmentPart : Type 0 where
  pub offset : ℕ
  pub is_last : Bool
  pub payload : List ℕ

abbrev pub part_of : Datagram → FragmentPart
part_of d = record { offset = d.offset; is_last = d.is_last; payload = d.payload.now }

-- the place after its last byte
abbrev pub end_of : FragmentPart → ℕ
end_of p = p.offset + length p.payload

-- it has the byte at the place
abbrev pub has_place : ℕ → FragmentPart → Bool
has_place place p = nat_le p.offset place && nat_lt place (end_of p)

-- the byte at the place: where fragments overlap, the byte received last
abbrev pub byte_at : List FragmentPart → ℕ → Option ℕ
byte_at [] place = None
byte_at (p ∷ parts) place = if has_place place p then Some (slice_index p.payload (place - p.offset)) else byte_at parts place

-- the place after the last byte of all
abbrev pub extent : List FragmentPart → ℕ
extent [] = 0
extent (p ∷ parts) = max (end_of p) (extent parts)

-- some fragment is the last one of the datagram
abbrev pub has_last : List FragmentPart → Bool
has_last parts = list_any (λ p. p.is_last) parts

-- none goes past a fragment that is the last one
abbrev pub AreAgreed : List FragmentPart → Type 0
AreAgreed parts = AllByRecursion (λ p. p.is_last ≡ true → extent parts ≤ end_of p) parts

-- the fragments make a whole payload
pub record IsPayloadWhole (parts : List FragmentPart) (payload : List ℕ) : Type 0 where
  pub ended : has_last parts ≡ true
  pub agreed : AreAgreed parts
  pub long : length payload ≡ extent parts
  pub bytes : (place : ℕ) → place < length payload → byte_at parts place ≡ Some (slice_index payload place)

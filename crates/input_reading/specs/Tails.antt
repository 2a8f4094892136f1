-- A line that comes piece by piece.
use Rattle.std.specs.Prelude.{ℕ, ◌≡◌, ◌≢◌, ◌+◌, ◌<◌, List, ◌∷◌, ◌++◌, length, take, drop, Option, MatchOption}
use Rattle.std.specs.List.{All, Contains, list_all}
use Rattle.input_reading.specs.Shortened.{is_hexadecimal, is_odd_number}
use Rattle.input_reading.specs.declared.line.TheConstants.{LONGEST}
use Rattle.input_reading.specs.declared.tail.Tail.{Tail}

-- the summary of the bytes that are left out
abbrev pub tail_of : List ℕ → Tail
tail_of bytes = record { are_digits = list_all is_hexadecimal bytes; is_odd = is_odd_number (length bytes) }

-- the first of these bytes are in the line, and the tail is the tail of the others
pub record IsGathered (raw line : List ℕ) (tail : Tail) : Type 0 where
  pub front : line ≡ take LONGEST raw
  pub behind : tail ≡ tail_of (drop LONGEST raw)

-- the line and its tail are then those of the earlier bytes and these bytes
abbrev pub Gathers : (bytes line : List ℕ) (tail : Tail) (longer : List ℕ) (further : Tail) → Type 0
Gathers bytes line tail longer further = (raw : List ℕ) → IsGathered raw line tail → IsGathered (raw ++ bytes) longer further

abbrev pub HasLineFeed : List ℕ → Type 0
HasLineFeed bytes = Contains bytes 10

-- no byte is a line feed
abbrev pub HasNoLineFeed : List ℕ → Type 0
HasNoLineFeed bytes = All (λ byte. byte ≢ 10) bytes

-- the bytes are these, a line feed, and the bytes after it
pub record IsCutAtLineFeed (bytes front others : List ℕ) : Type 0 where
  pub one : HasNoLineFeed front
  pub whole : bytes ≡ front ++ 10 ∷ others

-- the bytes before the first line feed, which is at this place, are added to the line; all bytes if
-- there is none
abbrev pub GathersUpTo : (place : Option ℕ) (bytes line : List ℕ) (tail : Tail) (longer : List ℕ) (further : Tail) → Type 0
GathersUpTo place bytes line tail longer further =
    MatchOption place (HasNoLineFeed bytes × Gathers bytes line tail longer further)
    (λ n. (n < length bytes) × IsCutAtLineFeed bytes (take n bytes) (drop (n + 1) bytes) × Gathers (take n bytes) line tail longer further)

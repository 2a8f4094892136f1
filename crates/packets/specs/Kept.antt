-- The kept fragments of one datagram.
use Rattle.std.specs.Prelude.{ℕ, ◌≡◌, ◌+◌, ◌-◌, ◌&&◌, ◌||◌, ◌==◌, not, Bool, false, nat_lt, if◌then◌else◌, List, [], ◌∷◌, ◌++◌, length, take, drop, map, replicate, get_or, Option, Some, None, is_some}
use Rattle.std.specs.List.{list_all, count_by}
use Rattle.std.specs.Option.{unwrap_or}
use Rattle.packets.specs.declared.datagram.Datagram.{Datagram}
use Rattle.packets.specs.declared.key.FragmentKey.{FragmentKey}
use Rattle.packets.specs.Parts.{FragmentPart, end_of, byte_at, extent, has_last, AreAgreed}

-- the two addresses, the identification and the protocol, which separate a datagram from others
abbrev pub key_of : Datagram → FragmentKey
key_of d = record { source = d.source; destination = d.destination; identification = d.identification; protocol = d.protocol }

abbrev pub same_key : FragmentKey → FragmentKey → Bool
same_key a b = (a.source == b.source) && (a.destination == b.destination) && (a.identification == b.identification) && (a.protocol == b.protocol)

-- the bytes received, each at its place, and whether the last fragment is among them: then the
-- datagram ends where they end
pub record Kept : Type 0 where
  pub key : FragmentKey
  pub has_end : Bool
  pub bytes : List (Option ℕ)

abbrev pub nothing_of : FragmentKey → Kept
nothing_of key = record { key = key; has_end = false; bytes = [] }

-- it is what these fragments make: the byte at each place, and no more
pub record IsMadeOf (parts : List FragmentPart) (kept : Kept) : Type 0 where
  pub ended : kept.has_end ≡ has_last parts
  pub agreed : AreAgreed parts
  pub long : length kept.bytes ≡ extent parts
  pub bytes : (place : ℕ) → get_or kept.bytes place None ≡ byte_at parts place

-- one more fragment goes past an end that is known, or is the last one and ends before another
abbrev pub contradicts : FragmentPart → Kept → Bool
contradicts p kept =
    (kept.has_end && nat_lt (length kept.bytes) (end_of p)) || (p.is_last && nat_lt (end_of p) (length kept.bytes))

-- places up to the number, of which those past the others are empty
abbrev pub grown : ℕ → List (Option ℕ) → List (Option ℕ)
grown size bytes = bytes ++ replicate (size - length bytes) None

-- the bytes at the offset in place of what was there
abbrev pub written : ℕ → List ℕ → List (Option ℕ) → List (Option ℕ)
written offset payload bytes = take offset bytes ++ map (λ b. Some b) payload ++ drop (offset + length payload) bytes

-- with one more fragment
abbrev pub with_part : FragmentPart → Kept → Kept
with_part p kept = record kept { has_end = p.is_last || kept.has_end; bytes = written p.offset p.payload (grown (end_of p) kept.bytes) }

-- the end is known, and no place before it is empty
abbrev pub is_whole : Kept → Bool
is_whole kept = kept.has_end && list_all is_some kept.bytes

abbrev pub payload_of : Kept → List ℕ
payload_of kept = map (λ b. unwrap_or b 0) kept.bytes

-- how it is stored: the bytes, and which of them were received. There may be more bytes than
-- places.
abbrev pub cells : List Bool → List ℕ → List (Option ℕ)
cells [] bytes = []
cells (came ∷ others) [] = []
cells (came ∷ others) (byte ∷ bytes) = (if came then Some byte else None) ∷ cells others bytes

abbrev pub count_missing : List Bool → ℕ
count_missing came = count_by (λ came. not came) came

-- Slots in which entries are found by probing from a home.
use Rattle.std.specs.Prelude.{ℕ, ◌≡◌, ◌≢◌, ◌<◌, ◌≤◌, ◌+◌, ◌-◌, ◌*◌, ◌/◌, ◌^◌, ◌⊎◌, List, length, slice_index, Some, bit_and}
use Rattle.std.specs.List.{slice_get}
use Rattle.ospf_types.specs.Network.{Network, network_word}
use Rattle.ospf_types.specs.declared.hasher.WordHash.{WordHash}
use Rattle.ospf_types.specs.Words.{mixed}
use Rattle.prefix_index.specs.declared.slots.Slots.{Slots}

-- the slot at which the search of a network begins
unfoldable pub home_of : WordHash → ℕ → Network → ℕ
home_of hashing bits p = bit_and (mixed hashing.multiplier hashing.start (network_word p)) (2 ^ bits - 1)

-- the number of a network's entry at the place 0
unfoldable pub base_of : WordHash → ℕ → Network → ℕ
base_of hashing bits p = mixed hashing.multiplier hashing.start (network_word p) / 2 ^ 32 / 2 ^ bits * 2 ^ bits + 2

-- the entry at the place is of the network
pub record HasNetwork {V : Type 0} (entries : List (Network × V)) (i : ℕ) (p : Network) : Type 0 where
  pub value : V
  pub stands : slice_get entries i ≡ Some (p, value)

-- a slot at or after the home has the number, and none from the home to it is empty
pub record IsSlotPlaced (numbers : List ℕ) (home number : ℕ) : Type 0 where
  pub slot : ℕ
  pub after : home ≤ slot
  pub has : slice_index numbers slot ≡ number
  pub filled : (q : ℕ) → home ≤ q → q < slot → slice_index numbers q ≢ 0

-- the slot is free or the end, and none from the home to it is empty
pub record IsFree (numbers : List ℕ) (home slot : ℕ) : Type 0 where
  pub after : home ≤ slot
  pub within : slot ≤ length numbers
  pub free : slice_index numbers slot ≤ 1
  pub filled : (q : ℕ) → home ≤ q → q < slot → slice_index numbers q ≢ 0

-- the search for the network comes to the number of its entry at the place
abbrev pub SearchLeadsTo : WordHash → Slots → Network → ℕ → Type 0
SearchLeadsTo hashing s p i = IsSlotPlaced s.numbers.items (home_of hashing s.bits p) (base_of hashing s.bits p + i)

-- no entry of the network is at a place to whose number the search from the home comes
abbrev pub FindsNothing : {V : Type 0} → List ℕ → (home base : ℕ) → List (Network × V) → Network → Type 0
FindsNothing {V} numbers home base entries p = (i : ℕ) → HasNetwork entries i p → IsSlotPlaced numbers home (base + i) → ⊥

-- the search for the network comes to no entry of it
abbrev pub IsMissing : {V : Type 0} → WordHash → Slots → List (Network × V) → Network → Type 0
IsMissing {V} hashing s entries p = FindsNothing s.numbers.items (home_of hashing s.bits p) (base_of hashing s.bits p) entries p

-- the number belongs to no entry of the network
abbrev pub IsOtherNumber : {V : Type 0} → (number base : ℕ) → List (Network × V) → Network → Type 0
IsOtherNumber {V} number base entries p = (i : ℕ) → HasNetwork entries i p → number ≢ base + i

-- a search that reached another number reaches it
abbrev pub KeepsNumbers : (before after : List ℕ) → (number : ℕ) → Type 0
KeepsNumbers before after number = (h n : ℕ) → n ≢ number → IsSlotPlaced before h n → IsSlotPlaced after h n

-- a slot that had the first number has the second
abbrev pub IsRenumbered : (before after : List ℕ) → (old new : ℕ) → Type 0
IsRenumbered before after old new = (slot : ℕ) × (slice_index before slot ≡ old) × (slice_index after slot ≡ new)

-- a search that reached a number other than that of the network's entry at the place reaches it
abbrev pub KeepsOtherEntries : WordHash → (s t : Slots) → Network → ℕ → Type 0
KeepsOtherEntries hashing s t p i = KeepsNumbers s.numbers.items t.numbers.items (base_of hashing s.bits p + i)

-- the slot of the network's entry at the place is out of use
abbrev pub IsOutOfUse : WordHash → (s t : Slots) → Network → ℕ → Type 0
IsOutOfUse hashing s t p i = IsRenumbered s.numbers.items t.numbers.items (base_of hashing s.bits p + i) 1

-- there is a slot for an entry more, at that many entries
pub record HasFreeSlot (s : Slots) (count : ℕ) : Type 0 where
  pub small : s.bits ≤ 31
  pub room : count + 3 ≤ 2 ^ s.bits
  pub long : 2 ^ s.bits ≤ length s.numbers.items
  pub spare : s.used < 2 ^ s.bits

-- the fewest homes, or fewer than ten for each of this many entries
abbrev pub AreHomesFew : ℕ → ℕ → Type 0
AreHomesFew bits count = (bits ≡ 3) ⊎ (2 ^ bits < 10 * count)

-- homes of this many bits have room for this many entries, and are few
abbrev pub AreBitsFor : (count bits : ℕ) → Type 0
AreBitsFor count bits = (bits ≤ 31) × (3 ≤ bits) × (count + 3 ≤ 2 ^ bits) × AreHomesFew bits count

-- what was found is found, and at most one slot more is in use
pub record IsMore (s t : Slots) : Type 0 where
  pub kept : (h n : ℕ) → 2 ≤ n → IsSlotPlaced s.numbers.items h n → IsSlotPlaced t.numbers.items h n
  pub bits : t.bits ≡ s.bits
  pub used : t.used ≤ s.used + 1
  pub longer : length s.numbers.items ≤ length t.numbers.items
  pub bound : length t.numbers.items + s.used ≤ length s.numbers.items + t.used

-- the slots belong to the entries: each is found, and there are not many more than homes
pub record AreSlotted {V : Type 0} (hashing : WordHash) (entries : List (Network × V)) (s : Slots) : Type 0 where
  pub small : s.bits ≤ 31
  pub room : length entries + 2 ≤ 2 ^ s.bits
  pub placed : (i : ℕ) (p : Network) → HasNetwork entries i p → SearchLeadsTo hashing s p i
  pub used : s.used ≤ 2 ^ s.bits
  pub bound : length s.numbers.items ≤ 2 ^ s.bits + 64 + s.used

-- each network has one entry
abbrev pub IsOnce : {V : Type 0} → List (Network × V) → Type 0
IsOnce es = (i j : ℕ) (p : Network) → HasNetwork es i p → HasNetwork es j p → i ≡ j

-- how the parts of a map belong together
pub record AreSlotsRight {V : Type 0} (hashing : WordHash) (entries : List (Network × V)) (s : Slots) : Type 0 where
  pub once : IsOnce entries
  pub slotted : AreSlotted hashing entries s

-- the slots belong to the entries without the one at the place, whose place the last one has
pub record IsEntryRemoved {V : Type 0} (hashing : WordHash) (entries : List (Network × V)) (i : ℕ) (s t : Slots) : Type 0 where
  pub bits : t.bits ≡ s.bits
  pub used : t.used ≡ s.used
  pub long : length t.numbers.items ≡ length s.numbers.items
  pub others : (q : ℕ) (p : Network) → q ≢ i → q + 1 < length entries → HasNetwork entries q p → SearchLeadsTo hashing t p q
  pub moved : (p : Network) → i + 1 < length entries → HasNetwork entries (length entries - 1) p → SearchLeadsTo hashing t p i

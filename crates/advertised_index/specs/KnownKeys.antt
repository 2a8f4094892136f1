-- Which groups are noted to have a key.
use Rattle.std.specs.Prelude.{◌≡◌, ◌↔◌, ◌⊎◌, List, Contains}
use Rattle.ospf_types.specs.declared.key.Key.{Key}
use Rattle.advertised_index.specs.declared.index_key.IndexKey.{IndexKey}
use Rattle.advertised_index.specs.declared.index_key.IndexKey.TheVariants.{To, By, Forwarded}
use Rattle.advertised_index.specs.declared.known_keys.KnownKeys.{KnownKeys}

-- a group of a destination or of a forwarding address
abbrev pub IsNotable : IndexKey → Type 0
IsNotable (To d) = Unit {0}
IsNotable (By r) = ⊥
IsNotable (Forwarded a) = Unit {0}

abbrev pub IsNoted : KnownKeys → IndexKey → Type 0
IsNoted n (To d) = Contains n.dests.keys d
IsNoted n (By r) = ⊥
IsNoted n (Forwarded a) = Contains n.addresses.keys a

-- no other group is noted now than was before
abbrev pub NotesNoMore : KnownKeys → KnownKeys → Type 0
NotesNoMore old new = (g : IndexKey) → IsNoted new g → IsNoted old g

-- no other group is noted now than was before, and this one
abbrev pub NotesAtMost : IndexKey → KnownKeys → KnownKeys → Type 0
NotesAtMost group old new = (g : IndexKey) → IsNoted new g → IsNoted old g ⊎ (g ≡ group)

-- some key is in the group
abbrev pub HasKey : List (IndexKey × Key) → IndexKey → Type 0
HasKey members g = (k : Key) × Contains members (g, k)

-- just those of these groups are noted that have a key
abbrev pub AreNoted : List (IndexKey × Key) → KnownKeys → Type 0
AreNoted members n = (g : IndexKey) → IsNotable g → IsNoted n g ↔ HasKey members g

-- just those are noted that have a key, but this one may be noted without a key
pub record AreNotedBut (group : IndexKey) (members : List (IndexKey × Key)) (n : KnownKeys) : Type 0 where
  pub all : (g : IndexKey) → IsNotable g → HasKey members g → IsNoted n g
  pub only : (g : IndexKey) → IsNoted n g → HasKey members g ⊎ (g ≡ group)

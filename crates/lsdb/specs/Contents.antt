-- The used part of a database's LSAs (RFC 2328, 13.2), and the rules that hold for every database.
use Rattle.std.specs.Prelude.{ℕ, ◌≡◌, ◌≢◌, ◌↔◌, Bool, false, Option, Some, None, IsSome, Contains, nat_lt, count_by, option_and_then, option_map, if◌then◌else◌}
use Rattle.std.specs.Borrow.{Bor}
use Rattle.std.specs.List.{AllPairs}
use Rattle.std.specs.FinMap.{get, values}
use Rattle.ospf_types.specs.declared.key.Key.{Key}
use Rattle.ospf_types.specs.Lsa.{Lsa, Body, MaxAge, key_of}
use Rattle.lsa_codec.specs.Readers.{with_age}
use Rattle.lsa_codec.specs.Spelling.{IsLegal}
use Rattle.lsdb.specs.Databases.{Database, DatabaseValue, comes_to_max_age}

-- Options and body, if the LSA is used in calculations
abbrev pub contents_of : Lsa → Option (ℕ × Body)
contents_of l = if nat_lt l.header.age MaxAge then Some (l.header.options, l.body) else None

-- Options and body of the LSA under the key, if it is there and used in calculations
abbrev pub used_at : Database → Key → Option (ℕ × Body)
used_at d key = option_and_then contents_of (get d key)

-- the body of the LSA under the key, if it is there and used in calculations
abbrev pub body_at : Database → Key → Option Body
body_at d key = option_map (λ (used : ℕ × Body). used.1) (used_at d key)

-- what is used of the LSA is what is used of the instance that the database has
abbrev pub IsUsedAlike : Database → Lsa → Type 0
IsUsedAlike d l = used_at d (key_of l) ≡ contents_of l

-- the result is false exactly if what is used of the LSA is what is used of the instance that the
-- database has
abbrev pub TellsUseOf : Database → Lsa → (changed : Bool) → Type 0
TellsUseOf d l changed = (changed ≡ false) ↔ IsUsedAlike d l

-- the result is false exactly if no LSA under the key is used
abbrev pub TellsUseAt : Database → Key → (used : Bool) → Type 0
TellsUseAt d key used = (used ≡ false) ↔ (used_at d key ≡ None)

-- the LSA, if there is one, at the age in seconds that is next to it
abbrev pub at_age_beside : Option (Bor Lsa × ℕ) → Option Lsa
at_age_beside held = option_map (λ found. with_age found.0.now found.1) held

-- the result is false exactly if what is used of the LSA is what is used of the instance that is
-- held at this age
abbrev pub TellsUseBeside : (held : Option (Bor Lsa × ℕ)) → Lsa → (changed : Bool) → Type 0
TellsUseBeside held l changed = (changed ≡ false) ↔ (option_and_then contents_of (at_age_beside held) ≡ contents_of l)

-- no LSA comes to MaxAge within a second
abbrev pub NoneComes : Database → Type 0
NoneComes d = count_by comes_to_max_age (values d) ≡ 0

-- each LSA is under its own key and is in the grammar
pub record IsDatabaseSound (d : Database) : Type 0 where
  pub under_own_key : (k : Key) (l : Lsa) → get d k ≡ Some l → k ≡ key_of l
  pub legal : (k : Key) (l : Lsa) → get d k ≡ Some l → IsLegal l

-- each key of the map is in the order, once, and no other key does
pub record IsOrder (d : DatabaseValue) : Type 0 where
  pub there : (k : Key) → Contains d.order k ↔ IsSome (get d.lsas k)
  pub once : AllPairs (λ j k. j ≢ k) d.order

-- Which instances of an LSA are recorded, and which of them is the newest.
use Rattle.std.specs.Prelude.{◌≡◌, ◌==◌, ◌&&◌, ◌||◌, Bool, true, false, not, if◌then◌else◌, List, [], ◌∷◌, Option, None, Some}
use Rattle.std.specs.Map.{lookup}
use Rattle.indexmap.specs.IndexMap.{insert_entry}
use Rattle.ospf_types.specs.Instances.{newer_of}
use Rattle.ospf_types.specs.Lsa.{MaxAge}
use Rattle.ospf_types.specs.declared.key.Key.{Key}
use Rattle.ospf_types.specs.declared.key.Scope.{Scope}
use Rattle.ospf_types.specs.declared.key.Scope.TheVariants.{Area, As}
use Rattle.ospf_types.specs.declared.lsa.Header.{Header}
use Rattle.ospf_types.specs.declared.lsa.Newer.{Newer}
use Rattle.ospf_types.specs.declared.lsa.Newer.TheVariants.{First, Second, Same}
use Rattle.captured_lsas.specs.declared.name.LsaName.{LsaName}

abbrev pub same_scope : Scope → Scope → Bool
same_scope (Area a) (Area b) = a == b
same_scope (Area a) As = false
same_scope As (Area b) = false
same_scope As As = true

abbrev pub same_key : Key → Key → Bool
same_key a b = (a.kind == b.kind) && ((a.id == b.id) && (a.router == b.router))

abbrev pub same_name : LsaName → LsaName → Bool
same_name a b = same_scope a.scope b.scope && same_key a.key b.key

-- ---- the instances of one LSA

-- the instance is at MaxAge (RFC 2328, A.4.1)
abbrev pub is_max_age : Header → Bool
is_max_age h = h.age == MaxAge

abbrev pub is_first : Newer → Bool
is_first First = true
is_first Second = false
is_first Same = false

-- The last one was flushed: it came at MaxAge, and was purged right after that. So the database has
-- none. One below MaxAge is installed whatever its sequence number, which may be the initial one
-- again (RFC 2328, 12.1.6 and 13 (5)).
abbrev pub begins_anew : (new last : Header) → Bool
begins_anew new last = is_max_age last && not (is_max_age new)

-- A router installs an instance that is newer (13.1) than its database copy (13 (5)). It discards
-- the same instance (13 (7)), and an older one (13 (8)).
abbrev pub is_installed : (new last : Header) → Bool
is_installed new last = begins_anew new last || is_first (newer_of new last)

-- the first one is installed (13 (5))
abbrev pub is_discarded : (new : Header) → (last : Option Header) → Bool
is_discarded new None = false
is_discarded new (Some last) = not (is_installed new last)

-- the newest instance, after this one
abbrev pub newest_after : (new : Header) → (last : Option Header) → Header
newest_after new None = new
newest_after new (Some last) = if is_installed new last then new else last

-- the newest one, once these came one after the other
abbrev pub newest_from : (last : Option Header) → List Header → Option Header
newest_from last [] = last
newest_from last (h ∷ hs) = newest_from (Some (newest_after h last)) hs

abbrev pub newest_in : List Header → Option Header
newest_in hs = newest_from None hs

-- ---- the instances of all LSAs

pub record Instance : Type 0 where
  pub name : LsaName
  pub header : Header

-- the newest instance of each LSA
abbrev pub Newest : Type 0
Newest = List (LsaName × Header)

abbrev pub newest_of : LsaName → Newest → Option Header
newest_of name all = lookup (same_name name) all

-- it is discarded
abbrev pub is_old : Instance → Newest → Bool
is_old one all = is_discarded one.header (newest_of one.name all)

-- the newest ones once it came
abbrev pub with_instance : Instance → Newest → Newest
with_instance one all = if is_old one all then all else insert_entry same_name all one.name one.header

-- ---- what the tests tell

pub record IsDiscarded (new last : Header) : Type 0 where
  pub not_newer : newer_of new last ≡ First → ⊥
  pub not_anew : last.age ≡ MaxAge → new.age ≡ MaxAge

abbrev pub IsDiscardedBy : (new : Header) → (last : Option Header) → Type 0
IsDiscardedBy new None = ⊥
IsDiscardedBy new (Some last) = IsDiscarded new last

abbrev pub IsOld : Newest → Instance → Type 0
IsOld all one = IsDiscardedBy one.header (newest_of one.name all)

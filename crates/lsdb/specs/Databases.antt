-- A link-state database as a finite map from key to LSA, each at its present age (RFC 2328, 12 to
-- 14).
use Rattle.std.specs.Prelude.{ℕ, ◌+◌, ◌≡◌, ◌==◌, ◌&&◌, ◌++◌, ◌⊎◌, Bool, true, false, List, [], ◌∷◌, Option, Some, None, map, min, nat_lt, nat_le, is_none, filter, slice_get, if◌then◌else◌}
use Rattle.std.specs.FinMap.{FinMap, from_sorted, entries, get, insert, len}
use Rattle.std.specs.Global.{Vec}
use Rattle.std.specs.List.{filter_map}
use Rattle.std.specs.Ordering.{eq_by_cmp}
use Rattle.indexmap.specs.IndexMap.{swap_remove_by}
use Rattle.ospf_types.specs.FirstOf.{first_of}
use Rattle.ospf_types.specs.declared.key.Key.{Key}
use Rattle.ospf_types.specs.declared.lsa.Newer.{Newer}
use Rattle.ospf_types.specs.declared.lsa.Newer.TheVariants as newer
use Rattle.ospf_types.specs.Instances.{newer_of}
use Rattle.ospf_types.specs.Keys.{key_cmp}
use Rattle.ospf_types.specs.Lsa.{Lsa, MaxAge, key_of}
use Rattle.lsa_codec.specs.Readers.{with_age}
use Rattle.lsdb.specs.declared.refusal.InstallRefusal.{InstallRefusal}
use Rattle.lsdb.specs.declared.refusal.InstallRefusal.TheVariants as install
use Rattle.lsdb.specs.declared.refusal.PurgeRefusal.{PurgeRefusal}
use Rattle.lsdb.specs.declared.refusal.PurgeRefusal.TheVariants as purge

-- LSAs by key
abbrev pub Database : Type 0
Database = FinMap key_cmp Lsa

-- a database as its callers see it
pub record DatabaseValue : Type 0 where
  pub lsas : Database  -- each LSA under its key, at its present age
  pub order : List Key  -- the keys in the order of their rows
  pub limit : ℕ  -- how many LSAs it may hold

-- ---- ageing

-- a second later: no age passes MaxAge
abbrev pub aged : Lsa → Lsa
aged l = with_age l (min (l.header.age + 1) MaxAge)

-- a second later, every LSA of the database
abbrev pub all_aged : Database → Database
all_aged d = from_sorted (map (λ (e : Key × Lsa). (e.0, aged e.1)) (entries d))

-- an LSA that a second brings to MaxAge
abbrev pub comes_to_max_age : Lsa → Bool
comes_to_max_age l = l.header.age + 1 == MaxAge

-- the LSA changed, if the database has it
abbrev pub changed_at : Database → Key → (Lsa → Lsa) → Option Lsa → Database
changed_at d key change None = d
changed_at d key change (Some l) = insert d key (change l)

-- the LSA under the key, if there is one, at MaxAge (premature ageing, RFC 2328, 14.1)
abbrev pub aged_out : Database → Key → Database
aged_out d key = changed_at d key (λ l. with_age l MaxAge) (get d key)

-- ---- an install, and a purge

abbrev pub is_first : Newer → Bool
is_first newer.First = true
is_first newer.Second = false
is_first newer.Same = false

abbrev pub is_same : Newer → Bool
is_same newer.First = false
is_same newer.Second = false
is_same newer.Same = true

-- the instance that is held is newer
abbrev pub is_older_than : Lsa → Option Lsa → Bool
is_older_than lsa None = false
is_older_than lsa (Some held) = is_first (newer_of held.header lsa.header)

-- the instance that is held is the same
abbrev pub is_same_as : Lsa → Option Lsa → Bool
is_same_as lsa None = false
is_same_as lsa (Some held) = is_same (newer_of held.header lsa.header)

-- the LSA has a new key, and as many LSAs are held as may be
abbrev pub is_full_for : Database → ℕ → Lsa → Bool
is_full_for d limit lsa = is_none (get d (key_of lsa)) && nat_le limit (len d)

-- why the LSA is not installed, memory aside: the first that holds
abbrev pub install_refusal_of : Database → ℕ → Lsa → Option InstallRefusal
install_refusal_of d limit lsa = first_of (
    (is_older_than lsa (get d (key_of lsa)), install.Older)
    ∷ (is_same_as lsa (get d (key_of lsa)), install.Same)
    ∷ (is_full_for d limit lsa, install.Full)
    ∷ [])

-- nothing refuses the LSA
abbrev pub IsInstallable : DatabaseValue → Lsa → Type 0
IsInstallable d lsa = install_refusal_of d.lsas d.limit lsa ≡ None

-- the database with the LSA in place of what it has under its key (RFC 2328, 13.2)
abbrev pub with_lsa : Database → Lsa → Database
with_lsa d lsa = insert d (key_of lsa) lsa

-- the refusal is that one, or Memory if there is none
abbrev pub IsInstallRefusal : Database → ℕ → Lsa → InstallRefusal → Type 0
IsInstallRefusal d limit lsa refusal =
    (install_refusal_of d limit lsa ≡ Some refusal) ⊎ ((refusal ≡ install.Memory) × (install_refusal_of d limit lsa ≡ None))

-- why what is held under a key is not purged: nothing is, or it is not at MaxAge
abbrev pub purge_refusal_of : Option Lsa → Option PurgeRefusal
purge_refusal_of None = Some purge.NoLsa
purge_refusal_of (Some l) = if nat_lt l.header.age MaxAge then Some purge.NotMaxAge else None

-- nothing refuses to purge the LSA under the key
abbrev pub IsPurgeable : Database → Key → Type 0
IsPurgeable d key = purge_refusal_of (get d key) ≡ None

-- that is why the LSA under the key is not purged
abbrev pub IsPurgeRefusal : Database → Key → PurgeRefusal → Type 0
IsPurgeRefusal d key refusal = purge_refusal_of (get d key) ≡ Some refusal

-- ---- rows

-- a new key's row comes last, and a key that is there keeps its row
abbrev pub order_with : DatabaseValue → Key → List Key
order_with d key = if is_none (get d.lsas key) then d.order ++ key ∷ [] else d.order

-- the key's row goes, and the last key takes its place
abbrev pub order_without : DatabaseValue → Key → List Key
order_without d key = swap_remove_by (eq_by_cmp key_cmp key) d.order

-- these keys come after those that were there
abbrev pub AddsKeys : (old new : Vec Key) → (found : List Key) → Type 0
AddsKeys old new found = new.items ≡ old.items ++ found

-- the keys of those of the rows that there are
abbrev pub keys_in : DatabaseValue → (rows : List ℕ) → List Key
keys_in d rows = filter_map (slice_get d.order) rows

-- copies of the LSAs under those of the keys that have one, at their present age
abbrev pub lsas_of_keys : Database → List Key → List Lsa
lsas_of_keys d keys = filter_map (get d) keys

-- the age of the LSA under the key
abbrev pub age_of : Option Lsa → ℕ
age_of None = 0
age_of (Some l) = l.header.age

-- the ages, one a row
abbrev pub ages_of : DatabaseValue → List ℕ
ages_of d = map (λ key. age_of (get d.lsas key)) d.order

-- the keys of one Advertising Router, in the order of their rows
abbrev pub keys_by : ℕ → DatabaseValue → List Key
keys_by router d = filter (λ key. key.router == router) d.order

-- the keys of the LSAs of one age, in the order of their rows
abbrev pub keys_aged : ℕ → DatabaseValue → List Key
keys_aged age d = filter (λ key. age_of (get d.lsas key) == age) d.order

-- The columns of a database: entries of key and LSA, and for each its present age, its LS type and
-- its Advertising Router.
use Rattle.std.specs.Prelude.{ℕ, ◌≡◌, ◌<◌, ◌≤◌, ◌^◌, Bool, List, [], ◌∷◌, length, map}
use Rattle.std.specs.FinMap.{from_entries}
use Rattle.std.specs.List.{AllByRecursion, IsDistinct}
use Rattle.std.specs.Map.{keys_of}
use Rattle.std.specs.Ordering.{eq_by_cmp}
use Rattle.ospf_types.specs.declared.key.Key.{Key}
use Rattle.ospf_types.specs.Keys.{key_cmp}
use Rattle.ospf_types.specs.Lsa.{Lsa, key_of}
use Rattle.lsa_codec.specs.Readers.{with_age}
use Rattle.lsa_codec.specs.Spelling.{IsLegal}
use Rattle.lsdb.specs.Databases.{DatabaseValue}

-- each LSA under its key, at its present age
abbrev pub present : List (Key × Lsa) → List ℕ → List (Key × Lsa)
present [] ages = []
present (e ∷ es) [] = []
present (e ∷ es) (age ∷ ages) = (e.0, with_age e.1 age) ∷ present es ages

-- the keys are equal
abbrev pub is_key : Key → Key → Bool
is_key = eq_by_cmp key_cmp

-- the LSA is under its own key and is in the grammar
abbrev pub IsOwn : Key × Lsa → Type 0
IsOwn e = (e.0 ≡ key_of e.1) × IsLegal e.1

-- what the columns have to do with one another
pub record AreColumns (entries : List (Key × Lsa)) (ages kinds routers : List ℕ) (limit : ℕ) : Type 0 where
  pub unique : IsDistinct is_key (keys_of entries)
  pub a_row_each : length ages ≡ length entries
  pub own : AllByRecursion IsOwn (present entries ages)
  pub kinds_are : kinds ≡ map (λ key. key.kind) (keys_of entries)
  pub routers_are : routers ≡ map (λ key. key.router) (keys_of entries)
  pub within : length entries ≤ limit
  pub few : limit < 2 ^ 32

-- the database of the columns
abbrev pub database_of : List (Key × Lsa) → List ℕ → ℕ → DatabaseValue
database_of entries ages limit = record { lsas = from_entries (present entries ages); order = keys_of entries; limit = limit }

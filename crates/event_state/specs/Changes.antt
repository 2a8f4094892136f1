-- A change to one of some databases.
use Rattle.std.specs.Prelude.{ℕ, ◌≡◌, Bool, List, [], ◌∷◌, ◌++◌, map, slice_index_or, slice_set}
use Rattle.std.specs.FinMap.{empty}
use Rattle.ospf_types.specs.declared.config.AreaConfig.{AreaConfig}
use Rattle.ospf_types.specs.declared.key.Key.{Key}
use Rattle.ospf_types.specs.Lsa.{Lsa}
use Rattle.event_state.specs.declared.limits.Limits.{Limits}
use Rattle.lsdb.specs.Contents.{TellsUseAt, TellsUseOf}
use Rattle.lsdb.specs.Databases.{Database, DatabaseValue, IsInstallable, IsPurgeable, all_aged, with_lsa}

-- an empty database, where there is none
abbrev pub no_database : DatabaseValue
no_database = record { lsas = empty; order = []; limit = 0 }

-- the database at the place
abbrev pub database_at : List DatabaseValue → ℕ → DatabaseValue
database_at databases place = slice_index_or databases place no_database

-- the LSAs of each database
abbrev pub lsas_in : List DatabaseValue → List Database
lsas_in databases = map (λ (d : DatabaseValue). d.lsas) databases

-- the limit of each database
abbrev pub limits_in : List DatabaseValue → List ℕ
limits_in databases = map (λ (d : DatabaseValue). d.limit) databases

-- the database at the place is changed so, and all others are unchanged
pub record IsChange (old new : List DatabaseValue) (place : ℕ) (change : Database → Database) : Type 0 where
  pub lsas : lsas_in new ≡ slice_set (lsas_in old) place (change (database_at old place).lsas)
  pub limits : limits_in new ≡ limits_in old

-- the LSA is under its key in the database at the place, and all others are unchanged
abbrev pub PutsLsa : (old new : List DatabaseValue) → (place : ℕ) → Lsa → Type 0
PutsLsa old new place lsa = IsChange old new place (λ d. with_lsa d lsa)

-- nothing refuses the LSA in the database at the place
abbrev pub FitsAt : List DatabaseValue → (place : ℕ) → Lsa → Type 0
FitsAt databases place lsa = IsInstallable (database_at databases place) lsa

-- nothing refuses to purge the LSA under the key from the database at the place
abbrev pub CanBePurgedAt : List DatabaseValue → (place : ℕ) → Key → Type 0
CanBePurgedAt databases place key = IsPurgeable (database_at databases place).lsas key

-- the result is false exactly if what is used of the LSA is what was used of the instance in the
-- database at the place
abbrev pub TellsPutAt : List DatabaseValue → (place : ℕ) → Lsa → (changed : Bool) → Type 0
TellsPutAt databases place lsa changed = TellsUseOf (database_at databases place).lsas lsa changed

-- the result is false exactly if no LSA under the key was used in the database at the place
abbrev pub TellsAgedAt : List DatabaseValue → (place : ℕ) → Key → (changed : Bool) → Type 0
TellsAgedAt databases place key changed = TellsUseAt (database_at databases place).lsas key changed

-- a second later
abbrev pub aged_value : DatabaseValue → DatabaseValue
aged_value d = record d { lsas = all_aged d.lsas }

-- an empty database for each area, and one for the AS
abbrev pub empty_values : List AreaConfig → Limits → List DatabaseValue
empty_values areas limits = map (λ (a : AreaConfig). record { lsas = empty; order = []; limit = limits.area_lsas }) areas ++ record { lsas = empty; order = []; limit = limits.externals } ∷ []

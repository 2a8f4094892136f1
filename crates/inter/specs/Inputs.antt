-- What inter-area routes are calculated from: the LSAs of the examined area, the intra-area routes,
-- and the active ranges.
use Rattle.std.specs.Prelude.{ℕ, Option, option_map}
use Rattle.lsdb.specs.Databases.{Database}
use Rattle.intra.specs.Intras.{IntraValue}
use Rattle.active_ranges.specs.Active.{ActiveValue}

-- the area whose summaries are examined
pub record ExaminedValue : Type 0 where
  pub area : ℕ
  pub lsas : Database

pub record InterInputsValue : Type 0 where
  pub root : ℕ
  pub examined : Option ExaminedValue
  pub intra : IntraValue
  pub active : ActiveValue

-- its Area ID
abbrev pub examined_area : InterInputsValue → Option ℕ
examined_area v = option_map (λ (x : ExaminedValue). x.area) v.examined

-- What external routes are calculated from: the AS-external-LSAs, and the routes inside the AS.
use Rattle.std.specs.Prelude.{ℕ, Bool, List}
use Rattle.lsdb.specs.Databases.{Database}
use Rattle.intra.specs.Intras.{IntraValue}
use Rattle.active_ranges.specs.Active.{ActiveValue}
use Rattle.inter.specs.Inters.{InterValue}

pub record ExternalInputsValue : Type 0 where
  pub root : ℕ
  pub compat : Bool  -- whether RFC1583Compatibility is enabled
  pub areas : List ℕ  -- the Area IDs
  pub lsas : Database
  pub intra : IntraValue
  pub active : ActiveValue
  pub inter : InterValue

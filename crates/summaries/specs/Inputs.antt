-- What due summaries are calculated from: the configuration, the areas that are active, and the
-- routes inside the AS.
use Rattle.std.specs.Prelude.{ℕ, List}
use Rattle.ospf_types.specs.declared.config.AreaConfig.{AreaConfig}
use Rattle.intra.specs.Intras.{IntraValue}
use Rattle.active_ranges.specs.Active.{ActiveValue}
use Rattle.inter.specs.Inters.{InterValue}
use Rattle.external.specs.Externals.{ExternalValue}

pub record SummaryInputsValue : Type 0 where
  pub areas : List AreaConfig
  pub active : List ℕ  -- the Area IDs of those with an interface that is up
  pub intra : IntraValue
  pub ranges : ActiveValue
  pub inter : InterValue
  pub external : ExternalValue

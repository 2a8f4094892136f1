-- By which rules a capture is recorded.
use Rattle.std.specs.Prelude.{ℕ, List, Option}
use Rattle.captured_lsas.specs.declared.options.Options.{Options}

pub record Rules : Type 0 where
  pub options : Options
  pub areas : Option (List ℕ)  -- those of the beginning, if it is given

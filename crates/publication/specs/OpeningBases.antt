-- The base that a history of one entry has.
use Rattle.std.specs.Prelude.{false, List, [], ◌∷◌}
use Rattle.event_state.specs.declared.base.Base.{Base}
use Rattle.event_state.specs.Bases.{bare}

abbrev pub base_in : List Base → Base
base_in [] = bare (record { router = 0; compat = false; areas = [] })
base_in (b ∷ bs) = b

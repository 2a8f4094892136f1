-- The configuration that a capture shows.
use Rattle.std.specs.Prelude.{ℕ, ◌==◌, ◌||◌, Bool, false, nat_lt, List, [], length, map}
use Rattle.ospf_types.specs.declared.config.AreaConfig.{AreaConfig}
use Rattle.ospf_types.specs.declared.config.Config.{Config}
use Rattle.captured_config.specs.Areas.{ascending}
use Rattle.captured_config.specs.Lsas.{Captured}
use Rattle.captured_config.specs.StubAreas.{stub_of}

-- address ranges are not in a capture
abbrev pub area_of : Captured → (area : ℕ) → AreaConfig
area_of c area = record { id = area; stub = stub_of area c.router c.lsas; ranges = [] }

-- with these areas; RFC1583Compatibility is not in a capture, and disabled
abbrev pub config_with : Captured → (ids : List ℕ) → Config
config_with c ids = record { router = c.router; compat = false; areas = map (area_of c) ids }

-- with the areas that were seen, ascending
abbrev pub config_of : Captured → (areas : List ℕ) → Config
config_of c areas = config_with c (ascending areas)

-- no area, or more than 16
abbrev pub has_wrong_count : List ℕ → Bool
has_wrong_count ids = (length ids == 0) || nat_lt 16 (length ids)

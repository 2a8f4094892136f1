-- The text of a page.
use Rattle.std.specs.Prelude.{ℕ, ◌≡◌, ◌++◌, List}
use Rattle.std.specs.FinMap.{entries}
use Rattle.std.specs.List.{AllZip}
use Rattle.calculation.specs.Calculations.{CalculationValue, IsCalculationOf}
use Rattle.event_core.specs.Cores.{CoreValue, state_of}
use Rattle.event_state.specs.States.{State, serial_of}
use Rattle.route_layers.specs.Trees.{areas_with}
use Rattle.page_sections.specs.Areas.{areas_heading_text}
use Rattle.page_sections.specs.Frame.{beginning_text, changes_text, end_text}
use Rattle.page_sections.specs.Ranges.{ranges_text}
use Rattle.page_sections.specs.Routes.{routes_text}
use Rattle.page_sections.specs.Summaries.{summaries_text}
use Rattle.page_replay.specs.declared.pictures.Picture.{Picture}
use Rattle.page_replay.specs.Pictures.{IsPictureOf, areas_text}

-- the areas of a state with their pictures, drawn of the graphs and trees that are calculated from
-- it
pub record AreShown (s : State) (text : List ℕ) : Type 0 where
  pub calculation : CalculationValue
  pub right : IsCalculationOf s calculation
  pub pictures : List Picture
  pub each : AllZip (IsPictureOf s.config.router) (areas_with s s.config.areas calculation.trees) pictures
  pub is : text ≡ areas_text s.config.areas pictures

abbrev pub AddsAreas : State → (old new : List ℕ) → Type 0
AddsAreas s old new = (areas : List ℕ) × AreShown s areas × (new ≡ old ++ areas)

-- the address ranges, the routing table and what is due
abbrev pub tables_text : CoreValue → List ℕ
tables_text c = ranges_text (entries c.table.items) (state_of c).config.areas ++ (routes_text (entries c.table.items) ++ summaries_text c.summaries)

-- all that comes before the last changes
abbrev pub front_text : CoreValue → (areas : List ℕ) → List ℕ
front_text c areas = beginning_text (state_of c).config.router (serial_of (state_of c)) ++ (areas_heading_text ++ (areas ++ tables_text c))

abbrev pub AddsFront : CoreValue → (old new : List ℕ) → Type 0
AddsFront c old new = (areas : List ℕ) × AreShown (state_of c) areas × (new ≡ old ++ front_text c areas)

-- the page shows the core, and the last changes after its tables
pub record IsPage (c : CoreValue) (told text : List ℕ) : Type 0 where
  pub areas : List ℕ
  pub shown : AreShown (state_of c) areas
  pub is : text ≡ front_text c areas ++ (changes_text told ++ end_text)

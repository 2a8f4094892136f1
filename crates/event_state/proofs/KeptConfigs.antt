-- What events leave of a configuration: all but its ranges, and that it has no fault.
use Rattle.std.proofs.Common.{◌≡◌, List, [], ◌∷◌, Option, Some, None, ℕ, refl, ap, ◌∙◌}
use Rattle.std.specs.FinMap.{insert, remove}
use Rattle.ospf_types.specs.declared.config.AreaConfig.{AreaConfig}
use Rattle.ospf_types.specs.Lsa.{key_of}
use Rattle.ospf_types.specs.RangeChanges.{set_range, drop_range, without_ranges}
use Rattle.ospf_types.proofs.RangeChanges.{others_kept}
use Rattle.ospf_types.specs.Configs.{config_fault_of}
use Rattle.lsdb.specs.Databases.{Database, aged_out}
use Rattle.event_state.specs.declared.base.Base.{Base}
use Rattle.event_state.specs.declared.event.Event.{Event}
use Rattle.event_state.specs.declared.event.Event.TheVariants as event
use Rattle.event_state.specs.declared.limits.Limits.{Limits}
use Rattle.event_state.specs.States.{State, place_of, changed_at_place}
use Rattle.event_state.specs.Steps.{IsAccepted, step, opening, run_from, run_of, range_with, AreTaken, IsLegalList}
use Rattle.event_state.proofs.Accepted.{accepted_lasting}
use Rattle.event_state.proofs.SoundRanges.{sound_set, sound_drop}

-- a change to a database leaves the configuration
place_config : (s : State) (change : Database → Database) (o : Option ℕ) → (changed_at_place s change o).config ≡ s.config
place_config s change None = refl
place_config s change (Some k) = refl

-- ---- all but the ranges

pub kept_step : (s : State) (e : Event) → without_ranges (step s e).config ≡ without_ranges s.config
kept_step s (event.Install at l) = ap without_ranges (place_config s (λ d. insert d (key_of l) l) (place_of s.config.areas at))
kept_step s (event.Flush at key) = ap without_ranges (place_config s (λ d. aged_out d key) (place_of s.config.areas at))
kept_step s (event.Purge at key) = ap without_ranges (place_config s (λ d. remove d key) (place_of s.config.areas at))
kept_step s (event.Interface id area address peer up) = refl
kept_step s (event.RangeSet area prefix advertise) = ap (λ (areas : List AreaConfig). record (without_ranges s.config) { areas = areas }) (others_kept s.config.areas area (set_range (range_with prefix advertise)))
kept_step s (event.RangeDrop area prefix) = ap (λ (areas : List AreaConfig). record (without_ranges s.config) { areas = areas }) (others_kept s.config.areas area (drop_range prefix))
kept_step s event.Second = refl

pub kept_run : (s : State) (es : List Event) → without_ranges (run_from s es).config ≡ without_ranges s.config
kept_run s [] = refl
kept_run s (e ∷ es) = kept_run (step s e) es ∙ kept_step s e

-- after any events, all of the base's configuration but its ranges is there
pub kept_since : (b : Base) (limits : Limits) (es : List Event) → without_ranges (run_of b limits es).config ≡ without_ranges b.config
kept_since b limits es = kept_run (opening b limits) es

-- ---- that there is no fault

pub sound_step : (s : State) (e : Event) → config_fault_of s.config ≡ None → IsAccepted s e → config_fault_of (step s e).config ≡ None
sound_step s (event.Install at l) sound taken = ap config_fault_of (place_config s (λ d. insert d (key_of l) l) (place_of s.config.areas at)) ∙ sound
sound_step s (event.Flush at key) sound taken = ap config_fault_of (place_config s (λ d. aged_out d key) (place_of s.config.areas at)) ∙ sound
sound_step s (event.Purge at key) sound taken = ap config_fault_of (place_config s (λ d. remove d key) (place_of s.config.areas at)) ∙ sound
sound_step s (event.Interface id area address peer up) sound taken = sound
sound_step s (event.RangeSet area prefix advertise) sound taken = sound_set s.config.areas area (range_with prefix advertise) sound taken.clear taken.few
sound_step s (event.RangeDrop area prefix) sound taken = sound_drop s.config.areas area prefix sound
sound_step s event.Second sound taken = sound

pub sound_run : (s : State) (es : List Event) → config_fault_of s.config ≡ None → AreTaken s es → config_fault_of (run_from s es).config ≡ None
sound_run s [] sound taken = sound
sound_run s (e ∷ es) sound taken = sound_run (step s e) es (sound_step s e sound (accepted_lasting s e taken.0)) taken.1

-- after a legal list the configuration has no fault where that of the base has none
pub sound_since : (b : Base) (limits : Limits) (es : List Event) → config_fault_of b.config ≡ None → IsLegalList b limits es → config_fault_of (run_of b limits es).config ≡ None
sound_since b limits es sound legal = sound_run (opening b limits) es sound legal

-- The due summaries of the areas, by the kept results of a state.
use Rattle.std.specs.Prelude.{ℕ, ◌≡◌, List, Contains, Option}
use Rattle.std.specs.FinMap.{get}
use Rattle.ospf_types.specs.Address.{Covers}
use Rattle.ospf_types.specs.RangeChanges.{without_ranges}
use Rattle.ospf_types.specs.declared.key.Dest.{Dest}
use Rattle.ospf_types.specs.declared.key.Dest.TheVariants.{Net, Router}
use Rattle.ospf_types.specs.declared.prefix.Prefix.{Prefix}
use Rattle.active_ranges.specs.Active.{IsRangeNamed, RangesDifferAt}
use Rattle.active_ranges.specs.declared.member.RangeMember.{RangeMember}
use Rattle.summaries.specs.DueSummaries.{DueSummariesValue, AreSummariesOf}
use Rattle.summaries.specs.Inputs.{SummaryInputsValue}
use Rattle.event_state.specs.States.{State}
use Rattle.calculation.specs.Calculations.{CalculationValue}
use Rattle.route_layers.specs.Layers.{AreActive}

-- what is due is calculated from this
abbrev pub summary_inputs : State → List ℕ → CalculationValue → SummaryInputsValue
summary_inputs s active c = record { areas = s.config.areas; active = active; intra = c.intra; ranges = c.active; inter = c.inter; external = c.external }

-- it is what is due by what is kept
abbrev pub AreSummariesFor : State → CalculationValue → DueSummariesValue → Type 0
AreSummariesFor s c w = (active : List ℕ) × AreActive s active × AreSummariesOf (summary_inputs s active c) w

-- the routes that summaries advertise differ in no more than is named
pub record RoutesDifferAmong (dests : List Dest) (old new : CalculationValue) : Type 0 where
  pub intra : (p : Prefix) → (Contains dests (Net p) → ⊥) → get new.intra.entries p ≡ get old.intra.entries p
  pub members : (m : RangeMember) → (Contains dests (Net m.network) → Covers m.range m.network → ⊥) → get new.active.members m ≡ get old.active.members m
  pub inter : (p : Prefix) → (Contains dests (Net p) → ⊥) → get new.inter.entries (Net p) ≡ get old.inter.entries (Net p)
  pub preferred : (r : ℕ) → (Contains dests (Router r) → ⊥) → get new.external.preferred r ≡ get old.external.preferred r

-- what is due rests on routes that differ in no more than is named, and on a configuration of which
-- one range may differ, which is named whole
pub record SummariesDifferAmong (dests : List Dest) (before after : State) (old new : CalculationValue) : Type 0 where
  pub areas : without_ranges after.config ≡ without_ranges before.config
  pub range : Option (ℕ × Prefix)
  pub ranges : RangesDifferAt range before.config.areas after.config.areas
  pub whole : IsRangeNamed range dests old.intra.entries
  pub routes : RoutesDifferAmong dests old new

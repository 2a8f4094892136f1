-- The results that a core keeps of its parts.
use Rattle.std.specs.Prelude.{ℕ, ◌≡◌, ◌≤◌, Bool, true, length}
use Rattle.vertex_graph.specs.Graphs.{max_routers}
use Rattle.summaries.specs.DueSummaries.{lists_of}
use Rattle.event_state.specs.States.{State}
use Rattle.event_state.specs.Rolls.{IsBaseOf}
use Rattle.event_state.specs.Steps.{opening, run_of}
use Rattle.event_core.specs.Cores.{CoreValue, IsCore}
use Rattle.event_core.specs.Following.{RoutesValue, AreRoutesOf}

abbrev pub core_of : State → RoutesValue → ℕ → CoreValue
core_of s r built = record { base = s.base; limits = s.limits; journal = s.journal; built = built; table = r.table; summaries = lists_of r.summaries; work = r.work; changes = r.changes; due_changes = r.due_changes }

-- databases and interfaces belong to the run of the journal; and where table and due summaries
-- belong to all of it, so does what is kept
pub record IsCoherent (s : State) (r : RoutesValue) (built : ℕ) : Type 0 where
  pub run : s ≡ run_of s.base s.limits s.journal
  pub core : IsCore (core_of s r built)
  pub fresh : built ≡ length s.journal → AreRoutesOf s r
  pub few : s.limits.area_lsas ≤ max_routers

-- a base from a roll is the state that it opens: ranges, serial, interfaces, and each LSA in the
-- order in which they are listed
abbrev pub IsBaseItself : Bool → State → Type 0
IsBaseItself rolled s = rolled ≡ true → IsBaseOf (opening s.base s.limits) s.base

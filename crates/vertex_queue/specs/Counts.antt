-- The work that is counted.
use Rattle.std.specs.Prelude.{ℕ}
use Rattle.vertex_queue.specs.declared.touched.Touched.{Touched}

-- the work where this many vertices were taken
abbrev pub with_taken : Touched → ℕ → Touched
with_taken touched count = record { taken = count; hop_sets = touched.hop_sets }

-- the work where this many sets of next hops were written
abbrev pub with_hop_sets : Touched → ℕ → Touched
with_hop_sets touched count = record { taken = touched.taken; hop_sets = count }

-- no work
abbrev pub no_work : Touched
no_work = record { taken = 0; hop_sets = 0 }

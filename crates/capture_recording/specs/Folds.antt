-- The results of all packets of a capture: the counts, the areas, and the facts about a router.
use Rattle.std.specs.Prelude.{ℕ, List, [], Option, None, Some}
use Rattle.std.specs.List.{fold}
use Rattle.captured_lsas.specs.declared.recorded.Recorded.{Recorded}
use Rattle.captured_lsas.specs.declared.recorded.Recorded.TheVariants as recorded
use Rattle.captured_lsas.specs.declared.taken.Taken.{Taken}
use Rattle.captured_lsas.specs.declared.taken.Taken.TheVariants as taken
use Rattle.capture_recording.specs.declared.counts.Counts.{Counts}
use Rattle.capture_recording.specs.Counts.{with_heard, with_taken}
use Rattle.captured_config.specs.Areas.{with_area}
use Rattle.captured_config.specs.Lsas.{Captured, with_lsa}
use Rattle.capture_recording.specs.Steps.{PacketStep}

-- ---- how much was found

abbrev pub none_counted : Counts
none_counted = record { packets = 0; updates = 0; lsas = 0; repeated = 0; faults = 0; seconds = 0 }

abbrev pub with_some_counted : Counts → Option Taken → Counts
with_some_counted c None = c
with_some_counted c (Some taken) = with_taken c taken

abbrev pub with_step_counted : Counts → PacketStep → Counts
with_step_counted c step = with_some_counted (with_heard c step.heard) step.taken

abbrev pub counts_of : List PacketStep → Counts
counts_of steps = fold with_step_counted none_counted steps

-- ---- which areas

-- the area of a packet without a fault
abbrev pub with_taken_area : List ℕ → Taken → List ℕ
with_taken_area areas (taken.Packet kind router area back seconds all) = with_area areas area
with_taken_area areas (taken.Fault fault) = areas

abbrev pub with_some_area : List ℕ → Option Taken → List ℕ
with_some_area areas None = areas
with_some_area areas (Some taken) = with_taken_area areas taken

abbrev pub with_step_area : List ℕ → PacketStep → List ℕ
with_step_area areas step = with_some_area areas step.taken

-- without duplicates, in the order in which they were first seen
abbrev pub areas_of : List PacketStep → List ℕ
areas_of steps = fold with_step_area [] steps

-- ---- what is known of a router

-- an LSA that is installed
abbrev pub with_installed : (area : ℕ) → Captured → Recorded → Captured
with_installed area c (recorded.Install scope lsa purges) = with_lsa c area lsa
with_installed area c recorded.Repeated = c
with_installed area c (recorded.OtherArea of is_first) = c
with_installed area c (recorded.Fault fault) = c
with_installed area c (recorded.Cut fault) = c

abbrev pub with_taken_lsas : Captured → Taken → Captured
with_taken_lsas c (taken.Packet kind router area back seconds all) = fold (with_installed area) c all.items
with_taken_lsas c (taken.Fault fault) = c

abbrev pub with_some_lsas : Captured → Option Taken → Captured
with_some_lsas c None = c
with_some_lsas c (Some taken) = with_taken_lsas c taken

abbrev pub with_step_lsas : Captured → PacketStep → Captured
with_step_lsas c step = with_some_lsas c step.taken

-- the router with the Router ID, by the LSAs of the capture
abbrev pub captured_of : (router : ℕ) → List PacketStep → Captured
captured_of router steps = fold with_step_lsas (record { router = router; lsas = [] }) steps

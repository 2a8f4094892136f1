-- The contents of a capture, in numbers.
use Rattle.std.specs.Prelude.{ℕ, ◌+◌, ◌-◌, ◌^◌, ◌++◌, ◌==◌, Bool, true, false, min, if◌then◌else◌, List, count_by, codes, decimal}
use Rattle.packets.specs.declared.kind.PacketKind.{PacketKind}
use Rattle.packets.specs.declared.kind.PacketKind.TheVariants as kind_is
use Rattle.captured_lsas.specs.declared.heard.Heard.{Heard}
use Rattle.captured_lsas.specs.declared.heard.Heard.TheVariants as heard
use Rattle.captured_lsas.specs.declared.recorded.Recorded.{Recorded}
use Rattle.captured_lsas.specs.declared.recorded.Recorded.TheVariants as recorded
use Rattle.captured_lsas.specs.declared.taken.Taken.{Taken}
use Rattle.captured_lsas.specs.declared.taken.Taken.TheVariants as taken
use Rattle.capture_recording.specs.declared.counts.Counts.{Counts}
use Rattle.capture_recording.specs.Seconds.{recorded_of}

-- ---- what is counted

-- a number counts no further than 64 bits go
abbrev pub added : ℕ → ℕ → ℕ
added number more = min (number + more) (2 ^ 64 - 1)

-- a captured packet of OSPF
abbrev pub with_packet : Counts → Counts
with_packet c = record c { packets = added c.packets 1 }

abbrev pub with_fault : Counts → Counts
with_fault c = record c { faults = added c.faults 1 }

abbrev pub with_heard : Counts → Heard → Counts
with_heard c heard.Other = c
with_heard c (heard.Fault fault) = with_fault (with_packet c)
with_heard c heard.Part = with_packet c
with_heard c (heard.Whole sender payload) = with_packet c

abbrev pub is_installed : Recorded → Bool
is_installed (recorded.Install scope lsa purges) = true
is_installed recorded.Repeated = false
is_installed (recorded.OtherArea area is_first) = false
is_installed (recorded.Fault fault) = false
is_installed (recorded.Cut fault) = false

abbrev pub is_repeated : Recorded → Bool
is_repeated (recorded.Install scope lsa purges) = false
is_repeated recorded.Repeated = true
is_repeated (recorded.OtherArea area is_first) = false
is_repeated (recorded.Fault fault) = false
is_repeated (recorded.Cut fault) = false

abbrev pub is_fault : Recorded → Bool
is_fault (recorded.Install scope lsa purges) = false
is_fault recorded.Repeated = false
is_fault (recorded.OtherArea area is_first) = false
is_fault (recorded.Fault fault) = true
is_fault (recorded.Cut fault) = true

-- one for a Link State Update (RFC 2328, A.3.5)
abbrev pub updates_of : PacketKind → ℕ
updates_of kind_is.Hello = 0
updates_of kind_is.DatabaseDescription = 0
updates_of kind_is.LinkStateRequest = 0
updates_of kind_is.LinkStateUpdate = 1
updates_of kind_is.LinkStateAcknowledgment = 0

abbrev pub with_kind : Counts → PacketKind → Counts
with_kind c kind = record c { updates = added c.updates (updates_of kind) }

-- the LSAs of an update
abbrev pub with_recorded : Counts → List Recorded → Counts
with_recorded c all = record c {
  lsas = added c.lsas (count_by is_installed all);
  repeated = added c.repeated (count_by is_repeated all);
  faults = added c.faults (count_by is_fault all);
}

-- the seconds that are recorded
abbrev pub with_seconds : Counts → ℕ → Counts
with_seconds c seconds = record c { seconds = added c.seconds (recorded_of seconds) }

abbrev pub with_taken : Counts → Taken → Counts
with_taken c (taken.Packet kind router area back seconds all) = with_seconds (with_recorded (with_kind c kind) all.items) seconds
with_taken c (taken.Fault fault) = with_fault c

-- ---- what is printed of them

-- a number, and the word for one or for several
abbrev pub counted : (number : ℕ) (one several : List ℕ) → List ℕ
counted number one several = decimal number ++ codes " " ++ (if number == 1 then one else several)

abbrev pub found_text : Counts → List ℕ
found_text c =
    counted c.packets (codes "packet") (codes "packets") ++ codes ", " ++ counted c.updates (codes "update") (codes "updates") ++ codes ", " ++ counted c.lsas (codes "LSA") (codes "LSAs")
    ++ codes ", " ++ counted c.repeated (codes "repeated") (codes "repeated") ++ codes ", " ++ counted c.faults (codes "fault") (codes "faults")

abbrev pub counts_line : Counts → (areas : ℕ) → List ℕ
counts_line c areas =
    codes "abr: " ++ found_text c ++ codes ", " ++ counted areas (codes "area") (codes "areas") ++ codes ", " ++ counted c.seconds (codes "second") (codes "seconds") ++ codes "\n"

-- The number of seconds that are recorded before a packet.
use Rattle.std.specs.Prelude.{ℕ, ◌+◌, ◌-◌, ◌/◌, ◌%◌, ◌^◌, ◌||◌, not, min, Bool, if◌then◌else◌, Option, Some, None}
use Rattle.captured_lsas.specs.Progress.{CaptureProgress}

-- the time that passes from one packet to the next, in nanoseconds; 0 if the next has the time of
-- an earlier one, or one is not known
abbrev pub passed : Option ℕ → Option ℕ → ℕ
passed (Some last) (Some time) = time - last
passed (Some last) None = 0
passed None time = 0

-- the time that passed since the last second that was given; no more than 64 bits hold
abbrev pub waiting_at : CaptureProgress → Option ℕ → ℕ
waiting_at p time = min (p.waiting + passed p.last_time time) (2 ^ 64 - 1)

-- no seconds are given before the first LSA
abbrev pub is_without_seconds : CaptureProgress → Bool
is_without_seconds p = p.options.without_seconds || not p.has_begun

-- the whole seconds that passed and were not given
abbrev pub seconds_due : CaptureProgress → Option ℕ → ℕ
seconds_due p time = if is_without_seconds p then 0 else waiting_at p time / 1000000000

-- the rest of it
abbrev pub left_waiting : CaptureProgress → Option ℕ → ℕ
left_waiting p time = if is_without_seconds p then waiting_at p time else waiting_at p time % 1000000000

-- the number of whole seconds by which the time is before the time of the last packet, from which
-- seconds would be counted
abbrev pub seconds_back : CaptureProgress → Option ℕ → ℕ
seconds_back p time = if p.options.without_seconds then 0 else passed time p.last_time / 1000000000

-- a packet without a time leaves the last one
abbrev pub latest : Option ℕ → Option ℕ → Option ℕ
latest last None = last
latest last (Some time) = Some time

abbrev pub with_time : CaptureProgress → Option ℕ → CaptureProgress
with_time p time = record p { last_time = latest p.last_time time; waiting = left_waiting p time }

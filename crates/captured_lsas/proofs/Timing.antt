-- The time that passes is given as seconds, or waits for that.
use Rattle.std.proofs.Common.{◌≡◌, ◌∙◌, ℕ, ◌+◌, ◌-◌, ◌*◌, ◌/◌, ◌%◌, ◌^◌, ◌<◌, Bool, true, false, cond, List, [], ◌∷◌, ◌++◌, Option, Some, None, Ok, Err, refl, ap, arith, min}
use Rattle.std.specs.Prelude.{is_none}
use Rattle.lsa_codec.specs.Faults.{fault_of}
use Rattle.lsa_codec.specs.declared.fault.WireFault.{WireFault}
use Rattle.packets.specs.Packets.{packet_fault_of, area_field}
use Rattle.packets.specs.Updates.{UpdatePiece}
use Rattle.captured_lsas.specs.Progress.{CaptureProgress}
use Rattle.captured_lsas.specs.Recording.{has_lsa, instance_in, with_noted, with_strange, with_read_lsa}
use Rattle.captured_lsas.specs.Seconds.{passed, waiting_at, is_without_seconds, seconds_due, latest, with_time}
use Rattle.captured_lsas.specs.Updates.{with_piece, with_pieces}
use Rattle.captured_lsas.specs.Packets.{pieces_of_packet, with_read_packet, unless_faulty}
use Rattle.captured_lsas.specs.History.{CapturedPayload, after_all, some_time, times_of, passed_behind, seconds_given}

-- the LSAs of a packet take no time
record Stays (p q : CaptureProgress) : Type 0 where
  pub last : q.last_time ≡ p.last_time
  pub waiting : q.waiting ≡ p.waiting

stays : (p : CaptureProgress) → Stays p p
stays p = record { last = refl; waiting = refl }

stays_by : (p : CaptureProgress) (area : ℕ) (bytes : List ℕ) (has : Bool) → Stays p (cond has (with_noted p (instance_in area bytes)) (with_strange p area))
stays_by p area bytes true = record { last = refl; waiting = refl }
stays_by p area bytes false = record { last = refl; waiting = refl }

bytes_stay : (p : CaptureProgress) (area : ℕ) (bytes : List ℕ) (o : Option WireFault) → Stays p (cond (is_none o) (with_read_lsa p area bytes) p)
bytes_stay p area bytes None = stays_by p area bytes (has_lsa p.areas area bytes)
bytes_stay p area bytes (Some fault) = stays p

piece_stays : (p : CaptureProgress) (area : ℕ) (piece : UpdatePiece) → Stays p (with_piece p area piece)
piece_stays p area (Ok bytes) = bytes_stay p area bytes (fault_of bytes)
piece_stays p area (Err fault) = stays p

pieces_stay : (p : CaptureProgress) (area : ℕ) (pieces : List UpdatePiece) → Stays p (with_pieces p area pieces)
unfolding with_pieces
pieces_stay p area [] = stays p
pieces_stay p area (x ∷ xs) =
    let first = piece_stays p area x in
    let rest = pieces_stay (with_piece p area x) area xs in
    record { last = rest.last ∙ first.last; waiting = rest.waiting ∙ first.waiting }

-- ---- one packet

-- the time that waits is given, or waits on
given_or_left : (without : Bool) (w : ℕ) → 1000000000 * cond without 0 (w / 1000000000) + cond without w (w % 1000000000) ≡ w
given_or_left true w = omega arith
given_or_left false w = omega arith

all_waits : (a b : ℕ) → a + b < 2 ^ 64 → min (a + b) (2 ^ 64 - 1) ≡ a + b
all_waits a b small = omega arith

-- the time of a packet, if it has one
passed_one : (p : CaptureProgress) (time : Option ℕ) (times : List ℕ)
    → passed_behind p.last_time (some_time time ++ times) ≡ passed p.last_time time + passed_behind (latest p.last_time time) times
passed_one p (Some time) times = refl
passed_one p None times = none p.last_time
  where
    none : (last : Option ℕ) → passed_behind last times ≡ passed last None + passed_behind last times
    none None = omega arith
    none (Some last) = omega arith

taken : (p : CaptureProgress) (time : Option ℕ) → p.waiting + passed p.last_time time < 2 ^ 64
    → 1000000000 * seconds_due p time + (with_time p time).waiting ≡ p.waiting + passed p.last_time time
taken p time small = given_or_left (is_without_seconds p) (waiting_at p time) ∙ all_waits p.waiting (passed p.last_time time) small

-- ---- all packets

pub timed : (p : CaptureProgress) (packets : List CapturedPayload) → p.waiting + passed_behind p.last_time (times_of packets) < 2 ^ 64
    → 1000000000 * seconds_given p packets + (after_all p packets).waiting ≡ p.waiting + passed_behind p.last_time (times_of packets)
unfolding after_all seconds_given
timed p [] small = omega arith
timed p (x ∷ xs) small =
    elim (packet_fault_of x.payload) as (λ o. p.waiting + passed_behind p.last_time (cond (is_none o) (some_time x.time) [] ++ times_of xs) < 2 ^ 64
    → 1000000000 * (cond (is_none o) (seconds_due p x.time) 0 + seconds_given (unless_faulty o p (with_read_packet p x.time x.payload)) xs) + (after_all (unless_faulty o p (with_read_packet p x.time x.payload)) xs).waiting
    ≡ p.waiting + passed_behind p.last_time (cond (is_none o) (some_time x.time) [] ++ times_of xs)) [
      | None ↦ λ within.
          let q = with_read_packet p x.time x.payload in
          let stay = pieces_stay (with_time p x.time) (area_field x.payload) (pieces_of_packet x.payload) in
          let one = passed_one p x.time (times_of xs) in
          let same : passed_behind q.last_time (times_of xs) ≡ passed_behind (latest p.last_time x.time) (times_of xs) = ap (λ (last : Option ℕ). passed_behind last (times_of xs)) stay.last in
          let waits : q.waiting ≡ (with_time p x.time).waiting = stay.waiting in
          let due = taken p x.time (omega (arith, one, within)) in
          let rest = timed q xs (omega (arith, one, within, due, waits, same)) in
          omega (arith, one, due, waits, same, rest)
      | Some fault ↦ λ within. let rest = timed p xs within in omega (arith, rest)
    ] small

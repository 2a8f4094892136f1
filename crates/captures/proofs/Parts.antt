-- A part that is in front of what is pending.
use Rattle.std.proofs.Common.{append-nil, ℕ, zero, suc, ◌≡◌, ◌^◌, ◌<◌, ◌≤◌, true, false, List, [], ◌∷◌, ◌++◌, length, drop, Option, Ok, Err, refl, sym, ap, subst, ◌∙◌, arith, length-append}
use Rattle.std.specs.Prelude.{if◌then◌else◌, ◌==◌, ◌&&◌}
use Rattle.std.proofs.lemmas.Bool.{le-ltb, lt-ltb}
use Rattle.std.proofs.KnownBytes.{Consumes-nil}
use Rattle.captures.specs.declared.capture.Part.{Part}
use Rattle.captures.specs.declared.capture.CapturedPacket.{CapturedPacket}
use Rattle.captures.specs.declared.fault.FaultKind.{FaultKind}
use Rattle.captures.specs.Fronts.{IsSettledBy}
use Rattle.captures.specs.Reading.{CaptureState, front_of, IsPart, IsSteady, state_behind, has_begun}
use Rattle.captures.specs.Runs.{Whole, CutOff, Faulty, PacketRun, ends_by, with_front, go_on, go_past, run, size_of, shown_of}
use Rattle.captures.specs.Positions.{IsFaulty, Position, IsPacketRun, run_behind, GoesOn, shown_packet}
use Rattle.captures.proofs.Fronts.{IsShownBy, front_shown}
use Rattle.captures.proofs.Going.{part_run}

-- the size of a part that is skipped
skip_size : (n : ℕ) (bytes : List ℕ) (front : _) → IsPart front bytes (Part.Skip n) → size_of front ≡ n
skip_size n bytes front is = grind arith

skip_shown : (n : ℕ) (bytes all : List ℕ) (front : _) → IsPart front bytes (Part.Skip n) → shown_of front all ≡ []
skip_shown n bytes all front is = grind arith

skip_past : (n : ℕ) (bytes all : List ℕ) (front : _) (s : CaptureState) (next : CaptureState → List ℕ → PacketRun) → IsPart front bytes (Part.Skip n) → go_on (Ok front) s all next ≡ go_past front s all next
skip_past n bytes all front s next is = grind arith

skip_settled : (n count : ℕ) (bytes : List ℕ) (front : _) → IsPart front bytes (Part.Skip n) → IsSettledBy count (Ok front)
skip_settled n count bytes front is = grind arith

-- a packet
packet_size : (n : ℕ) (packet : CapturedPacket) (bytes : List ℕ) (front : _) → IsPart front bytes (Part.Packet packet n) → size_of front ≡ n
packet_size n packet bytes front is = grind arith

packet_shown : (n : ℕ) (packet : CapturedPacket) (bytes : List ℕ) (front : _) → IsPart front bytes (Part.Packet packet n) → shown_of front bytes ≡ shown_packet packet ∷ []
packet_shown n packet bytes front is = grind arith

packet_past : (n : ℕ) (packet : CapturedPacket) (bytes all : List ℕ) (front : _) (s : CaptureState) (next : CaptureState → List ℕ → PacketRun) → IsPart front bytes (Part.Packet packet n) → go_on (Ok front) s all next ≡ go_past front s all next
packet_past n packet bytes all front s next is = grind arith

packet_settled : (n count : ℕ) (packet : CapturedPacket) (bytes : List ℕ) (front : _) → IsPart front bytes (Part.Packet packet n) → IsSettledBy count (Ok front)
packet_settled n count packet bytes front is = grind arith

pub packet_state : (n : ℕ) (packet : CapturedPacket) (bytes : List ℕ) (front : _) (s : CaptureState) → IsPart front bytes (Part.Packet packet n) → state_behind front s ≡ s
packet_state n packet bytes front s is = grind arith

-- less than a whole part
short_end : (n : ℕ) (bytes : List ℕ) (front : _) (s : CaptureState) (next : CaptureState → List ℕ → PacketRun) → IsPart front bytes (Part.More n)
    → go_on (Ok front) s bytes next ≡ ends_by (if has_begun s && (length bytes == 0) then Whole else CutOff)
short_end n bytes front s next is = grind arith

pub short_state : (n : ℕ) (bytes : List ℕ) (front : _) (s : CaptureState) → IsPart front bytes (Part.More n) → state_behind front s ≡ s
short_state n bytes front s is = grind arith

abbrev at : CaptureState → ℕ → List ℕ → ℕ → Position
at s ahead pending place = record { state = s; ahead = ahead; pending = pending; place = place }

nothing_ahead : (limit : ℕ) (s : CaptureState) (bytes : List ℕ) → run_behind 0 limit s bytes ≡ run limit s bytes
nothing_ahead limit s bytes = ap (λ b. if b then ends_by CutOff else run limit s bytes) (le-ltb (length bytes) 0 (omega arith))

fault_run : (s : CaptureState) (kind : FaultKind) (limit : ℕ) (all : List ℕ) → front_of s all ≡ Err kind → length all < limit → run limit s all ≡ ends_by (Faulty kind)
unfolding run
fault_run s kind zero all fault enough = absurd (omega (arith, enough))
fault_run s kind (suc m) all fault enough = ap (λ f. go_on f s all (λ t rest. run m t rest)) fault

-- a part lies ahead, of which these packets are shown
module _ (s : CaptureState) (pending : List ℕ) (place : ℕ) (left : Option (List ℕ)) (small : place < 2 ^ 64) (steady : IsSteady s pending) where
  -- the item is there whatever follows
  stays : (front : _) → front_of s pending ≡ Ok front → ((count : ℕ) → IsSettledBy count (Ok front)) → (more : List ℕ) → front_of s (pending ++ more) ≡ Ok front
  stays front is settled more = steady more (subst (IsSettledBy (length (pending ++ more))) (sym is) (settled (length (pending ++ more)))) ∙ is

  -- its packet too
  shows : (front : _) → front_of s pending ≡ Ok front → (more : List ℕ) → shown_of front (pending ++ more) ≡ shown_of front pending
  shows front is more = (subst (IsShownBy shown_of pending) is (front_shown s pending)).same more

  pub skipped : (t : CaptureState) (n : ℕ) (front : _) → front_of s pending ≡ Ok front → IsPart front pending (Part.Skip n) → 0 < n → t ≡ state_behind front s
      → GoesOn (at s 0 pending place) left (at t n pending place) left []
  skipped t n front is part some behind =
      let size = skip_size n pending front part in
      record {
        read = [];
        past = [];
        taken = Consumes-nil left;
        whole = sym (append-nil pending);
        place = omega arith;
        run = λ more r next limit enough.
            let all = pending ++ more in
            let none = skip_shown n pending all front part in
            let same : (limit : ℕ) → length (drop (size_of front) all) < limit → run_behind (size_of front) limit (state_behind front s) all ≡ r = λ m less.
            ap (λ k. run_behind k m (state_behind front s) all) size ∙ ap (λ u. run_behind n m u all) (sym behind) ∙ next m (subst (λ k. length (drop k all) < m) size less) in
            nothing_ahead limit s all ∙ part_run s all front r (stays front is (λ count. skip_settled n count pending front part) more) (subst (λ k. 0 < k) (sym size) some)
            (λ next. skip_past n pending all front s next part) (λ _. none) same limit enough
            ∙ ap (λ shown. with_front shown r) none;
      }

  pub handed : (t : CaptureState) (n : ℕ) (packet : CapturedPacket) (front : _) → front_of s pending ≡ Ok front → IsPart front pending (Part.Packet packet n) → 0 < n → n ≤ length pending → t ≡ state_behind front s
      → GoesOn (at s 0 pending place) left (at t n pending place) left (shown_packet packet ∷ [])
  handed t n packet front is part some within behind =
      let size = packet_size n packet pending front part in
      record {
        read = [];
        past = [];
        taken = Consumes-nil left;
        whole = sym (append-nil pending);
        place = omega arith;
        run = λ more r next limit enough.
            let all = pending ++ more in
            let shown = shows front is more ∙ packet_shown n packet pending front part in
            let same : (limit : ℕ) → length (drop (size_of front) all) < limit → run_behind (size_of front) limit (state_behind front s) all ≡ r = λ m less.
            ap (λ k. run_behind k m (state_behind front s) all) size ∙ ap (λ u. run_behind n m u all) (sym behind) ∙ next m (subst (λ k. length (drop k all) < m) size less) in
            nothing_ahead limit s all ∙ part_run s all front r (stays front is (λ count. packet_settled n count packet pending front part) more) (subst (λ k. 0 < k) (sym size) some)
            (λ next. packet_past n packet pending all front s next part) (λ short. absurd (omega (arith, short, size, within, length-append pending more))) same limit enough
            ∙ ap (λ shown. with_front shown r) shown;
      }

  -- the bytes have a fault
  pub at_fault : (kind : FaultKind) → front_of s pending ≡ Err kind → IsFaulty (at s 0 pending place) kind place
  at_fault kind is = record {
    run = λ more limit enough.
        nothing_ahead limit s (pending ++ more) ∙ fault_run s kind limit (pending ++ more) (steady more (subst (IsSettledBy (length (pending ++ more))) (sym is) tt) ∙ is) enough;
    place = refl;
  }

-- the input ends within a part, or after one
module _ (s : CaptureState) (pending : List ℕ) (n : ℕ) (front : _) (is : front_of s pending ≡ Ok front) (part : IsPart front pending (Part.More n)) where
  end_run : (limit : ℕ) → length pending < limit → run limit s pending ≡ ends_by (if has_begun s && (length pending == 0) then Whole else CutOff)
  unfolding run
  end_run zero enough = absurd (omega (arith, enough))
  end_run (suc m) enough = ap (λ f. go_on f s pending (λ t rest. run m t rest)) is ∙ short_end n pending front s (λ t rest. run m t rest) part

  pub whole : (place : ℕ) → has_begun s ≡ true → pending ≡ [] → IsPacketRun (at s 0 [] place) [] (ends_by Whole)
  whole place begun none limit enough =
      let long : length pending ≡ 0 = ap length none in
      nothing_ahead limit s [] ∙ ap (λ l. run limit s l) (sym none) ∙ end_run limit (omega (arith, long, enough))
      ∙ ap (λ b. ends_by (if b && (length pending == 0) then Whole else CutOff)) begun
      ∙ ap (λ k. ends_by (if k == 0 then Whole else CutOff)) long

  pub cut : (place : ℕ) → (has_begun s && (length pending == 0)) ≡ false → IsPacketRun (at s 0 pending place) pending (ends_by CutOff)
  cut place not_whole limit enough = nothing_ahead limit s pending ∙ end_run limit enough ∙ ap (λ b. ends_by (if b then Whole else CutOff)) not_whole

-- the input ends before the bytes that are ahead
pub cut_ahead : (s : CaptureState) (ahead : ℕ) (place : ℕ) → 0 < ahead → IsPacketRun (at s ahead [] place) [] (ends_by CutOff)
cut_ahead s ahead place some limit enough = ap (λ b. if b then ends_by CutOff else run limit s (drop ahead [])) (lt-ltb 0 ahead some)

-- The result of a step.
use Rattle.captures.specs.Runs.{Whole, ends_by}
use Rattle.std.proofs.Common.{inl, inr, Bool, true, false, ◌∷◌, drop, ℕ, ◌≡◌, ◌<◌, ◌^◌, ◌++◌, length, append-nil, arith, IfOk, OnErr, List, [], Option, Result, Ok, Err, IsErrAnd, refl, sym, ap, subst, ◌∙◌}
use Rattle.std.specs.Prelude.{MatchResult, ◌&&◌, ◌==◌}
use Rattle.std.proofs.lemmas.Bool.{eqb-true}
use Rattle.std.proofs.KnownBytes.{Keeps-refl}
use Rattle.std.proofs.lemmas.Result.{err_from_is_err_and}
use Rattle.captures.specs.declared.capture_error.CaptureError.{CaptureError}
use Rattle.captures.specs.declared.capture_error.CaptureError.TheVariants.{Fault}
use Rattle.captures.specs.declared.reader.ReadStep.{ReadStep}
use Rattle.input_reading.specs.declared.fault.ReadFault.{ReadFault}
use Rattle.input_reading.specs.declared.fault.ReadFault.TheVariants as fault
use Rattle.captures.specs.Faults.{error_of}
use Rattle.captures.specs.Positions.{Position, GoesOn, IsCutOff, IsFaulty, IsPacketRun, IsUnread, IsAtEnding, Stops, further, run_behind, shown_packet}
use Rattle.captures.specs.ReaderSteps.{Fills, IsShort, Steps}
use Rattle.std.specs.Io.KnownBytes.{Consumes, IsAtEnd, Keeps}
use Rattle.std.proofs.lemmas.List.{nil_from_length}
use Rattle.captures.specs.declared.capture.CapturedPacket.{CapturedPacket}
use Rattle.captures.specs.declared.capture.Part.{Part}
use Rattle.captures.specs.declared.fault.FaultKind.{FaultKind}
use Rattle.captures.specs.declared.fault.ReadError.{ReadError}
use Rattle.captures.specs.Reading.{CaptureState, IsFrontAnswer, MayLackMemory, IsPart, IsPartInReach, IsSteady, front_of, state_behind, has_begun}
use Rattle.captures.proofs.Parts.{skipped, handed, at_fault, whole, cut, cut_ahead, packet_state, short_state}
use Rattle.captures.proofs.Going.{reads_more, reads_none}

-- the input could not be read
pub stops : (f : ReadFault) (p : Position) (left : Option (List ℕ)) → IsUnread p → Stops (error_of f) p left
stops fault.Read p left unread = unread
stops fault.Memory p left unread = tt

-- a step that fails by a lack of memory or by the input
pub failed : (old : Position) (before : Option (List ℕ)) (new : Position) (after : Option (List ℕ)) (bytes : List ℕ) (r : Result ReadStep CaptureError) (f : ReadFault)
    → IsErrAnd r (λ e. e ≡ error_of f) → GoesOn old before new after [] → Stops (error_of f) new after → Steps old before new after bytes r
failed old before new after bytes r f err goes stopped =
    let found = err_from_is_err_and r err in
    subst (Steps old before new after bytes) (sym (found.1 ∙ ap Err found.2)) (goes, stopped)

abbrev pub at : CaptureState → ℕ → List ℕ → ℕ → Position
at s ahead pending place = record { state = s; ahead = ahead; pending = pending; place = place }

pub from_pair : {p q s : Position} {before after : Option (List ℕ)} {P : Type 0} → p ≡ q → GoesOn p before s after [] × P → GoesOn q before s after [] × P
from_pair {p} {q} {s} {before} {after} {P} same both = (subst (λ o. GoesOn o before s after []) same both.0, both.1)

-- the input is read once
pub filled : (s : CaptureState) (ahead : ℕ) (old new : List ℕ) (place : ℕ) (before after : Option (List ℕ)) (r : Result ℕ ReadFault) → place < 2 ^ 64
    → IfOk r (λ n. (more : List ℕ) × (length more ≡ n) × (new ≡ old ++ more) × Consumes before after more) → IfOk r (λ n. n ≡ 0 → IsAtEnd after)
    → OnErr r ((new ≡ old) × Keeps before after) → Fills (at s ahead old place) before (at s ahead new place) after r
filled s ahead old new place before after (Ok n) small bytes end kept = (
  reads_more s ahead old new place before after bytes.0 bytes.3 bytes.2 small,
  λ none. (
    ap (λ l. at s ahead l place) (bytes.2 ∙ ap (λ l. old ++ l) (nil_from_length bytes.0 (bytes.1 ∙ none)) ∙ append-nil old),
    end none,
  ),
)
filled s ahead old new place before after (Err e) small bytes end kept =
    (reads_none s ahead old new place before after kept.1 kept.0 small, ap (λ l. at s ahead l place) kept.0)

pub from_fills : (p q s : Position) (before after : Option (List ℕ)) (r : Result ℕ ReadFault) → p ≡ q → Fills p before s after r → Fills q before s after r
from_fills p q s before after r same fills = subst (λ o. Fills o before s after r) same fills

-- the input ends before the bytes that are ahead
pub ends_ahead : (q new : Position) (after : Option (List ℕ)) → new ≡ q → 0 < q.ahead → q.pending ≡ [] → IsAtEnd after → IsCutOff new after FaultKind.CutOff (further new.place (length new.pending))
ends_ahead q new after same some none ended =
    subst (λ p. IsCutOff p after FaultKind.CutOff (further p.place (length p.pending))) (sym same) (record {
      run = λ limit enough. ap (λ l. run_behind q.ahead limit q.state l) none ∙ cut_ahead q.state q.ahead q.place some limit (subst (λ l. length (drop q.ahead l) < limit) none enough);
      ended = ended;
      of_input = refl;
      place = refl;
    })

-- the input can't be read further if less than a whole part is pending, or bytes are to be skipped
pub unread_ahead : (q new : Position) → new ≡ q → 0 < q.ahead → q.pending ≡ [] → IsUnread new
unread_ahead q new same some none =
    subst IsUnread (sym same)
    (inr (λ limit enough. ap (λ l. run_behind q.ahead limit q.state l) none ∙ cut_ahead q.state q.ahead q.place some limit (subst (λ l. length (drop q.ahead l) < limit) none enough)))

both_are : (a b : Bool) → (a && b) ≡ true → (a ≡ true) × (b ≡ true)
both_are true b e = (refl, e)
both_are false b e = cc

-- ---- the input ends where less than a whole part is pending

module _ (s : CaptureState) (pending : List ℕ) (place n : ℕ) (after : Option (List ℕ)) (ended : IsAtEnd after) where
  whole_by : (f : _) → front_of s pending ≡ f → MatchResult f (λ front. IsPart front pending (Part.More n)) (λ _. ⊥) → (has_begun s && (length pending == 0)) ≡ true → IsAtEnding (at s 0 pending place) after
  whole_by (Ok front) is part begun =
      let both = both_are (has_begun s) (length pending == 0) begun in
      let none = nil_from_length pending (eqb-true (length pending) 0 both.1) in
      record { run = whole s pending n front is part place both.0 none; none = none; ended = ended }
  whole_by (Err fault) is part begun = absurd part

  cut_by : (f : _) → front_of s pending ≡ f → MatchResult f (λ front. IsPart front pending (Part.More n)) (λ _. ⊥) → (has_begun s && (length pending == 0)) ≡ false
      → IsCutOff (at s 0 pending place) after FaultKind.CutOff (further place (length pending))
  cut_by (Ok front) is part not_whole = record { run = cut s pending n front is part place not_whole; ended = ended; of_input = refl; place = refl }
  cut_by (Err fault) is part not_whole = absurd part

module _ (s : CaptureState) (pending : List ℕ) (place n : ℕ) where
  short_by : (f : _) (b : Bool) → front_of s pending ≡ f → MatchResult f (λ front. IsPart front pending (Part.More n)) (λ _. ⊥) → (has_begun s && (length pending == 0)) ≡ b → IsUnread (at s 0 pending place)
  short_by (Ok front) true is part begun =
      let both = both_are (has_begun s) (length pending == 0) begun in
      let none = nil_from_length pending (eqb-true (length pending) 0 both.1) in
      inl (subst (λ (bytes : List ℕ). IsPacketRun (at s 0 pending place) bytes (ends_by Whole)) (sym none) (whole s pending n front is part place both.0 none))
  short_by (Ok front) false is part not_whole = inr (cut s pending n front is part place not_whole)
  short_by (Err fault) b is part begun = absurd part

pub unread_short : (q new : Position) → IsShort q → new ≡ q → IsUnread new
unread_short q new short same =
    subst IsUnread (ap (λ a. at q.state a q.pending q.place) (sym short.near) ∙ sym same)
    (short_by q.state q.pending q.place short.needed (front_of q.state q.pending) (has_begun q.state && (length q.pending == 0)) refl short.front refl)

pub ends_whole : (q new : Position) (after : Option (List ℕ)) → IsShort q → new ≡ q → IsAtEnd after → (has_begun new.state && (length new.pending == 0)) ≡ true → IsAtEnding new after
ends_whole q new after short same ended begun =
    let begun_there = subst (λ p. (has_begun p.state && (length p.pending == 0)) ≡ true) same begun in
    subst (λ p. IsAtEnding p after) (ap (λ a. at q.state a q.pending q.place) (sym short.near) ∙ sym same)
    (whole_by q.state q.pending q.place short.needed after ended (front_of q.state q.pending) refl short.front begun_there)

pub ends_cut : (q new : Position) (after : Option (List ℕ)) → IsShort q → new ≡ q → IsAtEnd after → (has_begun new.state && (length new.pending == 0)) ≡ false
    → IsCutOff new after FaultKind.CutOff (further new.place (length new.pending))
ends_cut q new after short same ended not_whole =
    let not_there = subst (λ p. (has_begun p.state && (length p.pending == 0)) ≡ false) same not_whole in
    subst (λ p. IsCutOff p after FaultKind.CutOff (further p.place (length p.pending))) (ap (λ a. at q.state a q.pending q.place) (sym short.near) ∙ sym same)
    (cut_by q.state q.pending q.place short.needed after ended (front_of q.state q.pending) refl short.front not_there)

-- ---- a part is read

module _ (s t : CaptureState) (ahead : ℕ) (bytes pending : List ℕ) (place : ℕ) (left : Option (List ℕ)) (r : Result Part ReadError) (near : ahead ≡ 0) (small : place < 2 ^ 64) (same : bytes ≡ pending)
    (answer : IsFrontAnswer (front_of s bytes) bytes s t r) (reach : IfOk r (IsPartInReach bytes)) (steady : IsSteady s bytes) where
  answer_here : IsFrontAnswer (front_of s pending) pending s t r
  answer_here = subst (λ b. IsFrontAnswer (front_of s b) b s t r) same answer

  steady_here : IsSteady s pending
  steady_here = subst (IsSteady s) same steady

  reach_here : (part : Part) → r ≡ Ok part → IsPartInReach pending part
  reach_here part is = subst (λ b. IsPartInReach b part) same (subst (λ q. IfOk q (IsPartInReach bytes)) is reach)

  -- the facts of an item if a part was returned
  part_of : (part : Part) (f : _) → r ≡ Ok part → IsFrontAnswer f pending s t r → MatchResult f (λ front. IsPart front pending part × (t ≡ state_behind front s)) (λ _. ⊥)
  part_of part (Ok front) is here = subst (λ q. MatchResult q (λ p. IsPart front pending p × (t ≡ state_behind front s)) (λ error. (error ≡ ReadError.Memory) × MayLackMemory front × (t ≡ s))) is here
  part_of part (Err fault) is here = cc

  skip_by : (n : ℕ) (f : _) → front_of s pending ≡ f → r ≡ Ok (Part.Skip n) → MatchResult f (λ front. IsPart front pending (Part.Skip n) × (t ≡ state_behind front s)) (λ _. ⊥)
      → GoesOn (at s 0 pending place) left (at t n pending place) left []
  skip_by n (Ok front) is came here = skipped s pending place left small steady_here t n front is here.0 (reach_here (Part.Skip n) came) here.1
  skip_by n (Err fault) is came here = absurd here

  pub step_skip : (n : ℕ) → r ≡ Ok (Part.Skip n) → GoesOn (at s ahead pending place) left (at t n pending place) left []
  step_skip n came = subst (λ a. GoesOn (at s a pending place) left (at t n pending place) left []) (sym near)
      (skip_by n (front_of s pending) refl came (part_of (Part.Skip n) (front_of s pending) came answer_here))

  packet_by : (packet : CapturedPacket) (n : ℕ) (f : _) → front_of s pending ≡ f → r ≡ Ok (Part.Packet packet n) → MatchResult f (λ front. IsPart front pending (Part.Packet packet n) × (t ≡ state_behind front s)) (λ _. ⊥)
      → GoesOn (at s 0 pending place) left (at t n pending place) left (shown_packet packet ∷ [])
  packet_by packet n (Ok front) is came here =
      let within = reach_here (Part.Packet packet n) came in
      handed s pending place left small steady_here t n packet front is here.0 within.0 within.1 here.1
  packet_by packet n (Err fault) is came here = absurd here

  pub step_packet : (packet : CapturedPacket) (n : ℕ) → r ≡ Ok (Part.Packet packet n) → GoesOn (at s ahead pending place) left (at t n pending place) left (shown_packet packet ∷ [])
  step_packet packet n came = subst (λ a. GoesOn (at s a pending place) left (at t n pending place) left (shown_packet packet ∷ [])) (sym near)
      (packet_by packet n (front_of s pending) refl came (part_of (Part.Packet packet n) (front_of s pending) came answer_here))

  unchanged : t ≡ s → GoesOn (at s ahead pending place) left (at t ahead pending place) left []
  unchanged is = subst (λ u. GoesOn (at s ahead pending place) left (at u ahead pending place) left []) (sym is) (reads_none s ahead pending pending place left left (Keeps-refl left) refl small)

  packet_keeps : (packet : CapturedPacket) (n : ℕ) (f : Result _ FaultKind) → MatchResult f (λ front. IsPart front pending (Part.Packet packet n) × (t ≡ state_behind front s)) (λ _. ⊥) → t ≡ s
  packet_keeps packet n (Ok front) here = here.1 ∙ packet_state n packet pending front s here.0
  packet_keeps packet n (Err fault) here = absurd here

  pub packet_lost : (packet : CapturedPacket) (n : ℕ) → r ≡ Ok (Part.Packet packet n) → GoesOn (at s ahead pending place) left (at t ahead pending place) left []
  packet_lost packet n came = unchanged (packet_keeps packet n (front_of s pending) (part_of (Part.Packet packet n) (front_of s pending) came answer_here))

  fault_by : (kind : FaultKind) (f : _) → front_of s pending ≡ f → IsFrontAnswer f pending s t r → r ≡ Err (ReadError.Fault kind) → (front_of s pending ≡ Err kind) × (t ≡ s)
  fault_by kind (Ok front) is here came =
      let bad = subst (λ q. MatchResult q (λ p. IsPart front pending p × (t ≡ state_behind front s)) (λ error. (error ≡ ReadError.Memory) × MayLackMemory front × (t ≡ s))) came here in
      let no = bad.0 in
      cc
  fault_by kind (Err fault) is here came =
      let same : fault ≡ kind = cc in
      (is ∙ ap Err same, here.1)

  pub step_fault : (kind : FaultKind) → r ≡ Err (ReadError.Fault kind) → GoesOn (at s ahead pending place) left (at t ahead pending place) left [] × Stops (Fault kind place) (at t ahead pending place) left
  step_fault kind came =
      let found = fault_by kind (front_of s pending) refl answer_here came in (
        unchanged found.1,
        inl (subst (λ p. IsFaulty p kind place) (ap (λ a. at s a pending place) (sym near) ∙ ap (λ u. at u ahead pending place) (sym found.1)) (at_fault s pending place left small steady_here kind found.0)),
      )

  memory_by : (f : _) → IsFrontAnswer f pending s t r → r ≡ Err ReadError.Memory → t ≡ s
  memory_by (Ok front) here came =
      let bad = subst (λ q. MatchResult q (λ p. IsPart front pending p × (t ≡ state_behind front s)) (λ error. (error ≡ ReadError.Memory) × MayLackMemory front × (t ≡ s))) came here in
      bad.2
  memory_by (Err fault) here came = here.1

  pub step_memory : r ≡ Err ReadError.Memory → GoesOn (at s ahead pending place) left (at t ahead pending place) left []
  step_memory came = unchanged (memory_by (front_of s pending) answer_here came)

  short_keeps : (n : ℕ) (f : Result _ FaultKind) → MatchResult f (λ front. IsPart front pending (Part.More n) × (t ≡ state_behind front s)) (λ _. ⊥)
      → (t ≡ s) × MatchResult f (λ front. IsPart front pending (Part.More n)) (λ _. ⊥)
  short_keeps n (Ok front) here = (here.1 ∙ short_state n pending front s here.0, here.0)
  short_keeps n (Err fault) here = absurd here

  pub step_short : (n : ℕ) → r ≡ Ok (Part.More n) → (t ≡ s) × IsShort (at t ahead pending place) × (length pending < 1048576)
  step_short n came =
      let known = short_keeps n (front_of s pending) (part_of (Part.More n) (front_of s pending) came answer_here) in
      let within = reach_here (Part.More n) came in (
        known.0,
        subst (λ u. IsShort (at u ahead pending place)) (sym known.0) (record { needed = n; front = known.1; near = near }),
        omega (arith, within.0, within.1),
      )

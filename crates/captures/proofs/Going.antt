-- From one position to another.
use Rattle.std.proofs.Common.{ℕ, zero, suc, ◌≡◌, ◌+◌, ◌-◌, ◌^◌, ◌<◌, ◌≤◌, Bool, true, false, List, [], ◌∷◌, ◌++◌, length, take, drop, Option, Ok, refl, sym, ap, subst, ◌∙◌, arith, append_assoc, append-nil, length-append, length-take, length-drop, take-append-drop, drop-drop}
use Rattle.std.specs.Prelude.{nat_lt, if◌then◌else◌}
use Rattle.std.specs.Io.KnownBytes.{Consumes, Keeps}
use Rattle.std.proofs.KnownBytes.{Consumes-nil, Consumes-trans, Consumes-kept}
use Rattle.std.proofs.Math.Seq.{drop-append_seam}
use Rattle.std.proofs.lemmas.Bool.{le-ltb, lt-ltb, ltb-false, ltb-true}
use Rattle.captures.specs.Reading.{CaptureState, front_of, state_behind}
use Rattle.captures.specs.Runs.{ShownPacket, CutOff, PacketRun, ends_by, with_front, go_on, go_past, run, size_of, shown_of}
use Rattle.captures.specs.Positions.{Position, IsPacketRun, run_behind, GoesOn, further}

-- bytes are read of the input
pub reads_more : (s : CaptureState) (ahead : ℕ) (old new : List ℕ) (place : ℕ) (before after : Option (List ℕ)) (read : List ℕ) → Consumes before after read → new ≡ old ++ read → place < 2 ^ 64
    → GoesOn (record { state = s; ahead = ahead; pending = old; place = place }) before (record { state = s; ahead = ahead; pending = new; place = place }) after []
reads_more s ahead old new place before after read taken grown small = record {
  read = read;
  past = [];
  taken = taken;
  whole = grown;
  place = omega arith;
  run = λ more r same. same;
}

-- none are read
pub reads_none : (s : CaptureState) (ahead : ℕ) (old new : List ℕ) (place : ℕ) (before after : Option (List ℕ)) → Keeps before after → new ≡ old → place < 2 ^ 64
    → GoesOn (record { state = s; ahead = ahead; pending = old; place = place }) before (record { state = s; ahead = ahead; pending = new; place = place }) after []
reads_none s ahead old new place before after kept same small =
    reads_more s ahead old new place before after [] (Consumes-kept before before after [] (Consumes-nil before) kept) (same ∙ sym (append-nil old)) small

-- one way after another
pub both_ways : (p q s : Position) (before between after : Option (List ℕ)) (first second : List ShownPacket) → GoesOn p before q between first → GoesOn q between s after second
    → GoesOn p before s after (first ++ second)
both_ways p q s before between after first second one two = record {
  read = one.read ++ two.read;
  past = one.past ++ two.past;
  taken = Consumes-trans before between after one.read two.read one.taken two.taken;
  whole = append_assoc one.past two.past s.pending ∙ ap (λ l. one.past ++ l) two.whole ∙ sym (append_assoc one.past q.pending two.read)
      ∙ ap (λ l. l ++ two.read) one.whole ∙ append_assoc p.pending one.read two.read;
  place = omega (arith, one.place, two.place, length-append one.past two.past);
  run = λ more r next.
      let rest : two.past ++ (s.pending ++ more) ≡ q.pending ++ (two.read ++ more) =
      sym (append_assoc two.past s.pending more) ∙ ap (λ l. l ++ more) two.whole ∙ append_assoc q.pending two.read more in
      let mid = one.run (two.read ++ more) (with_front second r) (subst (λ l. IsPacketRun q l (with_front second r)) rest (two.run more r next)) in
      let all : one.past ++ (q.pending ++ (two.read ++ more)) ≡ (one.past ++ two.past) ++ (s.pending ++ more) =
      ap (λ l. one.past ++ l) (sym rest) ∙ sym (append_assoc one.past two.past (s.pending ++ more)) in
      subst (λ shown. IsPacketRun p ((one.past ++ two.past) ++ (s.pending ++ more)) (record { packets = shown; end = r.end })) (sym (append_assoc first second r.packets))
      (subst (λ l. IsPacketRun p l (with_front first (with_front second r))) all mid);
}

-- from the position that is seen
pub from : {p q s : Position} {before after : Option (List ℕ)} {packets : List ShownPacket} → p ≡ q → GoesOn p before s after packets → GoesOn q before s after packets
from {p} {q} {s} {before} {after} {packets} same goes = subst (λ o. GoesOn o before s after packets) same goes

-- with other bytes
pub shown_as : {p s : Position} {before after : Option (List ℕ)} {time : Option ℕ} {link wire_length : ℕ} {xs ys : List ℕ} → xs ≡ ys
    → GoesOn p before s after (record { time = time; link = link; wire_length = wire_length; bytes = xs } ∷ [])
    → GoesOn p before s after (record { time = time; link = link; wire_length = wire_length; bytes = ys } ∷ [])
shown_as {p} {s} {before} {after} {time} {link} {wire_length} {xs} {ys} same goes =
    subst (λ l. GoesOn p before s after (record { time = time; link = link; wire_length = wire_length; bytes = l } ∷ [])) same goes

-- ---- bytes that are ahead

behind_passed : (s : CaptureState) (ahead count : ℕ) (front rest : List ℕ) (limit : ℕ) → count ≤ ahead → length front ≡ count
    → run_behind ahead limit s (front ++ rest) ≡ run_behind (ahead - count) limit s rest
behind_passed s ahead count front rest limit near long =
    let left : drop ahead (front ++ rest) ≡ drop (ahead - count) rest = drop_front ahead count front rest near long in
    by_test (nat_lt (length rest) (ahead - count)) refl left where
      drop_front : (ahead count : ℕ) (front rest : List ℕ) → count ≤ ahead → length front ≡ count → drop ahead (front ++ rest) ≡ drop (ahead - count) rest
      drop_front ahead count front rest near long =
          let parts : ahead ≡ count + (ahead - count) = omega arith in
          ap (λ n. drop n (front ++ rest)) parts ∙ sym (drop-drop (ahead - count) count (front ++ rest))
          ∙ ap (drop (ahead - count)) (ap (λ n. drop n (front ++ rest)) (sym long) ∙ drop-append_seam front rest)

      by_test : (b : Bool) → nat_lt (length rest) (ahead - count) ≡ b → drop ahead (front ++ rest) ≡ drop (ahead - count) rest
          → run_behind ahead limit s (front ++ rest) ≡ run_behind (ahead - count) limit s rest
      by_test true e left =
          let more : nat_lt (length (front ++ rest)) ahead ≡ true = lt-ltb _ _ (omega (arith, length-append front rest, long, ltb-true _ _ e)) in
          rw (more, e) refl
      by_test false e left =
          let more : nat_lt (length (front ++ rest)) ahead ≡ false = le-ltb _ _ (omega (arith, length-append front rest, long, ltb-false _ _ e)) in
          rw (more, e, left) refl

pub passes : (s : CaptureState) (ahead count : ℕ) (old new : List ℕ) (place to : ℕ) (left : Option (List ℕ)) → to ≡ further place count → count ≤ ahead → count ≤ length old → new ≡ drop count old
    → GoesOn (record { state = s; ahead = ahead; pending = old; place = place }) left (record { state = s; ahead = ahead - count; pending = new; place = to }) left []
passes s ahead count old new place to left is near fits passed =
    let long : length (take count old) ≡ count = omega (arith, length-take count old) in
    record {
      read = [];
      past = take count old;
      taken = Consumes-nil left;
      whole = ap (λ l. take count old ++ l) passed ∙ take-append-drop count old ∙ sym (append-nil old);
      place = is ∙ ap (further place) (sym long);
      run = λ more r next limit enough.
          let rest : length (drop (ahead - count) (new ++ more)) < limit =
          omega (arith, enough, length-drop (ahead - count) (new ++ more), length-drop ahead (take count old ++ (new ++ more)), length-append (take count old) (new ++ more), long) in
          behind_passed s ahead count (take count old) (new ++ more) limit near long ∙ next limit rest;
    }

-- ---- a part

module _ (s : CaptureState) (all : List ℕ) where
  -- the run from a part on
  pub part_run : (front : _) (r : PacketRun) → front_of s all ≡ Ok front → 0 < size_of front → ((next : CaptureState → List ℕ → PacketRun) → go_on (Ok front) s all next ≡ go_past front s all next)
      → (length all < size_of front → shown_of front all ≡ [])
      → ((limit : ℕ) → length (drop (size_of front) all) < limit → run_behind (size_of front) limit (state_behind front s) all ≡ r)
      → (limit : ℕ) → length all < limit → run limit s all ≡ with_front (shown_of front all) r
  unfolding run
  part_run front r is some goes none behind zero enough = absurd (omega (arith, enough))
  part_run front r is some goes none behind (suc m) enough =
      ap (λ f. go_on f s all (λ t rest. run m t rest)) is ∙ goes (λ t rest. run m t rest) ∙ by_test (nat_lt (length all) (size_of front)) refl where
        by_test : (b : Bool) → nat_lt (length all) (size_of front) ≡ b
            → (if b then ends_by CutOff else with_front (shown_of front all) (run m (state_behind front s) (drop (size_of front) all))) ≡ with_front (shown_of front all) r
        by_test true e =
            let known : run_behind (size_of front) (suc (length all)) (state_behind front s) all ≡ ends_by CutOff = rw e refl in
            let cut : ends_by CutOff ≡ r = sym known ∙ behind (suc (length all)) (omega (arith, length-drop (size_of front) all)) in
            let empty : shown_of front all ≡ [] = none (ltb-true _ _ e) in
            cut ∙ ap (λ shown. with_front shown r) (sym empty)
        by_test false e =
            let known : run_behind (size_of front) m (state_behind front s) all ≡ run m (state_behind front s) (drop (size_of front) all) = rw e refl in
            let less : length (drop (size_of front) all) < m = omega (arith, enough, some, ltb-false _ _ e, length-drop (size_of front) all) in
            ap (with_front (shown_of front all)) (sym known ∙ behind m less)

-- The preamble of a recording, and the lines after it, from beginning to end.
use Rattle.std.proofs.Common.{◌≡◌, ◌+◌, ◌⊎◌, ℕ, length, OnOk, Result, Err, List, [], ◌∷◌, ◌++◌, Option, refl, sym, ap, subst, ◌∙◌, append-nil, inl, inr}
use Rattle.std.proofs.KnownBytes.{Consumes-trans}
use Rattle.std.proofs.lemmas.Bool.Decides.{leb_tells}
use Rattle.std.specs.Prelude.{IfErr, IsErrAnd}
use Rattle.std.specs.Io.KnownBytes.{Consumes, prepend_known}
use Rattle.input_reading.specs.Shortened.{shortened}
use Rattle.input_reading.specs.Tails.{HasNoLineFeed}
use Rattle.input_reading.specs.Taking.{Takes}
use Rattle.input_reading.specs.declared.line.TheConstants.{LONGEST}
use Rattle.recording.specs.Faults.{IsFaultOf}
use Rattle.recording.specs.Recordings.{RecordingValue, IsText}
use Rattle.recording.specs.declared.fault.Fault.TheVariants as fault
use Rattle.recording.specs.declared.fault.LineFault.{LineFault}
use Rattle.replay.specs.declared.fault.ReplayFault.{ReplayFault}
use Rattle.replay.specs.declared.fault.ReplayFault.TheVariants as replay_fault
use Rattle.replay.specs.declared.buffer.PrintError.{PrintError}
use Rattle.replay.specs.declared.buffer.PrintError.TheVariants as stop
use Rattle.replay.proofs.Written.{err_as}
use Rattle.change_log.specs.Begun.{Closes, IsRunBegun}
use Rattle.change_log.specs.Changes.{Give}
use Rattle.change_log.specs.Following.{EndsBehind, StopsBehind}
use Rattle.change_log.specs.Openings.{HasOpeningFault, IsFormless, IsFrontFault, IsPreambleWhole, OpensPreamble, last_line, line_feeds}
use Rattle.change_log.specs.Outputs.{FailsAtFront, FailsBehind, TellsAll, TellsPart, TellsThese}
use Rattle.change_log.specs.Streams.{ComesFrom}
use Rattle.change_log.specs.declared.following.End.{End}
use Rattle.change_log.specs.declared.following.Run.{Run}
use Rattle.change_log.specs.declared.opening.PreambleEnd.{PreambleEnd}
use Rattle.change_log.specs.declared.opening.PreambleEnd.TheVariants as front_end
use Rattle.change_log.specs.declared.opening.Opening.{Opening}
use Rattle.change_log.specs.declared.printing.ChangeOptions.{ChangeOptions}
use Rattle.change_log.proofs.Comes.{comes_held, comes_less, held_none}
use Rattle.change_log.proofs.Feeds.{long_last}
use Rattle.change_log.proofs.OpeningSteps.{no_mark}
use Rattle.change_log.proofs.Reached.{ended_closed, ended_line, ended_memory, ended_ok, ended_read, ended_write, given_begun, lines_part}

-- ---- the bytes that were read

module _ (held kept front : List ℕ) (before left : Option (List ℕ)) (none : held ≡ []) where
  at_once : (next : List ℕ) (after : Option (List ℕ)) → Takes held before next after front → Consumes before (prepend_known next after) front
  at_once next after read = subst (λ (a : Option (List ℕ)). Consumes a (prepend_known next after) front) (held_none before held none) read

  came : Takes held before kept left front → ComesFrom before left front
  came read = comes_held before left front kept (at_once kept left read)

  came_behind : (mid : List ℕ) (rest : Option (List ℕ)) (bytes : List ℕ) → Takes held before mid rest front → Takes mid rest kept left bytes → ComesFrom before left (front ++ bytes)
  came_behind mid rest bytes read more = comes_held before left (front ++ bytes) kept (Consumes-trans before (prepend_known mid rest) (prepend_known kept left) front bytes (at_once mid rest read) more)

  -- the front came
  pub front_came : (line : List ℕ) (end : PreambleEnd) → IsPreambleWhole end → OpensPreamble end front line held before kept left → ComesFrom before left front
  front_came line front_end.Over whole opens = came opens.0
  front_came line front_end.Line whole (mid, rest, read, w) = comes_less before left front (w.raw ++ 10 ∷ []) (came_behind mid rest (w.raw ++ 10 ∷ []) read w.taken)
  front_came line front_end.Cut whole (mid, rest, read, w) = comes_less before left front w.raw (came_behind mid rest w.raw read w.taken)
  front_came line front_end.LongLine whole opens = absurd whole
  front_came line (front_end.AtFault f) whole opens = absurd whole

  -- ---- the preamble has a fault

  plain : (bytes : List ℕ) (f : LineFault) → ComesFrom before left bytes → IsFaultOf bytes f → FailsAtFront before left f
  plain bytes f comes is = record { bytes = bytes; comes = comes; is = inl is }

  -- with the last line, which may be a long one
  with_last : (mid : List ℕ) (rest : Option (List ℕ)) (raw line after : List ℕ) (f : LineFault) → Takes held before mid rest front → Takes mid rest kept left (raw ++ after) → HasNoLineFeed raw → line ≡ shortened raw
      → IsFaultOf (front ++ (line ++ after)) f → FailsAtFront before left f
  with_last mid rest raw line after f read more one is has =
      let comes = came_behind mid rest (raw ++ after) read more in
      elim (leb_tells LONGEST (length raw)) [
        | inl long ↦ record {
          bytes = front ++ (raw ++ after);
          comes = comes;
          is = inr (record { before = front; raw = raw; after = after; joined = refl; line = one; long = long.1; is = inl (subst (λ l. IsFaultOf (front ++ (l ++ after)) f) is has) });
        }
        | inr short ↦ plain (front ++ (raw ++ after)) f comes (subst (λ l. IsFaultOf (front ++ (l ++ after)) f) (is ∙ no_mark LONGEST raw short.1) has)
      ]

  pub front_fails : (line : List ℕ) (end : PreambleEnd) (f : LineFault) → OpensPreamble end front line held before kept left → HasOpeningFault end front line f → FailsAtFront before left f
  front_fails line front_end.Over f opens has = plain front f (came opens.0) has
  front_fails line front_end.Line f (mid, rest, read, w) (inl own) = plain front f (front_came line front_end.Line tt (mid, rest, read, w)) own
  front_fails line front_end.Line f (mid, rest, read, w) (inr all) = with_last mid rest w.raw line (10 ∷ []) f read w.taken w.one w.handed_on all
  front_fails line front_end.Cut f (mid, rest, read, w) (inl own) = plain front f (front_came line front_end.Cut tt (mid, rest, read, w)) own
  front_fails line front_end.Cut f (mid, rest, read, w) (inr all) = with_last mid rest w.raw line [] f read (subst (Takes mid rest kept left) (sym (append-nil w.raw)) w.taken) w.one w.handed_on all
  front_fails line front_end.LongLine f x has = record {
    bytes = x.before ++ (x.raw ++ x.after);
    comes = comes_held before left (x.before ++ (x.raw ++ x.after)) kept (subst (λ (a : Option (List ℕ)). Consumes a (prepend_known kept left) (x.before ++ (x.raw ++ x.after))) (held_none before held none) x.read);
    is = inr (record { before = x.before; raw = x.raw; after = x.after; joined = refl; line = x.line; long = x.long; is = cut_fault has });
  }
    where
      cut : List ℕ
      cut = x.before ++ (shortened x.raw ++ x.after)

      number : last_line front ≡ line_feeds x.before + 1
      number = ap last_line x.joined ∙ long_last x.before x.raw x.after x.line x.long x.feed

      cut_fault : IsFaultOf front f ⊎ IsFormless front (last_line front) f → IsFaultOf cut f ⊎ IsFormless cut (line_feeds x.before + 1) f
      cut_fault (inl own) = inl (subst (λ l. IsFaultOf l f) x.joined own)
      cut_fault (inr (r, text, is)) = inr (r, subst (λ l. IsText l r) x.joined text, is ∙ ap (λ n. record { line = n; fault = fault.Line }) number)
  front_fails line (front_end.AtFault g) f opens is = plain front f (came opens.0) (subst (IsFaultOf front) (sym is) opens.1)

abbrev line_in : LineFault → ReplayFault → LineFault
line_in default (replay_fault.Line f) = f
line_in default _ = default

-- the fault that was found is the one that is answered
pub front_faulty : {X : Type 0} (o : Opening) (held kept : List ℕ) (before left : Option (List ℕ)) → held ≡ [] → OpensPreamble o.end o.front.items o.line.items held before kept left → (e : ReplayFault) → IsFrontFault o e → (r : Result X ReplayFault)
    → IsErrAnd r (λ x. x ≡ e) → (f : LineFault) → r ≡ Err (replay_fault.Line f) → FailsAtFront before left f
front_faulty {X} o held kept before left none opens e faulty r answer f line = found faulty
  where
    answered : replay_fault.Line f ≡ e
    answered = subst (λ (x : Result X ReplayFault). IfErr x (λ y. y ≡ e)) line (err_as (λ x. x ≡ e) r e answer refl)

    found : IsFrontFault o e → FailsAtFront before left f
    found (inl memory) = absurd (apart (answered ∙ memory))
      where
        apart : replay_fault.Line f ≡ replay_fault.Memory → ⊥
        apart e = cc
    found (inr (g, is, has)) =
        front_fails held kept o.front.items before left none o.line.items o.end f opens (subst (HasOpeningFault o.end o.front.items o.line.items) (sym (ap (line_in f) (answered ∙ is))) has)

-- no other fault is answered
pub front_no_other : {X : Type 0} (o : Opening) (e : ReplayFault) → IsFrontFault o e → (r : Result X ReplayFault) → IsErrAnd r (λ x. x ≡ e) → (r ≡ Err replay_fault.Write → ⊥) × (r ≡ Err replay_fault.Closed → ⊥)
front_no_other {X} o e faulty r answer = (λ is. no_write faulty (answered replay_fault.Write is), λ is. no_closed faulty (answered replay_fault.Closed is))
  where
    answered : (w : ReplayFault) → r ≡ Err w → w ≡ e
    answered w is = subst (λ (x : Result X ReplayFault). IfErr x (λ y. y ≡ e)) is (err_as (λ x. x ≡ e) r e answer refl)

    no_write : IsFrontFault o e → replay_fault.Write ≡ e → ⊥
    no_write (inl memory) is = write_memory (is ∙ memory)
      where
        write_memory : replay_fault.Write ≡ replay_fault.Memory → ⊥
        write_memory e = cc
    no_write (inr (g, line, has)) is = write_line (is ∙ line)
      where
        write_line : replay_fault.Write ≡ replay_fault.Line g → ⊥
        write_line e = cc

    no_closed : IsFrontFault o e → replay_fault.Closed ≡ e → ⊥
    no_closed (inl memory) is = closed_memory (is ∙ memory)
      where
        closed_memory : replay_fault.Closed ≡ replay_fault.Memory → ⊥
        closed_memory e = cc
    no_closed (inr (g, line, has)) is = closed_line (is ∙ line)
      where
        closed_line : replay_fault.Closed ≡ replay_fault.Line g → ⊥
        closed_line e = cc

-- ---- how all of it ends

module _ (t : ChangeOptions) (before left after : Option (List ℕ)) (held kept front line : List ℕ) (r : RecordingValue) (run : Run) (from to : Option (List ℕ)) (h : IsRunBegun t r run from to) (text : IsText front r) (none : held ≡ [])
    (end : PreambleEnd) (whole : IsPreambleWhole end) (opens : OpensPreamble end front line held before kept left) (same : run.line.items ≡ line) where
  opens_run : OpensPreamble end front run.line.items held before kept left
  opens_run = subst (λ l. OpensPreamble end front l held before kept left) (sym same) opens

  given : Give h.after run.core
  given = given_begun t r run from to h

  -- it stops after the preamble
  pub stopped_behind : (why : PrintError) (on : Option (List ℕ)) → StopsBehind end why run kept left after to on → TellsPart why t before after from on
  stopped_behind why on stops =
      let (mid, rest, read, stopped) = stops front held before whole opens_run h.after given in
      lines_part t before rest after mid front r run from to h (at_once held kept front before left none mid rest read) text why on stopped

  module _ (new : Run) (on last : Option (List ℕ)) (e : End) (ends : EndsBehind end e run new kept left after to on) (res : Result (Unit {0}) ReplayFault) (closes : Closes new e res on last) where
    pub closed_ok : OnOk res (TellsAll t before after from last)
    closed_ok =
        let (mid, rest, read, ended) = ends front held before whole opens_run h.after given in
        ended_ok t before rest after mid front r run from to h (at_once held kept front before left none mid rest read) text new on last e ended res closes

    pub closed_read : res ≡ Err replay_fault.Read → (bytes : List ℕ) × TellsThese t before after bytes from last
    closed_read =
        let (mid, rest, read, ended) = ends front held before whole opens_run h.after given in
        ended_read t before rest after mid front r run from to h (at_once held kept front before left none mid rest read) text new on last e ended res closes

    pub closed_line : (l : LineFault) → res ≡ Err (replay_fault.Line l) → FailsBehind t before after l from last
    closed_line =
        let (mid, rest, read, ended) = ends front held before whole opens_run h.after given in
        ended_line t before rest after mid front r run from to h (at_once held kept front before left none mid rest read) text new on last e ended res closes

    pub closed_write : res ≡ Err replay_fault.Write → TellsPart stop.Write t before after from last
    closed_write =
        let (mid, rest, read, ended) = ends front held before whole opens_run h.after given in
        ended_write t before rest after mid front r run from to h (at_once held kept front before left none mid rest read) text new on last e ended res closes

    pub closed_pipe : res ≡ Err replay_fault.Closed → TellsPart stop.Closed t before after from last
    closed_pipe =
        let (mid, rest, read, ended) = ends front held before whole opens_run h.after given in
        ended_closed t before rest after mid front r run from to h (at_once held kept front before left none mid rest read) text new on last e ended res closes

    pub closed_memory : res ≡ Err replay_fault.Memory → ⊥
    closed_memory =
        let (mid, rest, read, ended) = ends front held before whole opens_run h.after given in
        ended_memory t before rest after mid front r run from to h (at_once held kept front before left none mid rest read) text new on last e ended res closes

-- A preamble, and lines after it, one of which ended it.
use Rattle.std.proofs.Common.{◌≡◌, ◌+◌, ℕ, List, [], Option, Result, Ok, Err, refl, subst, sym}
use Rattle.std.proofs.KnownBytes.{Consumes-nil}
use Rattle.std.specs.Prelude.{IfErr, IfOk, string_bytes}
use Rattle.std.specs.Io.KnownBytes.{Consumes, prepend_known}
use Rattle.input_reading.specs.Taking.{TakesWhole}
use Rattle.recording.specs.declared.fault.Fault.{Fault}
use Rattle.recording.specs.declared.fault.Fault.TheVariants as fault
use Rattle.replay.specs.Stops.{AreWholeLines}
use Rattle.replay.specs.declared.buffer.PrintError.{PrintError}
use Rattle.change_log.specs.Changes.{Give}
use Rattle.change_log.specs.Following.{Ends, EndsBehind, IsLineLeft, IsLineTaken, StopsBehind, StopsIn, StopsTaking}
use Rattle.change_log.specs.Lines.{Change}
use Rattle.change_log.specs.declared.following.End.{End}
use Rattle.change_log.specs.declared.following.End.TheVariants as end
use Rattle.change_log.specs.declared.following.Run.{Run}
use Rattle.change_log.specs.declared.opening.PreambleEnd.{PreambleEnd}
use Rattle.change_log.specs.declared.opening.PreambleEnd.TheVariants as front_end
use Rattle.recording.specs.declared.fault.LineFault.{LineFault}
use Rattle.replay.specs.Advance.{IsProgress, Shows}
use Rattle.replay.specs.declared.progress.Progress.{Progress}
use Rattle.replay.proofs.Advance.{progress_more}
use Rattle.change_log.proofs.Comes.{held_none}
use Rattle.change_log.proofs.FollowSteps.{SoFar, cut_last, ends_on, fault_next, followed_none, given_on, so_far_more, so_far_none, so_far_page, stops_next, stops_on}

module _ (old : Run) (kept : List ℕ) (left : Option (List ℕ)) (from : Option (List ℕ)) where
  -- nothing follows the preamble
  pub over_behind : EndsBehind front_end.Over end.Over old old kept left left from from
  over_behind = λ text held known whole opens before given. (
    kept,
    left,
    opens.0,
    ([], followed_none before old from, subst (λ (o : Option (List ℕ)). Consumes (prepend_known kept left) o []) (held_none left kept opens.1.0) (Consumes-nil (prepend_known kept left)), opens.1.1),
  )

  -- the bytes that follow have no line feed
  pub cut_behind : EndsBehind front_end.Cut (end.AtFault fault.Truncated) old old kept left left from from
  cut_behind = λ text held known whole (mid, rest, read, w) before given.
      let h = so_far_none before old mid rest from in
      (mid, rest, read, cut_last before old old mid mid rest rest from from given h old kept left old.line.items w h.followed)

  -- no other front is whole
  pub long_behind : (e : End) → EndsBehind front_end.LongLine e old old kept left left from from
  long_behind e = λ text held known whole opens before given. absurd whole

  pub fault_behind : (f : LineFault) (e : End) → EndsBehind (front_end.AtFault f) e old old kept left left from from
  fault_behind f e = λ text held known whole opens before given. absurd whole

  -- the line that ended the preamble has a fault
  pub line_faults : (at : Fault) (new : Run) (on : Option (List ℕ)) → IsLineLeft at old new from on → EndsBehind front_end.Line (end.AtFault at) old new kept left left from on
  line_faults at new on x = λ text held known whole (mid, rest, read, w) before given.
      (mid, rest, read, fault_next before old old mid mid rest rest from from given (so_far_none before old mid rest from) old refl refl refl refl refl refl refl refl kept left w at new on x)

  -- it stops at that line
  pub line_stops : (why : PrintError) (on : Option (List ℕ)) → AreWholeLines (string_bytes old.buffer) → StopsTaking why old from on → StopsBehind front_end.Line why old kept left left from on
  line_stops why on buffer x = λ text held known whole (mid, rest, read, w) before given.
      (mid, rest, read, stops_next before old old mid mid rest rest from from given (so_far_none before old mid rest from) old refl refl refl refl refl refl refl refl kept left w why on buffer x)

-- the line that ended the front was taken
module _ (old mid new : Run) (kept : List ℕ) (left further : Option (List ℕ)) (from on to : Option (List ℕ)) (x : IsLineTaken old mid from on × (mid.at.number ≡ old.at.number + 1)) where
  first : (held : List ℕ) (known : Option (List ℕ)) → TakesWhole held known kept left old.line.items → (before : List Change) → Give before old.core → SoFar before old mid held kept known left from on
  first held known w before given = so_far_more before old old held held known known from from given (so_far_none before old held known from) old refl refl refl refl refl refl refl refl kept left w mid on x

  pub lines_end : (r : Result End PrintError) → ((before : List Change) → Give before mid.core → IfOk r (λ e. Ends e before mid new kept left further on to)) → IfOk r (λ e. EndsBehind front_end.Line e old new kept left further from to)
  lines_end (Ok e) f = λ text held known whole (m, rest, read, w) before given.
      let h = first m rest w before given in
      (m, rest, read, ends_on before old mid m kept rest left from on given h further e new to (f h.followed.told.after (given_on before old mid m kept rest left from on given h further)))
  lines_end (Err why) f = tt

  pub lines_stop : (r : Result End PrintError) → AreWholeLines (string_bytes old.buffer) → ((before : List Change) → Give before mid.core → AreWholeLines (string_bytes mid.buffer) → IfErr r (λ why. StopsIn why before mid kept left further on to))
      → IfErr r (λ why. StopsBehind front_end.Line why old kept left further from to)
  lines_stop (Ok e) buffer f = tt
  lines_stop (Err why) buffer f = λ text held known whole (m, rest, read, w) before given.
      let h = first m rest w before given in (
        m,
        rest,
        read,
        stops_on before old mid m kept rest left from on given h further why to buffer
            (f h.followed.told.after (given_on before old mid m kept rest left from on given h further) (so_far_page before old mid m kept rest left from on given h buffer)),
      )

-- ---- how much is done

pub shown_next : (p now : Progress) (done : ℕ) (a b c : Option (List ℕ)) → now ≡ p → IsProgress p a b → Shows now done b c → IsProgress p a c
shown_next p now done a b c same shown next = progress_more p done a b c shown (subst (λ (q : Progress). Shows q done b c) same next)

pub shown_as : (p now : Progress) (a b : Option (List ℕ)) → now ≡ p → IsProgress now a b → IsProgress p a b
shown_as p now a b same shown = subst (λ (q : Progress). IsProgress q a b) same shown

-- ---- the end of the front, by its name

pub ends_as : (front named : PreambleEnd) (e : End) (old new : Run) (kept : List ℕ) (left further : Option (List ℕ)) (from to : Option (List ℕ)) → front ≡ named → EndsBehind named e old new kept left further from to
    → EndsBehind front e old new kept left further from to
ends_as front named e old new kept left further from to is h = subst (λ f. EndsBehind f e old new kept left further from to) (sym is) h

pub all_end_as : (front named : PreambleEnd) (r : Result End PrintError) (old new : Run) (kept : List ℕ) (left further : Option (List ℕ)) (from to : Option (List ℕ)) → front ≡ named
    → IfOk r (λ e. EndsBehind named e old new kept left further from to) → IfOk r (λ e. EndsBehind front e old new kept left further from to)
all_end_as front named r old new kept left further from to is h = subst (λ f. IfOk r (λ e. EndsBehind f e old new kept left further from to)) (sym is) h

pub all_stop_as : (front named : PreambleEnd) (r : Result End PrintError) (old : Run) (kept : List ℕ) (left further : Option (List ℕ)) (from to : Option (List ℕ)) → front ≡ named
    → IfErr r (λ why. StopsBehind named why old kept left further from to) → IfErr r (λ why. StopsBehind front why old kept left further from to)
all_stop_as front named r old kept left further from to is h = subst (λ f. IfErr r (λ why. StopsBehind f why old kept left further from to)) (sym is) h

-- The lines of kept events are written, event by event.
use Rattle.std.proofs.Common.{◌≡◌, ◌∙◌, ◌++◌, ℕ, ◌+◌, ◌<◌, ◌≤◌, List, [], ◌∷◌, Option, Result, Ok, Err, IfErr, OnErr, ◌⊎◌, inl, inr, take, drop, length, get_or, ap, ap₂, sym, subst, append_assoc, append-nil}
use Rattle.std.specs.Io.KnownBytes.{Appends}
use Rattle.std.proofs.lemmas.List.{take_more, take_all, take-append-drop}
use Rattle.std.proofs.lemmas.Grind.{flat_map-append}
use Rattle.replay.specs.Writing.{AppendsPart}
use Rattle.replay.proofs.Written.{appends_none, appends_more}
use Rattle.capture_recording.specs.declared.fault.CapturingFault.{CapturingFault}
use Rattle.capture_recording.specs.declared.fault.CapturingFault.TheVariants.{Capture, Read, Line, Config, Unsaid, Write, Closed, Memory}
use Rattle.capture_recording.specs.declared.kept_events.KeptEvent.{KeptEvent}
use Rattle.capture_recording.specs.Kept.{kept_lines, text_of}
use Rattle.capture_recording.specs.Said.{AppendsUpTo, WritesSaidPart, WritesSome}
use Rattle.capture_recording.proofs.Said.{part_behind, part_more, up_to_behind}

module _ (bytes : List ℕ) (events : List KeptEvent) (start : Option (List ℕ)) where
  -- the lines of the events before the place: a front of them was written, and the rest is at hand
  pub record IsPut (now : Option (List ℕ)) (place : ℕ) (text : List ℕ) : Type 0 where
    pub written : List ℕ
    pub appended : Appends start now written
    pub joined : text_of bytes (take place events) ≡ written ++ text

  pub none_yet : (text : List ℕ) → text ≡ [] → IsPut start 0 text
  none_yet text none = record { written = []; appended = appends_none start; joined = sym none }

  pub one_more : (now : Option (List ℕ)) (place : ℕ) (kept : KeptEvent) (text after : List ℕ) → IsPut now place text → place < length events → kept ≡ get_or events place kept
      → after ≡ text ++ kept_lines bytes kept → IsPut now (place + 1) after
  one_more now place kept text after is within at put = record {
    written = is.written;
    appended = is.appended;
    joined =
        ap (text_of bytes) (take_more events place kept within ∙ ap (λ (p : KeptEvent). take place events ++ p ∷ []) (sym at))
        ∙ flat_map-append (kept_lines bytes) (take place events) (kept ∷ [])
        ∙ ap₂ (λ (xs ys : List ℕ). xs ++ ys) is.joined (append-nil (kept_lines bytes kept))
        ∙ append_assoc is.written text (kept_lines bytes kept)
        ∙ ap (λ (xs : List ℕ). is.written ++ xs) (sym put);
  }

  pub some_written : (now new : Option (List ℕ)) (place : ℕ) (text left : List ℕ) → IsPut now place text → WritesSome now new text left → IsPut new place left
  some_written now new place text left is writes = record {
    written = is.written ++ writes.front;
    appended = appends_more start now new is.written writes.front is.appended writes.written;
    joined = is.joined ∙ ap (λ (xs : List ℕ). is.written ++ xs) writes.joined ∙ sym (append_assoc is.written writes.front left);
  }

  -- all the lines are those before the place and those that are left
  parts : (place : ℕ) → text_of bytes (take place events) ++ text_of bytes (drop place events) ≡ text_of bytes events
  parts place = sym (flat_map-append (kept_lines bytes) (take place events) (drop place events)) ∙ ap (text_of bytes) (take-append-drop place events)

  pub part_written : (now new : Option (List ℕ)) (place : ℕ) (text : List ℕ) → IsPut now place text → AppendsPart now new text → AppendsPart start new (text_of bytes events)
  part_written now new place text is part =
      subst (AppendsPart start new) (ap (λ (xs : List ℕ). xs ++ text_of bytes (drop place events)) (sym is.joined) ∙ parts place)
      (part_more start new (is.written ++ text) (text_of bytes (drop place events)) (part_behind start now new is.written text is.appended part))

  pub up_to_now : (now : Option (List ℕ)) (place : ℕ) (text : List ℕ) → IsPut now place text → AppendsUpTo start now (text_of bytes events)
  up_to_now now place text is = record {
    part = is.written;
    rest = text ++ text_of bytes (drop place events);
    joined =
        sym (parts place)
        ∙ ap (λ (xs : List ℕ). xs ++ text_of bytes (drop place events)) is.joined
        ∙ append_assoc is.written text (text_of bytes (drop place events));
    written = is.appended;
  }

  pub all_written : (now new : Option (List ℕ)) (place : ℕ) (text : List ℕ) → IsPut now place text → length events ≤ place → Appends now new text → Appends start new (text_of bytes events)
  all_written now new place text is past writes =
      subst (Appends start new) (sym is.joined ∙ ap (text_of bytes) (take_all place events past)) (appends_more start now new is.written text is.appended writes)

pub writes_part : (old new : Option (List ℕ)) (text : List ℕ) (fault : CapturingFault) → (fault ≡ Write) ⊎ (fault ≡ Closed) → AppendsPart old new text → WritesSaidPart old new text fault
writes_part old new text fault (inl is) part = subst (WritesSaidPart old new text) (sym is) part
writes_part old new text fault (inr is) part = subst (WritesSaidPart old new text) (sym is) part

-- the last write
module _ (bytes : List ℕ) (events : List KeptEvent) (start now new : Option (List ℕ)) (place : ℕ) (text : List ℕ) (is : IsPut bytes events start now place text) where
  pub last_part : (result : Result (Unit {0}) CapturingFault) → IfErr result (λ e. (e ≡ Write) ⊎ (e ≡ Closed)) → OnErr result (AppendsPart now new text) → IfErr result (WritesSaidPart start new (text_of bytes events))
  last_part (Ok done) kind part = tt
  last_part (Err fault) kind part = writes_part start new (text_of bytes events) fault kind (part_written bytes events start now new place text is part)

-- ---- after other lines

behind_lines : (old mid new : Option (List ℕ)) (lines kept : List ℕ) (fault : CapturingFault) → Appends old mid lines → WritesSaidPart mid new kept fault → WritesSaidPart old new (lines ++ kept) fault
behind_lines old mid new lines kept (Capture kind place) written part = absurd part
behind_lines old mid new lines kept Read written part = absurd part
behind_lines old mid new lines kept (Line fault) written part = absurd part
behind_lines old mid new lines kept (Config fault) written part = absurd part
behind_lines old mid new lines kept Unsaid written part = absurd part
behind_lines old mid new lines kept Write written part = part_behind old mid new lines kept written part
behind_lines old mid new lines kept Closed written part = part_behind old mid new lines kept written part
behind_lines old mid new lines kept Memory written part = up_to_behind old mid new lines kept written part

pub err_behind : (old mid new : Option (List ℕ)) (lines kept : List ℕ) (result : Result (Unit {0}) CapturingFault) → Appends old mid lines → IfErr result (WritesSaidPart mid new kept) → IfErr result (WritesSaidPart old new (lines ++ kept))
err_behind old mid new lines kept (Ok done) written part = tt
err_behind old mid new lines kept (Err fault) written part = behind_lines old mid new lines kept fault written part

-- The events of lines, and what each asks, set apart from the last line to the first.
use Rattle.std.proofs.Common.{◌≡◌, Bool, false, List, [], ◌∷◌, ◌++◌, reverse, refl, sym, ap, ◌∙◌, append_assoc, append-nil}
use Rattle.std.specs.Prelude.{◌||◌}
use Rattle.event_state.specs.declared.event.Event.{Event}
use Rattle.recording.specs.declared.line.Line.{Line}
use Rattle.recording.specs.declared.line.Line.TheVariants as line
use Rattle.worker_replay.specs.declared.asking.Ask.{Ask}
use Rattle.worker_replay.specs.Runs.{events_of, has_roll}
use Rattle.worker_replay.specs.Parts.{ask_of, asks_of, is_roll}

one_event_more : (l : Line) (lines : List Line) → events_of (l ∷ []) ++ events_of lines ≡ events_of (l ∷ lines)
one_event_more (line.Event e) lines = refl
one_event_more (line.Lookup address) lines = refl
one_event_more line.Roll lines = refl

one_line_more : (l : Line) (lines : List Line) → (is_roll l || has_roll lines) ≡ has_roll (l ∷ lines)
one_line_more (line.Event e) lines = refl
one_line_more (line.Lookup address) lines = refl
one_line_more line.Roll lines = refl

-- these lines are left, and the lines after them are set apart, backwards
pub record SetApart (all left : List Line) (events : List Event) (asks : List Ask) (rolls : Bool) : Type 0 where
  pub done : List Line
  pub whole : all ≡ left ++ done
  pub events_are : reverse events ≡ events_of done
  pub asks_are : reverse asks ≡ asks_of done
  pub rolls_are : rolls ≡ has_roll done

pub apart_none : (all : List Line) (events : List Event) (asks : List Ask) → events ≡ [] → asks ≡ [] → SetApart all all events asks false
apart_none all events asks no_events no_asks =
    record { done = []; whole = sym (append-nil all); events_are = ap reverse no_events; asks_are = ap reverse no_asks; rolls_are = refl }

pub apart_more : (all left less : List Line) (l : Line) (events put : List Event) (asks set : List Ask) (rolls now : Bool) → SetApart all left events asks rolls → left ≡ less ++ l ∷ []
    → reverse put ≡ events_of (l ∷ []) ++ reverse events → reverse set ≡ ask_of l rolls ∷ reverse asks → now ≡ (is_roll l || rolls) → SetApart all less put set now
apart_more all left less l events put asks set rolls now h next put_is set_is now_is = record {
  done = l ∷ h.done;
  whole = h.whole ∙ ap (λ w. w ++ h.done) next ∙ append_assoc less (l ∷ []) h.done;
  events_are = put_is ∙ ap (λ w. events_of (l ∷ []) ++ w) h.events_are ∙ one_event_more l h.done;
  asks_are = set_is ∙ (λ i. ask_of l (h.rolls_are i) ∷ h.asks_are i);
  rolls_are = now_is ∙ ap (λ b. is_roll l || b) h.rolls_are ∙ one_line_more l h.done;
}

pub apart_all : (all left : List Line) (events : List Event) (asks : List Ask) (rolls : Bool) → SetApart all left events asks rolls → left ≡ []
    → (reverse events ≡ events_of all) × (reverse asks ≡ asks_of all) × (rolls ≡ has_roll all)
apart_all all left events asks rolls h none =
    let same : h.done ≡ all = sym (h.whole ∙ ap (λ w. w ++ h.done) none) in
    (h.events_are ∙ ap events_of same, h.asks_are ∙ ap asks_of same, h.rolls_are ∙ ap has_roll same)

-- Events are dealt to lists in turn.
use Rattle.std.specs.Prelude.{◌≡◌, ◌++◌, List, [], ◌∷◌, All, Option, Some, None, Result}
use Rattle.std.specs.List.{AllZip}
use Rattle.event_state.specs.declared.event.Event.{Event}
use Rattle.publication.specs.Names.{Name}
use Rattle.engine.specs.Answers.{AreAnswered, IsAnswered}
use Rattle.engine.specs.declared.answer.Answer.{Answer}
use Rattle.engine.specs.declared.answer.Refused.{Refused}
use Rattle.worker_replay.specs.Runs.{Answers}

-- The first event is the first of the first list. The others were dealt from the second list on, so
-- that the rest of the first is the last of these.
abbrev pub IsDealt : List Event → List (List Event) → Type 0
IsDealt [] lists = All (λ list. list ≡ []) lists
IsDealt (e ∷ events) lists = (first : List Event) × (others : List (List Event)) × (lists ≡ (e ∷ first) ∷ others) × IsDealt events (others ++ first ∷ [])

-- the events were dealt to lists, and these have these answers
pub record AreAnsweredDealt (name : Name) (events : List Event) (answers : List Answers) : Type 0 where
  pub lists : List (List Event)
  pub dealt : IsDealt events lists
  pub answered : AllZip (AreAnswered name) lists answers

-- the answer of the first event was taken, and those of the others are left
abbrev pub AreAnswersTaken : Name → List Event → Option (Result Answer Refused) → List Answers → Type 0
AreAnswersTaken name [] answer left = answer ≡ None
AreAnswersTaken name (e ∷ events) None left = ⊥
AreAnswersTaken name (e ∷ events) (Some answer) left = IsAnswered name e answer × AreAnsweredDealt name events left

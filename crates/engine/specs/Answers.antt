-- The promises of an engine's answers.
use Rattle.std.specs.Prelude.{ℕ, ◌≡◌, ◌≢◌, ◌↔◌, ◌+◌, false, List, [], ◌∷◌, ◌++◌, length, Contains, Option, Some, None, MatchOption, Result, MatchResult}
use Rattle.std.specs.List.{AllZip}
use Rattle.event_state.specs.declared.base.Base.{Base}
use Rattle.ospf_types.specs.declared.config.Config.{Config}
use Rattle.ospf_types.specs.declared.config.AreaConfig.{AreaConfig}
use Rattle.event_state.specs.declared.event.Event.{Event}
use Rattle.event_state.specs.declared.refusal.Refusal.{Refusal}
use Rattle.event_state.specs.declared.refusal.Refusal.TheVariants.{NoArea}
use Rattle.event_state.specs.States.{State, LooksAlike}
use Rattle.event_state.specs.Steps.{run_of, lasting_refusal_of, standard_limits}
use Rattle.event_state.specs.Refusals.{IsLastingRefusalOf}
use Rattle.event_core.specs.declared.reply.Reply.{Reply}
use Rattle.event_core.specs.declared.reply.Status.TheVariants.{Current, Behind}
use Rattle.event_core.specs.Right.{IsDueIn}
use Rattle.publication.specs.Names.{Name}
use Rattle.publication.specs.Published.{IsLegalHistory}
use Rattle.publication.specs.Told.{TokenValue}
use Rattle.engine.specs.declared.answer.Answer.{Answer}
use Rattle.engine.specs.declared.answer.Refused.{Refused}
use Rattle.engine.specs.declared.answer.DueList.{DueList}

-- databases and interfaces after these events
abbrev pub after : Base → List Event → State
after base list = run_of base standard_limits list

-- the reply to the event after these, which are legal
pub record IsReplyTo (base : Base) (before : List Event) (e : Event) (r : Reply) : Type 0 where
  pub legal : IsLegalHistory base before
  pub accepted : lasting_refusal_of (after base before) e ≡ None
  pub serial : r.serial ≡ base.serial + length before + 1
  pub changed : (r.changed ≡ false) ↔ LooksAlike (after base before) (after base (before ++ e ∷ []))

-- The reply to the event after some legal list. It has a token exactly if the status is Current,
-- and the token's list is that list and the event
abbrev pub IsAnswerTo : Name → Event → Answer → Type 0
IsAnswerTo name e a =
    (before : List Event) × IsReplyTo name.base before e a.reply
    × MatchOption a.told (a.reply.state ≡ Behind) (λ t. (a.reply.state ≡ Current) × (t.name ≡ name) × (t.list ≡ before ++ e ∷ []) × IsLegalHistory name.base t.list)

-- The event is refused after some legal list, which is the list of the token if there is one. If
-- there is none, something was taken before
abbrev pub Refusals : Name → Event → Refused → Type 0
Refusals name e r =
    (list : List Event) × IsLegalHistory name.base list × IsLastingRefusalOf (after name.base list) e r.refusal
    × MatchOption r.told (list ≢ []) (λ t. (t.name ≡ name) × (t.list ≡ list))

-- the area is configured
abbrev pub HasArea : Config → ℕ → Type 0
HasArea config id = (a : AreaConfig) × Contains config.areas a × (a.id ≡ id)

-- The summaries due in the area after some legal list, which is the list of the token if there is
-- one. If there is none, something was taken before
abbrev pub IsDueListOf : Name → ℕ → DueList → Type 0
IsDueListOf name area d =
    (list : List Event) × IsLegalHistory name.base list × (d.serial ≡ name.base.serial + length list) × IsDueIn (after name.base list) area (Some d.list.items)
    × MatchOption d.told (list ≢ []) (λ t. (t.name ≡ name) × (t.list ≡ list))

-- the answer of one event
abbrev pub IsAnswered : Name → Event → Result Answer Refused → Type 0
IsAnswered name e r = MatchResult r (IsAnswerTo name e) (Refusals name e)

-- each event has its own answer, at its place
abbrev pub AreAnswered : Name → List Event → List (Result Answer Refused) → Type 0
AreAnswered name events answers = AllZip (IsAnswered name) events answers

-- the area is configured where there is an answer, and the refusal is NoArea just where it is not
abbrev pub IsForArea : {A : Type 0} → Config → ℕ → Result A Refusal → Type 0
IsForArea config area answer = MatchResult answer (λ _. HasArea config area) (λ e. (e ≡ NoArea) ↔ (¬ (HasArea config area)))

-- the reply, with the token
abbrev pub IsReplyWith : Reply → Option TokenValue → Answer → Type 0
IsReplyWith reply told a = (a.reply.serial ≡ reply.serial) × (a.reply.changed ≡ reply.changed) × (a.told ≡ told)

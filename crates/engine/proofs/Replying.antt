-- The meaning of a token for the answer that it comes with.
use Rattle.std.proofs.Common.{◌≡◌, ◌≢◌, ◌≤◌, ◌+◌, ℕ, Bool, false, List, [], ◌∷◌, ◌++◌, length, Option, Some, None, IfSome, IfNone, MatchOption, sym, ap, subst, ◌∙◌, arith, append_assoc, length-append}
use Rattle.std.specs.Prelude.{◌↔◌, take}
use Rattle.std.proofs.lemmas.List.{length-take-le}
use mathlib.Core.List.{IsPrefix}
use Rattle.event_state.specs.declared.base.Base.{Base}
use Rattle.event_state.specs.declared.event.Event.{Event}
use Rattle.event_state.specs.States.{LooksAlike, serial_of}
use Rattle.event_state.specs.Rolls.{since, IsRolled}
use Rattle.event_state.specs.Steps.{run_of, standard_limits}
use Rattle.event_core.specs.Cores.{CoreValue, IsCore, IsTaken, state_of}
use Rattle.event_core.specs.declared.reply.Reply.{Reply}
use Rattle.event_core.specs.declared.reply.Status.TheVariants.{Current, Behind}
use Rattle.publication.specs.Names.{Name}
use Rattle.publication.specs.Published.{IsLegalHistory}
use Rattle.publication.specs.Told.{TokenValue}
use Rattle.publication.proofs.Prefixes.{prefix_shorter, prefix_whole, take_prefix}
use Rattle.engine.specs.Answers.{IsAnswerTo, IsReplyTo, after}
use Rattle.engine.specs.EngineStates.{Held, IsTokenFor}
use Rattle.engine.specs.declared.answer.Answer.{Answer}
use Rattle.engine.proofs.Runs.{accepted_whole, legal_core, legal_more, looks_across, serial_whole, whole_state}

-- for a core whose base these events were rolled into
module _ (first : Base) (rolled : List Event) (old : CoreValue) (is : IsRolled first standard_limits rolled old.base) (limits : old.limits ≡ standard_limits) where
  -- the reply to an event that the core takes is one to the whole list, which is legal
  pub replied : (new : CoreValue) (e : Event) (r s : Reply) → IsCore old → IsTaken old e r new → s.serial ≡ r.serial → s.changed ≡ r.changed → IsReplyTo first (rolled ++ old.journal) e s
  replied new e r s core taken serial changed =
      let list = rolled ++ old.journal in
      let more : rolled ++ (old.journal ++ e ∷ []) ≡ list ++ e ∷ [] = sym (append_assoc rolled old.journal (e ∷ [])) in
      let one : since first (state_of old) ≡ since first (after first list) = whole_state first rolled old is limits old.journal in
      let run : state_of new ≡ run_of old.base old.limits (old.journal ++ e ∷ []) = λ i. run_of (taken.base i) (taken.limits i) (taken.joins i) in
      let two : since first (state_of new) ≡ since first (after first (list ++ e ∷ [])) =
      ap (since first) run ∙ whole_state first rolled old is limits (old.journal ++ e ∷ []) ∙ ap (λ (l : List Event). since first (after first l)) more in
      let across = looks_across first (state_of old) (state_of new) (after first list) (after first (list ++ e ∷ [])) one two in
      let told = subst (λ (b : Bool). (b ≡ false) ↔ LooksAlike (state_of old) (state_of new)) (sym changed) taken.changed in
      let count : serial_of (state_of new) ≡ first.serial + length (rolled ++ (old.journal ++ e ∷ [])) = ap serial_of run ∙ serial_whole first rolled old is limits (old.journal ++ e ∷ []) in
      record {
        legal = legal_core first rolled old is limits core;
        accepted = accepted_whole first rolled old is limits e taken.accepted;
        serial = omega (arith, serial, taken.serial, count, ap length more, length-append list (e ∷ []));
        changed = (λ p. across.0 (told.0 p), λ l. told.1 (across.1 l));
      }

  -- the serial of the core is the serial of the whole list
  pub serial_now : (now : CoreValue) (serial : ℕ) → now ≡ old → serial ≡ serial_of (state_of now) → serial ≡ first.serial + length (rolled ++ old.journal)
  serial_now now serial same count = count ∙ ap (λ (v : CoreValue). serial_of (state_of v)) same ∙ serial_whole first rolled old is limits old.journal

-- the list that was built begins the whole one, and the core counts it
pub built_prefix : (rolled : List Event) (core : CoreValue) → IsPrefix (rolled ++ take core.built core.journal) (rolled ++ core.journal)
built_prefix rolled core =
    let rest = take_prefix core.built core.journal in
    (rest.0, append_assoc rolled (take core.built core.journal) rest.0 ∙ ap (λ (w : List Event). rolled ++ w) rest.1)

pub built_now : (first : Base) (rolled : List Event) (core : CoreValue) → IsRolled first standard_limits rolled core.base → core.built ≤ length core.journal → (serial : ℕ) → serial ≡ core.base.serial + core.built
    → serial ≡ first.serial + length (rolled ++ take core.built core.journal)
built_now first rolled core is within serial count =
    omega (arith, count, is.serial, length-append rolled (take core.built core.journal), length-take-le core.built core.journal within)

-- a token with the serial of the whole list has it
whole_list : (n : ℕ) (called name : Name) (list had whole : List Event) → called ≡ name → had ≡ whole → n ≡ name.base.serial + length whole → IsPrefix list had → n ≡ called.base.serial + length list → list ≡ whole
whole_list n called name list had whole same_name same count begins is =
    let base = ap (λ (m : Name). m.base.serial) same_name in
    prefix_whole list whole (subst (IsPrefix list) same begins) (omega (arith, base, count, is))

pub tells_whole : (called : Name) (had : List Event) (n : ℕ) (told : Option TokenValue) (name : Name) (whole : List Event) → called ≡ name → had ≡ whole → n ≡ name.base.serial + length whole
    → IfSome told (IsTokenFor called had n) → IfSome told (λ t. (t.name ≡ name) × (t.list ≡ whole))
tells_whole called had n None name whole same_name same count is = tt
tells_whole called had n (Some t) name whole same_name same count is = (is.0 ∙ same_name, whole_list n called name t.list had whole same_name same count is.1 is.2)

by_told : (name : Name) (before : List Event) (e : Event) (a : Answer) (told : Option TokenValue) → a.told ≡ told → IsLegalHistory name.base (before ++ e ∷ [])
    → MatchOption told (a.reply.state ≡ Behind) (λ _. a.reply.state ≡ Current)
    → IfSome told (λ t. (t.name ≡ name) × (t.list ≡ before ++ e ∷ []))
    → MatchOption a.told (a.reply.state ≡ Behind) (λ t. (a.reply.state ≡ Current) × (t.name ≡ name) × (t.list ≡ before ++ e ∷ []) × IsLegalHistory name.base t.list)
by_told name before e a None same legal state is = rw same state
by_told name before e a (Some t) same legal state is = rw same (state, is.0, is.1, subst (IsLegalHistory name.base) (sym is.1) legal)

pub answers : (name : Name) (before : List Event) (e : Event) (a : Answer) (told : Option TokenValue) (engine_state : Held) (serial : ℕ) → a.reply.serial ≡ serial → IsReplyTo name.base before e a.reply
    → a.told ≡ told
    → MatchOption told (a.reply.state ≡ Behind) (λ _. a.reply.state ≡ Current)
    → engine_state.name ≡ name → engine_state.list ≡ before ++ e ∷ []
    → IfSome told (IsTokenFor engine_state.name engine_state.list serial) → IsAnswerTo name e a
answers name before e a told engine_state serial as_said replies same state same_name whole is =
    let more = legal_more name.base before e replies.legal replies.accepted in
    let count : serial ≡ name.base.serial + length (before ++ e ∷ []) = omega (arith, as_said, replies.serial, length-append before (e ∷ [])) in (
      before,
      replies,
      by_told name before e a told same more state (tells_whole engine_state.name engine_state.list serial told name (before ++ e ∷ []) same_name whole count is),
    )

-- if an engine's state has no token for the serial of a list, that list is not empty: a published
-- list is no longer than the list that was built
unpublished : (first n : ℕ) (list published : List Event) → n ≡ first + length list → length published ≤ length list → ¬ (n ≡ first + length published) → list ≢ []
unpublished first n list published count short other is = other (omega (arith, count, ap length is, short))

-- a token for the serial of a beginning has that beginning
pub tells_beside : (name : Name) (had : List Event) (n : ℕ) (told : Option TokenValue) (published list : List Event) → IsPrefix list had → n ≡ name.base.serial + length list → length published ≤ length list
    → IfNone told (¬ (n ≡ name.base.serial + length published)) → IfSome told (IsTokenFor name had n) → MatchOption told (list ≢ []) (λ t. (t.name ≡ name) × (t.list ≡ list))
tells_beside name had n None published list begins count short none some = unpublished name.base.serial n list published count short none
tells_beside name had n (Some t) published list begins count short none some =
    let long : length t.list ≡ length list = omega (arith, count, some.2) in
    (some.0, prefix_whole t.list list (prefix_shorter t.list list had some.1 begins (omega (arith, long))) (omega (arith, long)))

-- A token for the whole list has its list, and it is the published one. If there is none, less is
-- published.
pub told_whole : (n : ℕ) (told : Option TokenValue) (name : Name) (whole published : List Event) → n ≡ name.base.serial + length whole
    → IfNone told (¬ (n ≡ name.base.serial + length published)) → IfSome told (IsTokenFor name whole n) → IfSome told (λ t. t.list ≡ published)
    → MatchOption told (¬ (length whole ≡ length published)) (λ t. (t.list ≡ whole) × (t.list ≡ published))
told_whole n None name whole published count none some same = λ e. none (omega (arith, count, e))
told_whole n (Some t) name whole published count none some same = (prefix_whole t.list whole some.1 (omega (arith, count, some.2)), same)

-- where there is no token for the whole list, less is published
pub none_whole : (first n : ℕ) (told : Option TokenValue) (whole published : List Event) → n ≡ first + length whole → IfNone told (¬ (n ≡ first + length published)) → IfNone told (¬ (length whole ≡ length published))
none_whole first n None whole published count none = λ e. none (omega (arith, count, e))
none_whole first n (Some t) whole published count none = tt

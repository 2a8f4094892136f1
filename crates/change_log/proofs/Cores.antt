-- The lists of due summaries of each core: no area is there twice, and each list is in order.
--   sound_lists, distinct_lists: the lists of a core
--   give_taken: the changes that are reported for a line follow those before
--   current_line: and table and due summaries follow the line
use Rattle.std.proofs.Common.{◌≡◌, ◌∙◌, ℕ, suc, Bool, true, false, List, [], ◌∷◌, ◌++◌, length, map, take, refl, sym, ap, subst, inl, inr, arith}
use Rattle.std.specs.Prelude.{Result, Ok, Err}
use Rattle.std.specs.List.{Contains}
use Rattle.ospf_types.specs.Inputs.{Inputs, Area}
use Rattle.ospf_types.specs.declared.config.AreaConfig.{AreaConfig}
use Rattle.ospf_types.proofs.Elements.{no_element, first_or_later, mapped_from}
use Rattle.ospf_types.proofs.RangeChanges.{areas_kept, ids_kept}
use Rattle.event_state.specs.declared.base.Base.{Base}
use Rattle.event_state.specs.declared.event.Event.{Event}
use Rattle.event_state.specs.declared.limits.Limits.{Limits}
use Rattle.event_state.specs.declared.refusal.Refusal.{Refusal}
use Rattle.event_state.specs.States.{AreAreasApart, State, inputs_of}
use Rattle.event_state.specs.Steps.{run_of}
use Rattle.event_state.proofs.Configs.{sound_apart}
use Rattle.event_state.proofs.Faultless.{faultless}
use Rattle.event_state.proofs.KeptConfigs.{kept_since}
use Rattle.event_core.specs.Cores.{CoreValue, Applies, IsCore, IsCurrent, MatchesStatus, built_state, state_of}
use Rattle.event_core.specs.Right.{AreDue, AreListsDue}
use Rattle.event_core.specs.declared.reply.Reply.{Reply}
use Rattle.event_core.specs.declared.reply.Status.{Status}
use Rattle.event_core.specs.declared.reply.Status.TheVariants.{Current, Behind}
use Rattle.recording.specs.declared.line.Line.{Line}
use Rattle.recording.specs.declared.line.Line.TheVariants as line
use Rattle.replay.specs.Runs.{RollsBy}
use Rattle.change_log.specs.Lines.{AtFault, Change, Found, Refused}
use Rattle.change_log.specs.Changes.{Give}
use Rattle.change_log.specs.Runs.{Comes, Fails, IsFoundIn, IsToldOf, KeepsShort, Says, Taken, TellsLine, TellsTaken, answered, told_of_roll}
use Rattle.change_log.proofs.DueChanges.{AreDistinct, AreSound, IsSound, Lists, ids_of}
use Rattle.change_log.proofs.Giving.{give_answered, give_more, give_still, give_unchanged}

-- ---- what is due in the areas

lists_sound : (s : Inputs) (areas : List Area) (lists : Lists) → AreListsDue s areas lists → AreSound lists
lists_sound s [] [] h e c = absurd (no_element e c)
lists_sound s [] (x ∷ lists) h e c = absurd h
lists_sound s (a ∷ areas) [] h e c = absurd h
lists_sound s (a ∷ areas) (x ∷ lists) h e c = elim (first_or_later x e lists c) [
  | inl same ↦ let here : IsSound x.1 = record { in_order = h.0.1.in_order; kinds = λ due there. ((h.0.1.exact due).0 there).1 } in subst (λ y. IsSound y.1) (sym same) here
  | inr later ↦ lists_sound s areas lists h.1 e later
]

lists_ids : (s : Inputs) (areas : List Area) (lists : Lists) → AreListsDue s areas lists → ids_of lists ≡ map (λ (a : Area). a.id) areas
lists_ids s [] [] h = refl
lists_ids s [] (x ∷ lists) h = absurd h
lists_ids s (a ∷ areas) [] h = absurd h
lists_ids s (a ∷ areas) (x ∷ lists) h = λ i. h.0.0 i ∷ lists_ids s areas lists h.1 i

abbrev config_ids : List AreaConfig → List ℕ
config_ids areas = map (λ (a : AreaConfig). a.id) areas

input_ids : (f : AreaConfig → Area) → ((a : AreaConfig) → (f a).id ≡ a.id) → (areas : List AreaConfig) → map (λ (a : Area). a.id) (map f areas) ≡ config_ids areas
input_ids f same [] = refl
input_ids f same (a ∷ areas) = λ i. same a i ∷ input_ids f same areas i

-- the lists of a state belong to the configured areas
due_ids : (b : Base) (limits : Limits) (es : List Event) (lists : Lists) → AreDue (run_of b limits es) lists → ids_of lists ≡ config_ids b.config.areas
due_ids b limits es lists due =
    let s : State = run_of b limits es in
    lists_ids (inputs_of s) (inputs_of s).areas lists due ∙ input_ids _ (λ a. refl) s.config.areas ∙ ids_kept s.config.areas b.config.areas (areas_kept s.config b.config (kept_since b limits es))

pub sound_lists : (c : CoreValue) → IsCore c → AreSound c.summaries
sound_lists c core = let s : State = built_state c in lists_sound (inputs_of s) (inputs_of s).areas c.summaries core.due

core_ids : (c : CoreValue) → IsCore c → ids_of c.summaries ≡ config_ids c.base.config.areas
core_ids c core = due_ids c.base c.limits (take c.built c.journal) c.summaries core.due

-- ---- no area is there twice

apart_distinct : (areas : List AreaConfig) → AreAreasApart areas → AreDistinct (config_ids areas)
apart_distinct [] apart = tt
apart_distinct (a ∷ areas) apart = (
  λ there. let (b, has, is) = mapped_from (λ (x : AreaConfig). x.id) areas a.id there in
      apart 0 (suc has.0) b (omega arith) (omega (arith, has.1)) (sym is ∙ sym (ap (λ (x : AreaConfig). x.id) has.2)),
  apart_distinct areas (λ i j d lt within. apart (suc i) (suc j) d (omega arith) (omega arith)),
)

pub distinct_lists : (c : CoreValue) → IsCore c → AreDistinct (ids_of c.summaries)
distinct_lists c core =
    subst AreDistinct (sym (core_ids c core)) (apart_distinct c.base.config.areas (sound_apart c.base.config (faultless c.limits c.base core.sound).config))

-- ---- one line

taken_right : (old new : CoreValue) (status : Status) → MatchesStatus old status new → IsCurrent new → AreDue (state_of new) new.summaries
taken_right old new Current stands current = stands.2
taken_right old new Behind stands current = let less = stands.3 in absurd (omega (arith, current, less))

event_gives : (answers : Bool) (before told : List Change) (old new : CoreValue) (e : Event) (answer : Result Reply Refusal) → IsCore old → Give before old → Applies old e answer new → IsToldOf answers old answer new told → Give (before ++ told) new
event_gives answers before told old new e (Ok reply) core given taken (current, differs) =
    let due : AreDue (state_of new) new.summaries = taken_right old new reply.state taken.stands current in
    let s : State = state_of new in
    let ids : ids_of new.summaries ≡ ids_of old.summaries =
    due_ids new.base new.limits new.journal new.summaries due ∙ ap (λ (b : Base). config_ids b.config.areas) taken.base ∙ sym (core_ids old core) in
    give_more before told old new given differs ids (distinct_lists old core) (lists_sound (inputs_of s) (inputs_of s).areas new.summaries due)
event_gives answers before told old new e (Err refusal) core given refused (may, is) =
    told_gives before told (answered answers (Refused refusal)) new is (give_answered answers before (Refused refusal) new (subst (Give before) (sym refused.unchanged) given) (λ items. refl) (λ id m. refl))
  where
    told_gives : (before told said : List Change) (c : CoreValue) → told ≡ said → Give (before ++ said) c → Give (before ++ told) c
    told_gives before told said c is given = subst (λ (changes : List Change). Give (before ++ changes) c) (sym is) given

roll_gives : (before : List Change) (old new : CoreValue) (answer : Result ℕ Refusal) → Give before old → RollsBy old answer new → Give before new
roll_gives before old new (Ok serial) given (current, rolled, is) = record {
  items = given.items ∙ ap (λ t. t.items) (sym rolled.table);
  due = λ e c. given.due e (subst (λ (lists : Lists). Contains lists e) rolled.summaries c);
}
roll_gives before old new (Err refusal) given (refused, same) = subst (Give before) (sym same) given

found_gives : (answers : Bool) (before told : List Change) (c : CoreValue) (address : ℕ) → Give before c → IsFoundIn answers c address told → Give (before ++ told) c
found_gives true before told c address given (found, is, same) =
    subst (λ (changes : List Change). Give (before ++ changes) c) (sym same) (give_unchanged before (Found address c.table.serial found) c given (λ items. refl) (λ id m. refl))
found_gives false before told c address given none = give_still before told c given none

rolled_gives : (answers : Bool) (before told : List Change) (c : CoreValue) (answer : Result ℕ Refusal) → Give before c → told ≡ told_of_roll answers answer → Give (before ++ told) c
rolled_gives answers before told c (Ok serial) given none = give_still before told c given none
rolled_gives answers before told c (Err refusal) given is =
    subst (λ (changes : List Change). Give (before ++ changes) c) (sym is) (give_answered answers before (Refused refusal) c given (λ items. refl) (λ id m. refl))

give_line : (answers : Bool) (before told : List Change) (old new : CoreValue) (l : Line) → IsCore old → Give before old → TellsLine answers old l new told → Give (before ++ told) new
give_line answers before told old new (line.Event e) core given (answer, applies, is) = event_gives answers before told old new e answer core given applies is
give_line answers before told old new (line.Lookup address) core given (found, same) =
    subst (λ (c : CoreValue). Give (before ++ told) c) (sym same) (found_gives answers before told old address given found)
give_line answers before told old new line.Roll core given (answer, rolls, is) = rolled_gives answers before told new answer (roll_gives before old new answer given rolls) is

short_gives : (before : List Change) (old new : CoreValue) → Give before old → KeepsShort old new → Give before new
short_gives before old new given (inl (short, same)) = subst (Give before) (sym same) given
short_gives before old new given (inr (inl (long, roll))) = roll_gives before old new (Ok roll.0) given roll.1
short_gives before old new given (inr (inr (long, room, same))) = subst (Give before) (sym same) given

pub give_taken : (answers : Bool) (before told : List Change) (old new : CoreValue) (t : Taken) → Give before old → TellsTaken answers old t new told → Give (before ++ told) new
give_taken answers before told old new (Says l) given (core, tells) = give_line answers before told old new l core given tells
give_taken answers before told old new (Comes l) given (ready, core, short, tells) = give_line answers before told ready new l core (short_gives before old ready given short) tells
give_taken answers before told old new (Fails f) given (is, same) =
    subst (λ (changes : List Change). Give (before ++ changes) new) (sym is) (give_unchanged before (AtFault f) new (subst (Give before) (sym same) given) (λ items. refl) (λ id m. refl))

event_current : (answers : Bool) (told : List Change) (old new : CoreValue) (e : Event) (answer : Result Reply Refusal) → IsCurrent old → Applies old e answer new → IsToldOf answers old answer new told → IsCurrent new
event_current answers told old new e (Ok reply) current taken (now, differs) = now
event_current answers told old new e (Err refusal) current refused none = subst IsCurrent (sym refused.unchanged) current

roll_current : (old new : CoreValue) (answer : Result ℕ Refusal) → IsCurrent old → RollsBy old answer new → IsCurrent new
roll_current old new (Ok serial) current (was, rolled, is) = rolled.built ∙ sym (ap length rolled.journal)
roll_current old new (Err refusal) current (refused, same) = subst IsCurrent (sym same) current

pub current_line : (answers : Bool) (told : List Change) (old new : CoreValue) (l : Line) → IsCurrent old → TellsLine answers old l new told → IsCurrent new
current_line answers told old new (line.Event e) current (answer, applies, is) = event_current answers told old new e answer current applies is
current_line answers told old new (line.Lookup address) current (found, same) = subst IsCurrent (sym same) current
current_line answers told old new line.Roll current (answer, rolls, is) = roll_current old new answer current rolls

pub short_current : (old new : CoreValue) → IsCurrent old → KeepsShort old new → IsCurrent new
short_current old new current (inl (short, same)) = subst IsCurrent (sym same) current
short_current old new current (inr (inl (long, roll))) = roll_current old new (Ok roll.0) current roll.1
short_current old new current (inr (inr (long, room, same))) = subst IsCurrent (sym same) current

pub current_taken : (answers : Bool) (told : List Change) (old new : CoreValue) (t : Taken) → IsCurrent old → TellsTaken answers old t new told → IsCurrent new
current_taken answers told old new (Says l) current (core, tells) = current_line answers told old new l current tells
current_taken answers told old new (Comes l) current (ready, core, short, tells) = current_line answers told ready new l (short_current old ready current short) tells
current_taken answers told old new (Fails f) current (is, same) = subst IsCurrent (sym same) current

-- An engine's state whose core is rolled stays kept: the history as it is then is what was rolled.
--   begun_as, whole_begun: the author's additions after the rolled history
--   rolled_kept, rolled_fresh: a roll
--   roll_refusal: the reason why there is none
--   rolled_base: the core's base
use Rattle.std.proofs.Common.{◌≡◌, ◌+◌, ℕ, suc, false, List, [], ◌∷◌, ◌++◌, length, take, Option, sym, ap, subst, ◌∙◌, arith, length-append, inl, inr}
use Rattle.std.proofs.lemmas.List.{append-nil}
use mathlib.Core.List.{IsPrefix}
use Rattle.event_state.specs.declared.base.Base.{Base}
use Rattle.event_state.specs.declared.event.Event.{Event}
use Rattle.event_state.specs.declared.refusal.Refusal.{Refusal}
use Rattle.event_state.specs.Rolls.{IsRolled}
use Rattle.event_state.specs.States.{State}
use Rattle.event_state.specs.Steps.{opening, run_of, standard_limits}
use Rattle.event_core.specs.Cores.{CoreValue, IsCore, Rolls, state_of, IsRollRefusal as IsCoreRefusal}
use Rattle.publication.specs.Lines.{HistoryLine}
use Rattle.publication.specs.Names.{Name}
use Rattle.publication.specs.declared.published_table.PublishedTable.{PublishedTable}
use Rattle.publication.specs.declared.published_table.Update.{Update}
use Rattle.publication.proofs.Prefixes.{prefix_self, prefix_take}
use Rattle.engine.specs.EngineStates.{Held, IsHistoryBegun, IsEngineKept, IsFresh, IsRollRefusal, list_of}
use Rattle.engine.proofs.Runs.{legal_core, serial_whole, whole_state}

-- a part of a list after another
take_past : (xs ys : List Event) (n : ℕ) → take (length xs + n) (xs ++ ys) ≡ xs ++ take n ys
take_past [] ys n =
    let count : length {A = Event} [] + n ≡ n = omega arith in
    ap (λ (k : ℕ). take k ys) count
take_past (x ∷ xs) ys n =
    let count : length (x ∷ xs) + n ≡ suc (length xs + n) = omega arith in
    ap (λ (k : ℕ). take k (x ∷ (xs ++ ys))) count ∙ ap (λ (zs : List Event). x ∷ zs) (take_past xs ys n)

-- a beginning of two lists in a row that has the first of them
pub begun_as : (rolled journal list : List Event) (n : ℕ) → length list ≡ length rolled + n → IsPrefix list (rolled ++ journal) → list ≡ rolled ++ take n journal
begun_as rolled journal list n long begins =
    prefix_take list (rolled ++ journal) begins ∙ ap (λ (k : ℕ). take k (rolled ++ journal)) long ∙ take_past rolled journal n

-- the whole list is begun, where all of it was built
pub whole_begun : (rolled : HistoryLine) (core : CoreValue) (list : List Event) → core.built ≡ length core.journal → list ≡ list_of rolled core → IsHistoryBegun rolled core list
whole_begun rolled core list built is = record {
  within = omega (arith, ap length is, length-append rolled.list core.journal);
  begins = subst (λ (l : List Event). IsPrefix l (list_of rolled core)) (sym is) (prefix_self (list_of rolled core));
  built = omega (arith, built, ap length is, length-append rolled.list core.journal);
}

-- ---- a roll

-- the core's base is the state after the whole list
pub rolled_base : (first : Base) (rolled : List Event) (old new : CoreValue) → IsRolled first standard_limits rolled old.base → old.limits ≡ standard_limits → IsCore old → Rolls old new
    → IsRolled first standard_limits (rolled ++ old.journal) new.base
rolled_base first rolled old new is limits core rolls =
    let whole = run_of first standard_limits (rolled ++ old.journal) in
    let now : state_of new ≡ opening new.base standard_limits = λ i. run_of new.base ((rolls.limits ∙ limits) i) (rolls.journal i) in
    record {
      legal = legal_core first rolled old is limits core;
      state = sym now ∙ rolls.state ∙ ap (λ (s : State). record s { base = new.base; journal = [] }) (whole_state first rolled old is limits old.journal);
      serial = rolls.base.serial ∙ serial_whole first rolled old is limits old.journal;
    }

-- the published, or written, list is the whole list before and after
rolled_begun : (old new : CoreValue) (rolled next : HistoryLine) (list : List Event) → Rolls old new → next.list ≡ list_of rolled old → list ≡ list_of rolled old → IsHistoryBegun next new list
rolled_begun old new rolled next list rolls same is =
    whole_begun next new list (rolls.built ∙ sym (ap length rolls.journal))
    (is ∙ sym same ∙ sym (append-nil next.list) ∙ ap (λ (j : List Event). next.list ++ j) (sym rolls.journal))

pub rolled_kept : (old new : CoreValue) (history rolled next : HistoryLine) (shown : PublishedTable) (known : Option Name) → IsCore old → Rolls old new → next ≡ history
    → shown.front.list ≡ list_of rolled old → history.list ≡ list_of rolled old → IsEngineKept old history rolled shown known → IsEngineKept new history next shown known
rolled_kept old new history rolled next shown known core rolls as_written published written kept =
    let same : next.list ≡ list_of rolled old = ap (λ (l : HistoryLine). l.list) as_written ∙ written in
    record {
      book = kept.book;
      base = subst (λ (list : List Event). IsRolled shown.base standard_limits list new.base) (sym same) (rolled_base shown.base rolled.list old new kept.base kept.limits core rolls);
      known_is = kept.known_is;
      limits = rolls.limits ∙ kept.limits;
      right = kept.right;
      published = rolled_begun old new rolled next shown.front.list rolls same published;
      written = rolled_begun old new rolled next history.list rolls same written;
    }

-- the whole list is unchanged
pub rolled_list : (old new : CoreValue) (history rolled next : HistoryLine) → Rolls old new → next ≡ history → history.list ≡ list_of rolled old → list_of next new ≡ list_of rolled old
rolled_list old new history rolled next rolls as_written written =
    ap (λ (j : List Event). next.list ++ j) rolls.journal ∙ append-nil next.list ∙ ap (λ (l : HistoryLine). l.list) as_written ∙ written

-- and so nothing follows
pub rolled_fresh : (old new : CoreValue) (history rolled next : HistoryLine) (shown : PublishedTable) (pending : List Update) → Rolls old new → next ≡ history → IsFresh false old history rolled shown pending
    → IsFresh false new history next shown pending
rolled_fresh old new history rolled next shown pending rolls as_written fresh =
    let same = sym (rolled_list old new history rolled next rolls as_written fresh.2) in
    (fresh.0, fresh.1 ∙ same, fresh.2 ∙ same)

-- where a core is not rolled, less is published than was taken; or all of it is, and memory ran out
pub roll_refusal : (core : CoreValue) (rolled : HistoryLine) (shown : PublishedTable) (d : Held) (r : Refusal) → core.built ≡ length core.journal → shown.front.list ≡ list_of rolled core
    → d.published ≡ shown.front.list → d.list ≡ list_of rolled core → IsCoreRefusal core r → IsRollRefusal d r
roll_refusal core rolled shown d r current whole published list (inl behind) = absurd (behind.1 current)
roll_refusal core rolled shown d r current whole published list (inr none) = inr (none.0, published ∙ whole ∙ sym list)

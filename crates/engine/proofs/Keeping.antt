-- The rule of the state under the lock is kept: by an event, by catching up, by an addition of the
-- author, by a publication, and by a roll.
--   core_kept: the core took an event, or caught up
--   author_kept: the author added to the history
--   shown_kept: something was published, or it was refused
--   shown_fresh: the published table reflects the whole list
--   opened_right: the first published table is right
--   caught_up: the answer of catching up
--   opened_kept, opened_fresh: the first state
use Rattle.std.proofs.Common.{◌≡◌, ◌≤◌, ◌+◌, ℕ, zero, suc, Bool, true, false, List, [], ◌∷◌, ◌++◌, length, Option, Some, None, MatchBool, refl, sym, ap, subst, ◌∙◌, arith, append_assoc, length-append}
use Rattle.std.specs.Prelude.{◌<◌, not}
use mathlib.Core.List.{IsPrefix}
use mathlib.Core.Option.{some}
use lib.ListN.{get_elem?}
use Rattle.event_state.specs.declared.base.Base.{Base}
use Rattle.event_state.specs.declared.event.Event.{Event}
use Rattle.event_state.specs.Rolls.{IsRolled}
use Rattle.event_state.specs.Steps.{standard_limits}
use Rattle.event_state.proofs.Rolls.{rolled_none}
use Rattle.event_core.specs.Cores.{CoreValue, IsCore, MatchesStatus}
use Rattle.event_core.specs.declared.reply.Status.{Status}
use Rattle.event_core.specs.declared.reply.Status.TheVariants.{Current, Behind}
use Rattle.publication.specs.Lines.{HistoryLine}
use Rattle.publication.specs.Names.{Name}
use Rattle.publication.specs.Published.{IsTableFor, IsShownRight, name_of}
use Rattle.publication.specs.declared.published_table.PublishedState.{PublishedState}
use Rattle.publication.specs.declared.published_table.PublishedTable.{PublishedTable}
use Rattle.publication.specs.declared.published_table.Update.{Update}
use Rattle.publication.specs.Updates.{shown_state_of}
use Rattle.route_table.specs.Tables.{TableValue}
use Rattle.publication.proofs.Prefixes.{prefix_length, prefix_trans}
use Rattle.engine.specs.EngineStates.{Held, IsHistoryBegun, IsEngineKept, IsFresh, CatchesUp, list_of}
use Rattle.engine.proofs.Runs.{table_whole}

-- table and due summaries are of no fewer events than before
built_stays : (old new : CoreValue) (s : Status) (m n : ℕ) → n ≤ m + old.built → n ≤ m + length new.journal → MatchesStatus old s new → n ≤ m + new.built
built_stays old new Current m n was within stands = omega (arith, within, stands.0)
built_stays old new Behind m n was within stands = omega (arith, was, stands.0)

-- the whole list begins with what it was
more_whole : (rolled : HistoryLine) (old new : CoreValue) → IsPrefix old.journal new.journal → IsPrefix (list_of rolled old) (list_of rolled new)
more_whole rolled old new more = (more.0, append_assoc rolled.list old.journal more.0 ∙ ap (λ (w : List Event). rolled.list ++ w) more.1)

begun_stays : (old new : CoreValue) (s : Status) (rolled : HistoryLine) (list : List Event) → IsPrefix old.journal new.journal → MatchesStatus old s new → IsHistoryBegun rolled old list → IsHistoryBegun rolled new list
begun_stays old new s rolled list more stands begun =
    let prefix = prefix_trans list (list_of rolled old) (list_of rolled new) begun.begins (more_whole rolled old new more) in
    let short : length list ≤ length rolled.list + length new.journal = omega (arith, prefix_length list (list_of rolled new) prefix, length-append rolled.list new.journal) in
    record { within = begun.within; begins = prefix; built = built_stays old new s (length rolled.list) (length list) begun.built short stands }

pub core_kept : (old new : CoreValue) (s : Status) (history rolled : HistoryLine) (shown : PublishedTable) (known : Option Name) → new.base ≡ old.base → new.limits ≡ old.limits → IsPrefix old.journal new.journal → MatchesStatus old s new
    → IsEngineKept old history rolled shown known → IsEngineKept new history rolled shown known
core_kept old new s history rolled shown known base limits more stands kept = record {
  book = kept.book;
  base = subst (IsRolled shown.base standard_limits rolled.list) (sym base) kept.base;
  known_is = kept.known_is;
  limits = limits ∙ kept.limits;
  right = kept.right;
  published = begun_stays old new s rolled shown.front.list more stands kept.published;
  written = begun_stays old new s rolled history.list more stands kept.written;
}

pub author_kept : (core : CoreValue) (old new rolled : HistoryLine) (shown : PublishedTable) (known : Option Name) → new.book ≡ old.book → IsHistoryBegun rolled core new.list → IsEngineKept core old rolled shown known → IsEngineKept core new rolled shown known
author_kept core old new rolled shown known book begun kept = record {
  book = book ∙ kept.book;
  base = kept.base;
  known_is = kept.known_is;
  limits = kept.limits;
  right = kept.right;
  published = kept.published;
  written = begun;
}

-- events that were rolled from the base of a name were rolled from that of an equal name
rolled_as : (rolled : List Event) (base : Base) (old new : PublishedTable) → name_of new ≡ name_of old → IsRolled old.base standard_limits rolled base → IsRolled new.base standard_limits rolled base
rolled_as rolled base old new name is = subst (λ (b : Base). IsRolled b standard_limits rolled base) (sym (ap (λ (n : Name). n.base) name)) is

pub shown_kept : (core : CoreValue) (history front rolled : HistoryLine) (old new : PublishedTable) (was known : Option Name) (done : Bool) → front ≡ history → name_of new ≡ name_of old
    → MatchBool done ((new.front ≡ front) × IsShownRight new) (new ≡ old) → MatchBool done (known ≡ Some (name_of old)) (known ≡ was)
    → IsEngineKept core history rolled old was → IsEngineKept core history rolled new known
shown_kept core history front rolled old new was known true lent name shown told kept = record {
  book = kept.book ∙ sym (ap (λ (n : Name). n.book) name);
  base = rolled_as rolled.list core.base old new name kept.base;
  known_is = told ∙ ap Some (sym name);
  limits = kept.limits;
  right = shown.1;
  published = subst (λ (l : HistoryLine). IsHistoryBegun rolled core l.list) (sym (shown.0 ∙ lent)) kept.written;
  written = kept.written;
}
shown_kept core history front rolled old new was known false lent name shown told kept = record {
  book = kept.book ∙ sym (ap (λ (n : Name). n.book) name);
  base = rolled_as rolled.list core.base old new name kept.base;
  known_is = told ∙ kept.known_is ∙ ap Some (sym name);
  limits = kept.limits;
  right = subst IsShownRight (sym shown) kept.right;
  published = subst (λ (x : PublishedTable). IsHistoryBegun rolled core x.front.list) (sym shown) kept.published;
  written = kept.written;
}

pub shown_fresh : (core : CoreValue) (history front rolled : HistoryLine) (old new : PublishedTable) (pending : List Update) (done : Bool) → front ≡ history → history.list ≡ list_of rolled core
    → length old.front.list < length (list_of rolled core)
    → MatchBool done ((new.front ≡ front) × IsShownRight new) (new ≡ old) → (done ≡ true → pending ≡ []) → IsFresh (not done) core history rolled new pending
shown_fresh core history front rolled old new pending true lent whole behind shown empty = (empty refl, ap (λ (l : HistoryLine). l.list) (shown.0 ∙ lent) ∙ whole, whole)
shown_fresh core history front rolled old new pending false lent whole behind shown empty = subst (λ (x : PublishedTable). length x.front.list < length (list_of rolled core)) (sym shown) behind

-- a table of the whole list may be published for the history
pub table_shown : (core : CoreValue) (history rolled : HistoryLine) (shown : PublishedTable) (known : Option Name) → IsCore core → IsEngineKept core history rolled shown known → history.list ≡ list_of rolled core → core.built ≡ length core.journal
    → IsTableFor shown.base history.list core.table
table_shown core history rolled shown known is kept whole built =
    subst (λ (list : List Event). IsTableFor shown.base list core.table) (sym whole) (table_whole shown.base rolled.list core kept.base kept.limits is built)

-- the table of a core that took nothing is right for the empty list
pub opened_table : (core : CoreValue) (base : Base) (list : List Event) (table : TableValue) → IsCore core → core.limits ≡ standard_limits → core.journal ≡ [] → base ≡ core.base → list ≡ [] → table ≡ core.table
    → IsTableFor base list table
opened_table core base list table is limits none same_base empty same_table =
    let built : core.built ≡ length core.journal = omega (arith, is.within, ap length none) in
    let same_list : core.journal ≡ list = none ∙ sym empty in
    subst (λ (z : Base × List Event × TableValue). IsTableFor z.0 z.1 z.2) (λ i. (sym same_base i, same_list i, sym same_table i))
    (table_whole core.base [] core (rolled_none core.base standard_limits) limits is built)

-- the first published table is the opening core's table
pub opened_right : (core : CoreValue) (front : HistoryLine) (x : PublishedTable) → IsCore core → core.limits ≡ standard_limits → core.journal ≡ [] → front.list ≡ []
    → shown_state_of x ≡ record { table = core.table; front = front; base = core.base } → IsShownRight x
opened_right core front x is limits none first face =
    opened_table core x.base x.front.list x.table is limits none (ap (λ (f : PublishedState). f.base) face) (ap (λ (f : PublishedState). f.front.list) face ∙ first) (ap (λ (f : PublishedState). f.table) face)

pub match_true : (A B : Type 0) (b : Bool) → b ≡ true → MatchBool b A B → A
match_true A B true e h = h
match_true A B false e h = absurd (cc e)

-- at first nobody knows a name
pub none_named : (name : Name) (seat : ℕ) (n : Name) → get_elem? (None ∷ []) seat ≡ some (Some n) → n ≡ name
none_named name zero n e = absurd (cc e)
none_named name (suc k) n e = absurd (cc e)

-- the answer of the core's catching up, as the answer of an engine's state
pub caught_up : (old new : CoreValue) (s : Status) (rolled : HistoryLine) (before after : Held) → before.built ≡ length rolled.list + old.built → after.list ≡ list_of rolled new → after.built ≡ length rolled.list + new.built
    → MatchesStatus old s new → CatchesUp before s after
caught_up old new Current rolled before after built list now stands = omega (arith, now, stands.0, ap length list, length-append rolled.list new.journal)
caught_up old new Behind rolled before after built list now stands =
    (omega (arith, now, stands.0, built), omega (arith, now, ap length list, length-append rolled.list new.journal, stands.3))

-- ---- the first state

no_list : (rolled : HistoryLine) (core : CoreValue) → rolled.list ≡ [] → core.journal ≡ [] → list_of rolled core ≡ []
no_list rolled core none_rolled none = λ i. none_rolled i ++ none i

-- nothing was taken, rolled, written or published
begun_none : (rolled : HistoryLine) (core : CoreValue) (list : List Event) → rolled.list ≡ [] → core.journal ≡ [] → list ≡ [] → IsHistoryBegun rolled core list
begun_none rolled core list none_rolled none is = record {
  within = omega (arith, ap length none_rolled);
  begins = subst (λ (l : List Event). IsPrefix l (list_of rolled core)) (sym is) (list_of rolled core, refl);
  built = omega (arith, ap length is);
}

pub opened_kept : (core : CoreValue) (history rolled : HistoryLine) (shown : PublishedTable) (known : Option Name) → core.journal ≡ [] → core.limits ≡ standard_limits → rolled.list ≡ [] → history.list ≡ [] → shown.front.list ≡ []
    → history.book ≡ shown.front.book → shown.base ≡ core.base → known ≡ Some (name_of shown) → IsShownRight shown → IsEngineKept core history rolled shown known
opened_kept core history rolled shown known none limits none_rolled none_written none_shown book base known_is right = record {
  book = book;
  base = subst (λ (z : Base × List Event). IsRolled z.0 standard_limits z.1 core.base) (λ i. (sym base i, sym none_rolled i)) (rolled_none core.base standard_limits);
  known_is = known_is;
  limits = limits;
  right = right;
  published = begun_none rolled core shown.front.list none_rolled none none_shown;
  written = begun_none rolled core history.list none_rolled none none_written;
}

pub opened_fresh : (core : CoreValue) (history rolled : HistoryLine) (shown : PublishedTable) (pending : List Update) → core.journal ≡ [] → rolled.list ≡ [] → history.list ≡ [] → shown.front.list ≡ [] → pending ≡ []
    → IsFresh false core history rolled shown pending
opened_fresh core history rolled shown pending none none_rolled none_written none_shown clean =
    let whole = no_list rolled core none_rolled none in
    (clean, none_shown ∙ sym whole, none_written ∙ sym whole)

-- The events that a forwarder learns of, and its lookup afterwards.
use Rattle.std.proofs.Common.{ℕ, ◌≡◌, ◌⊎◌, ◌<◌, ◌+◌, ◌++◌, ◌∙◌, Bool, true, false, List, [], ◌∷◌, Some, None, Result, Ok, Err, IfOk, length, length-append, ap, sym, subst, refl, arith, inl, inr}
use Rattle.std.specs.Prelude.{nat_le, ◌||◌}
use Rattle.std.proofs.lemmas.Bool.Decides.{nat_tests}
use mathlib.Core.List.{IsPrefix}
use Rattle.ospf_types.specs.FirstOf.{first_of}
use Rattle.ospf_types.specs.Text.{address_text}
use Rattle.event_state.specs.declared.base.Base.{Base}
use Rattle.event_state.specs.declared.event.Event.{Event}
use Rattle.event_state.specs.declared.limits.Limits.{Limits}
use Rattle.event_state.specs.declared.refusal.Refusal.{Refusal}
use Rattle.event_state.specs.declared.refusal.Refusal.TheVariants as refusal
use Rattle.event_state.specs.Bases.{bare, most_serial}
use Rattle.event_state.specs.Refusals.{IsLastingRefusalOf, IsRefusalOf}
use Rattle.event_state.specs.States.{State, serial_of}
use Rattle.event_state.specs.Steps.{early_tests_of, late_tests_of, is_journal_full, lasting_refusal_of, opening, refusal_of, standard_limits}
use Rattle.event_state.proofs.Rolls.{further_run, run_serial}
use Rattle.engine.specs.Answers.{IsAnswerTo, Refusals, after}
use Rattle.engine.specs.declared.answer.Answer.{Answer}
use Rattle.engine.specs.declared.answer.Refused.{Refused}
use Rattle.route_table.specs.Tables.{IsMatch}
use Rattle.publication.specs.Forwarders.{ForwarderValue, SeenValue, IsLookup}
use Rattle.publication.specs.Names.{Name}
use Rattle.publication.specs.Published.{IsTableFor}
use Rattle.publication.specs.Told.{TokenValue}
use Rattle.publication.proofs.Prefixes.{prefix_length, prefix_shorter, prefix_trans, prefix_whole}
use Rattle.cli_queries.specs.declared.command_fault.CommandFault.{CommandFault}
use Rattle.cli_queries.specs.One.{OneArguments, HasLearned, PrintsMatch, PrintsSeen, both_events, config_of, lookup_line}

-- two beginnings of one list that are of one length
pub same_beginning : {A : Type 0} (xs ys zs : List A) → IsPrefix xs zs → IsPrefix ys zs → length xs ≡ length ys → xs ≡ ys
same_beginning xs ys zs p q same = prefix_whole xs ys (prefix_shorter xs ys zs p q (omega (arith, same))) (omega (arith, same))

-- the list that is learned is the token's, if it is longer than the one that was known
longer_is : {A : Type 0} (known told now : List A) → IsPrefix told now → (now ≡ known) ⊎ (now ≡ told) → length told ≡ length known + 1 → now ≡ told
longer_is known told now p (inr same) more = same
longer_is known told now p (inl same) more =
    let short = prefix_length told known (subst (IsPrefix told) same p) in
    absurd (omega (arith, short, more))

-- if a list and an event are in a token, the list was known
pub known_before : {A : Type 0} (known told now before : List A) (e : A) → IsPrefix known now → IsPrefix told now → told ≡ before ++ e ∷ [] → length told ≡ length known + 1 → before ≡ known
known_before known told now before e p q is more =
    let within = prefix_trans before told now (e ∷ [], sym is) q in
    let count = ap length is ∙ length-append before (e ∷ []) in
    same_beginning before known now within p (omega (arith, count, more))

pub known_more : {A : Type 0} (known told now before : List A) (e : A) → IsPrefix known now → IsPrefix told now → (now ≡ known) ⊎ (now ≡ told) → told ≡ before ++ e ∷ []
    → length told ≡ length known + 1 → now ≡ known ++ e ∷ []
known_more known told now before e p q one is more =
    longer_is known told now q one more ∙ is ∙ ap (λ xs. xs ++ e ∷ []) (known_before known told now before e p q is more)

-- ---- the journal of so few events is not full

without_test : {X : Type 0} (xs ys : List (Bool × X)) (x : X) → first_of (xs ++ (false, x) ∷ ys) ≡ first_of (xs ++ ys)
without_test [] ys x = refl
without_test ((true, y) ∷ xs) ys x = refl
without_test ((false, y) ∷ xs) ys x = without_test xs ys x

room_for : (limit serial count : ℕ) → count < limit → serial < most_serial → (nat_le limit count || nat_le most_serial serial) ≡ false
room_for limit serial count few early = grind (arith, nat_tests)

module _ (base : Base) (known : List Event) (first : base.serial ≡ 0) (few : length known < 2) where
  not_full : is_journal_full (after base known) ≡ false
  not_full =
      let is = further_run (opening base standard_limits) known in
      let limit : (after base known).limits.events ≡ 1000000 = ap (λ (l : Limits). l.events) is.limits in
      room_for (after base known).limits.events (serial_of (after base known)) (length (after base known).journal) (omega (arith, limit, ap length is.journal, few))
      (omega (arith, run_serial base standard_limits known, first, few))

  -- so a refusal is the one that lasts
  lasting_is : (e : Event) → refusal_of (after base known) e ≡ lasting_refusal_of (after base known) e
  lasting_is e =
      let s : State = after base known in
      ap (λ (b : Bool). first_of (early_tests_of s e ++ (b, refusal.JournalFull) ∷ late_tests_of s e)) not_full ∙ without_test (early_tests_of s e) (late_tests_of s e) refusal.JournalFull

  refusal_is : (e : Event) (r : Refusal) → ¬ (r ≡ refusal.JournalFull) → IsLastingRefusalOf (after base known) e r → IsRefusalOf (after base known) e r
  refusal_is e r other (inl some) = inl (lasting_is e ∙ some)
  refusal_is e r other (inr (inl (memory, none))) = inr (memory, lasting_is e ∙ none)
  refusal_is e r other (inr (inr (full, none))) = absurd (other full)

-- ---- the promises of an engine

-- an answer with a token
told_answer : (name : Name) (e : Event) (a : Answer) (t : TokenValue) → IsAnswerTo name e a → a.told ≡ Some t
    → (before : List Event) × (lasting_refusal_of (after name.base before) e ≡ None) × (t.list ≡ before ++ e ∷ [])
told_answer name e a t h is = (h.0, h.1.accepted, (rw is at h.2).2)

pub taken : (name : Name) (e : Event) (a : Answer) (t : TokenValue) (f : ForwarderValue) (count : ℕ) (r : Result ForwarderValue CommandFault) → IsAnswerTo name e a → a.told ≡ Some t → f.name ≡ name
    → length f.known ≡ count → IfOk r (λ x. x.name ≡ f.name) → IfOk r (λ x. HasLearned f.known t.list x.known) → IfOk r (λ _. length t.list ≡ count + 1)
    → IfOk r (λ x. (x.name ≡ name) × (x.known ≡ f.known ++ e ∷ []))
taken name e a t f count (Err x) h told same len named learned longer = tt
taken name e a t f count (Ok x) h told same len named learned longer =
    let of = told_answer name e a t h told in (
      named ∙ same,
      known_more f.known t.list x.known of.0 e learned.before learned.told_too learned.one of.2 (omega (arith, longer, len)),
    )

pub accepted : (name : Name) (e : Event) (a : Answer) (t : TokenValue) (f : ForwarderValue) (count : ℕ) (r : Result ForwarderValue CommandFault) → name.base.serial ≡ 0 → count < 2 → IsAnswerTo name e a → a.told ≡ Some t
    → length f.known ≡ count → IfOk r (λ x. HasLearned f.known t.list x.known) → IfOk r (λ _. length t.list ≡ count + 1)
    → IfOk r (λ _. refusal_of (after name.base f.known) e ≡ None)
accepted name e a t f count (Err x) first few h told len learned longer = tt
accepted name e a t f count (Ok x) first few h told len learned longer =
    let of = told_answer name e a t h told in
    let same = known_before f.known t.list x.known of.0 e learned.before learned.told_too of.2 (omega (arith, longer, len)) in
    lasting_is name.base f.known first (omega (arith, len, few)) e ∙ subst (λ (list : List Event). lasting_refusal_of (after name.base list) e ≡ None) same of.1

pub refused_so : (name : Name) (e : Event) (a : Refused) (t : TokenValue) (known now : List Event) (count : ℕ) → name.base.serial ≡ 0 → count < 2 → ¬ (a.refusal ≡ refusal.JournalFull) → Refusals name e a → a.told ≡ Some t
    → length known ≡ count → HasLearned known t.list now → length t.list ≡ count → IsRefusalOf (after name.base known) e a.refusal
refused_so name e a t known now count first few other h told len learned same =
    let list : t.list ≡ h.0 = (rw told at h.3).1 in
    let whole = same_beginning t.list known now learned.told_too learned.before (omega (arith, len, same)) in
    refusal_is name.base known first (omega (arith, len, few)) e a.refusal other (subst (λ (xs : List Event). IsLastingRefusalOf (after name.base xs) e a.refusal) (sym list ∙ whole) h.2)

-- ---- what was seen

pub seen_prints : (g : OneArguments) (f : ForwarderValue) (s : SeenValue) (line : List ℕ) → f.name.base ≡ bare (config_of g) → f.known ≡ both_events g → IsLookup f g.lookup s → PrintsSeen s line → PrintsMatch g line
seen_prints g f s line base known sights h =
    let begun : IsPrefix (both_events g) s.list = subst (λ xs. IsPrefix xs s.list) known sights.2 in
    let whole : both_events g ≡ s.list = prefix_whole (both_events g) s.list begun (omega (arith, h.both)) in
    let right : IsTableFor (bare (config_of g)) (both_events g) s.table = subst (λ (z : Base × List Event). IsTableFor z.0 z.1 s.table) (λ i. ((ap (λ n. n.base) sights.0 ∙ base) i, sym whole i)) h.right in
    let serial = run_serial (bare (config_of g)) standard_limits (both_events g) in
    record {
      table = s.table;
      right = record { legal = right.0; right = record { routes = right.1.routes; discards = right.1.discards; serial = right.1.serial ∙ sym serial } };
      found = h.found;
      matched = subst (λ (a : ℕ). IsMatch s.table.items a h.found) sights.1 h.matched;
      printed = h.printed ∙ ap (λ (a : ℕ). lookup_line (address_text a) s.table h.found) sights.1;
    }

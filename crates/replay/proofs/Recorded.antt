-- Lines of a recording, as text and as objects.
use Rattle.std.proofs.Common.{◌≡◌, ◌≢◌, ◌∙◌, ◌++◌, ◌<◌, ℕ, true, false, List, [], ◌∷◌, All, map, length, get_or, Option, Some, None, MatchOption, refl, sym, ap, subst, append_assoc, arith}
use Rattle.std.specs.Prelude.{◌==◌}
use Rattle.std.specs.List.{flat_map}
use Rattle.std.proofs.lemmas.List.{length-append}
use Rattle.std.proofs.lemmas.List.Concat.{flat_map-append}
use Rattle.std.proofs.lemmas.List.Elements.{All-get_or, All-head, All-tail}
use Rattle.std.proofs.lemmas.Str.Pattern.{IsSplitOnceResult, split_after, split_parts}
use denote.Ref.{Bor}
use Rattle.output_lines.specs.declared.format.Format.{Format}
use Rattle.output_lines.specs.declared.format.Format.TheVariants.{Text, Json}
use Rattle.event_state.specs.declared.base.Base.{Base}
use Rattle.event_state.specs.declared.event.Event.{Event}
use Rattle.event_core.specs.Cores.{CoreValue}
use Rattle.recording.specs.declared.line.Line.TheVariants as line
use Rattle.recording.specs.declared.version.Version.{Version}
use Rattle.recording.specs.Forms.{Form, IsForm, line_text}
use Rattle.recording.specs.Recordings.{front_forms, form_of, ended, text_of_forms}
use Rattle.recording.proofs.Forms.{no_line_feed}
use Rattle.output_lines.specs.Members.{json_line}
use Rattle.replay.specs.JsonLines.{recorded_data}
use Rattle.replay.specs.Lines.{IsTextOf, event_line, forms_text, recorded_line, recorded_text}
use Rattle.replay.specs.Outputs.{journal_of}
use Rattle.replay.specs.Pages.{AddsLines, AddsPart}
use Rattle.replay.specs.Stops.{AreWholeLines}
use Rattle.replay.specs.declared.buffer.PrintError.{PrintError}
use Rattle.replay.specs.declared.buffer.PrintError.TheVariants as stop
use Rattle.replay.proofs.Wholes.{recorded_whole, forms_whole}
use Rattle.replay.proofs.Paging.{adds_none, adds_put, adds_more, page_whole, part_more, part_longer, Adding, adding_none, adding_more, adding_part, adding_stopped, adding_whole}

-- ---- a journal: the lines of its base, and those of its events

event_texts : (events : List Event) → flat_map ended (map form_of (map line.Event events)) ≡ flat_map (event_line Text) events
event_texts [] = refl
event_texts (e ∷ events) = ap (λ l. event_line Text e ++ l) (event_texts events)

event_objects : (events : List Event) → flat_map recorded_line (map form_of (map line.Event events)) ≡ flat_map (event_line Json) events
event_objects [] = refl
event_objects (e ∷ events) = ap (λ l. event_line Json e ++ l) (event_objects events)

pub journal_text : (format : Format) (v : Version) (c : CoreValue) → recorded_text format (journal_of v c) ≡ forms_text format (front_forms v c.base) ++ flat_map (event_line format) c.journal
journal_text Text v c =
    flat_map-append ended (front_forms v c.base) (map form_of (map line.Event c.journal)) ∙ ap (λ l. text_of_forms (front_forms v c.base) ++ l) (event_texts c.journal)
journal_text Json v c =
    flat_map-append recorded_line (front_forms v c.base) (map form_of (map line.Event c.journal)) ∙ ap (λ l. flat_map recorded_line (front_forms v c.base) ++ l) (event_objects c.journal)

-- the lines of the base, and those of the events after them
module _ (format : Format) (v : Version) (c : CoreValue) (events : List Event) (same : events ≡ c.journal) where
  abbrev front : List ℕ
  front = forms_text format (front_forms v c.base)

  abbrev behind : List ℕ
  behind = flat_map (event_line format) events

  both : front ++ behind ≡ recorded_text format (journal_of v c)
  both = ap (λ (es : List Event). front ++ flat_map (event_line format) es) same ∙ sym (journal_text format v c)

  pub journal_adds : (x y z : Option (List ℕ)) (before buffer put : List ℕ) → AddsLines x y before buffer front → AddsLines y z buffer put behind → AddsLines x z before put (recorded_text format (journal_of v c))
  journal_adds x y z before buffer put first second = subst (λ l. AddsLines x z before put l) both (adds_more x y z before buffer put front behind first second)

  pub journal_begun : (why : PrintError) (x y : Option (List ℕ)) (before : List ℕ) → AddsPart why x y (before ++ front) → AddsPart why x y (before ++ recorded_text format (journal_of v c))
  journal_begun why x y before part = subst (λ l. AddsPart why x y (before ++ l)) both (part_longer why x y before front behind part)

  pub journal_stopped : (why : PrintError) (x y z : Option (List ℕ)) (before buffer : List ℕ) → AreWholeLines before → AddsLines x y before buffer front → (AreWholeLines buffer → AddsPart why y z (buffer ++ behind))
      → AddsPart why x z (before ++ recorded_text format (journal_of v c))
  journal_stopped why x y z before buffer whole first stopped =
      subst (λ l. AddsPart why x z (before ++ l)) both (part_more why x y z before buffer front behind whole first (stopped (page_whole x y before buffer front first whole)))

-- the lines of a base are appended to the buffer, as text
pub front_put : (format : Format) (a : Option (List ℕ)) (buffer put : List ℕ) (v : Version) (base other : Base) → format ≡ Text → base ≡ other → put ≡ buffer ++ text_of_forms (front_forms v base)
    → AddsLines a a buffer put (forms_text format (front_forms v other))
front_put format a buffer put v base other text same is =
    let here : AddsLines a a buffer put (forms_text Text (front_forms v base)) = adds_put a a buffer buffer [] put (text_of_forms (front_forms v base)) (adds_none a buffer) is (forms_whole Text (front_forms v base)) in
    subst (λ (f : Format). AddsLines a a buffer put (forms_text f (front_forms v other))) (sym text) (subst (λ (b : Base). AddsLines a a buffer put (forms_text Text (front_forms v b))) same here)

-- and as objects: what holds of those that a text is put into
pub front_shown : (P : List ℕ → Type 0) (format : Format) (v : Version) (base other : Base) (text put old : List ℕ) → format ≡ Json → base ≡ other → text ≡ put → put ≡ old ++ text_of_forms (front_forms v base) → old ≡ []
    → All IsForm (front_forms v base) → ((forms : List Form) → IsTextOf text forms → P (flat_map recorded_line forms)) → P (forms_text format (front_forms v other))
front_shown P format v base other text put old json same is written none legal shown =
    let spelled : text ≡ text_of_forms (front_forms v base) = is ∙ written ∙ ap (λ l. l ++ text_of_forms (front_forms v base)) none in
    let here : P (forms_text Json (front_forms v base)) = shown (front_forms v base) (record { spelled = spelled; legal = legal }) in
    subst (λ (f : Format). P (forms_text f (front_forms v other))) (sym json) (subst (λ (b : Base). P (forms_text Json (front_forms v b))) same here)

-- ---- a text that is cut at its first line feed

apart : true ≢ false
apart wrong = cc

plain : (form : Form) → IsForm form → (i : ℕ) → i < length (line_text form) → get_or (line_text form) i 0 ≢ 10
plain form legal i within is = apart (sym (ap (λ b. b == 10) is) ∙ All-get_or (λ b. (b == 10) ≡ false) (line_text form) i 0 within (no_line_feed form legal))

-- the first of the lines, and the text of those after it
pub record Next (forms : List Form) (text more : List ℕ) : Type 0 where
  pub form : Form
  pub behind : List Form
  pub first : forms ≡ form ∷ behind
  pub is : text ≡ line_text form
  pub left : IsTextOf more behind

pub next_line : (text : List ℕ) (forms : List Form) (cut : Option (Bor (List ℕ) × Bor (List ℕ))) → IsTextOf text forms → IsSplitOnceResult 10 text cut
    → MatchOption cut (forms ≡ []) (λ x. Next forms x.0.now x.1.now)
next_line text [] None is parts = refl
next_line text [] (Some x) is parts =
    let both = split_parts 10 text (Some x) parts (omega arith) in
    absurd (omega (arith, ap length (sym is.spelled ∙ both.0), length-append x.0.now (10 ∷ x.1.now)))
next_line text (form ∷ behind) None is parts =
    absurd (split_after 10 text (line_text form) (text_of_forms behind) None parts (omega arith) (is.spelled ∙ append_assoc (line_text form) (10 ∷ []) (text_of_forms behind)) (plain form (All-head IsForm form behind is.legal)))
next_line text (form ∷ behind) (Some x) is parts =
    let both = split_after 10 text (line_text form) (text_of_forms behind) (Some x) parts (omega arith) (is.spelled ∙ append_assoc (line_text form) (10 ∷ []) (text_of_forms behind)) (plain form (All-head IsForm form behind is.legal)) in
    record { form = form; behind = behind; first = refl; is = both.0; left = record { spelled = both.1; legal = All-tail IsForm form behind is.legal } }

pub next_some : (text : List ℕ) (forms : List Form) (cut : Option (Bor (List ℕ) × Bor (List ℕ))) (x : Bor (List ℕ) × Bor (List ℕ)) → cut ≡ Some x → IsTextOf text forms → IsSplitOnceResult 10 text cut
    → Next forms x.0.now x.1.now
next_some text forms cut x some is parts =
    subst (λ (o : Option (Bor (List ℕ) × Bor (List ℕ))). MatchOption o (forms ≡ []) (λ x. Next forms x.0.now x.1.now)) some (next_line text forms cut is parts)

pub next_none : (text : List ℕ) (forms : List Form) (cut : Option (Bor (List ℕ) × Bor (List ℕ))) → cut ≡ None → IsTextOf text forms → IsSplitOnceResult 10 text cut → forms ≡ []
next_none text forms cut none is parts =
    subst (λ (o : Option (Bor (List ℕ) × Bor (List ℕ))). MatchOption o (forms ≡ []) (λ x. Next forms x.0.now x.1.now)) none (next_line text forms cut is parts)

-- ---- lines that are printed as objects

-- some are printed, and these are left of the text
pub record Showing (a b : Option (List ℕ)) (before buffer : List ℕ) (forms : List Form) (left : List ℕ) : Type 0 where
  pub rest : List Form
  pub text : IsTextOf left rest
  pub adding : Adding a b before buffer (flat_map recorded_line forms) (flat_map recorded_line rest)

pub showing_none : (a : Option (List ℕ)) (buffer : List ℕ) (forms : List Form) (text : List ℕ) → IsTextOf text forms → Showing a a buffer buffer forms text
showing_none a buffer forms text is = record { rest = forms; text = is; adding = adding_none a buffer _ _ refl }

-- the printed text of the next one
object_next : (rest : List Form) (text more : List ℕ) (h : Next rest text more) → flat_map recorded_line rest ≡ recorded_line h.form ++ flat_map recorded_line h.behind
object_next rest text more h = ap (flat_map recorded_line) h.first

object_put : (rest : List Form) (text more buffer put : List ℕ) (h : Next rest text more) → put ≡ buffer ++ json_line (recorded_data text) → put ≡ buffer ++ recorded_line h.form
object_put rest text more buffer put h is = is ∙ ap (λ l. buffer ++ json_line (recorded_data l)) h.is

pub showing_more : (a b c : Option (List ℕ)) (before buffer put moved : List ℕ) (forms : List Form) (left text more : List ℕ) (h : Showing a b before buffer forms left) → Next h.rest text more
    → put ≡ buffer ++ json_line (recorded_data text) → AddsLines b c put moved [] → Showing a c before moved forms more
showing_more a b c before buffer put moved forms left text more h next is spilled = record {
  rest = next.behind;
  text = next.left;
  adding = adding_more a b c before buffer put moved _ _ (recorded_line next.form) (flat_map recorded_line next.behind) h.adding (object_next h.rest text more next) (object_put h.rest text more buffer put next is)
      (recorded_whole next.form) spilled;
}

pub showing_part : (a b : Option (List ℕ)) (before buffer : List ℕ) (forms : List Form) (left : List ℕ) → AreWholeLines before → Showing a b before buffer forms left
    → AddsPart stop.Memory a b (before ++ flat_map recorded_line forms)
showing_part a b before buffer forms left whole h = adding_part a b before buffer _ _ whole h.adding

pub showing_stopped : (why : PrintError) (a b c : Option (List ℕ)) (before buffer put : List ℕ) (forms : List Form) (left text more : List ℕ) (whole : AreWholeLines before) (h : Showing a b before buffer forms left) → Next h.rest text more
    → put ≡ buffer ++ json_line (recorded_data text) → AddsPart why b c put → AddsPart why a c (before ++ flat_map recorded_line forms)
showing_stopped why a b c before buffer put forms left text more whole h next is stopped =
    adding_stopped why a b c before buffer put _ _ (recorded_line next.form) (flat_map recorded_line next.behind) whole h.adding (object_next h.rest text more next) (object_put h.rest text more buffer put next is)
    (recorded_whole next.form) stopped

pub showing_all : (a b : Option (List ℕ)) (before buffer : List ℕ) (forms : List Form) (left : List ℕ) (h : Showing a b before buffer forms left) → h.rest ≡ [] → AddsLines a b before buffer (flat_map recorded_line forms)
showing_all a b before buffer forms left h none = adding_whole a b before buffer _ _ h.adding (ap (flat_map recorded_line) none)

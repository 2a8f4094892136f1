-- From line to line after the header.
use Rattle.std.proofs.Common.{ℕ, ◌≡◌, ◌≢◌, ◌+◌, ◌<◌, ◌≤◌, ◌⊎◌, ◌++◌, ◌||◌, Bool, true, false, not, List, [], ◌∷◌, length, map, None, All, refl, sym, ap, subst, ◌∙◌, inl, inr, arith, append_assoc}
use Rattle.std.specs.List.{flat_map, join_with_byte, list_any}
use Rattle.std.proofs.lemmas.List.Folds.{list_any-append}
use Rattle.std.proofs.lemmas.Bool.{and_parts, not-true}
use Rattle.std.proofs.lemmas.List.{length_push, map-append}
use Rattle.std.proofs.lemmas.List.Elements.{All-push}
use Rattle.std.proofs.lemmas.List.Splits.{join_with_byte-slice_split}
use Rattle.lsa_codec.specs.Spelling.{spelling}
use Rattle.lsa_codec.proofs.Again.{spelled_none}
use Rattle.ospf_types.specs.declared.fault.ConfigFault.{ConfigFault}
use Rattle.event_state.specs.declared.base.Base.{Base}
use Rattle.event_state.specs.declared.event.Event.TheVariants as event
use Rattle.recording.specs.declared.fault.Fault.{Fault}
use Rattle.recording.specs.declared.fault.Fault.TheVariants as fault
use Rattle.recording.specs.declared.line.Line.{Line}
use Rattle.recording.specs.declared.line.Line.TheVariants as line_is
use Rattle.recording.specs.declared.version.Version.{Version}
use Rattle.recording.specs.Forms.{Form, Body, VersionLine, RouterLine, CompatLine, SerialLine, AreaLine, RangeLine, HasInterfaceLine, HasLsaLine, BodyLine, IsOfVersion, Says, AllSay, line_text}
use Rattle.recording.specs.Places.{LinesSoFar, AreSaid, IsLinePlaced, first_lines, front_of, has_ended, is_of_base, is_of_body, is_of_header, is_next, is_next_area, unfit_at}
use Rattle.recording.specs.Faults.{EndsHeader, HasConfigFault, IsFaultOf}
use Rattle.recording.specs.Recordings.{RecordingValue, IsText, IsRecording, HasKind, HasWholeLsa, AreLsasOfBytes, IsLineIn, area_forms, first_forms, form_of, forms_of, has_forms, text_of_forms}
use Rattle.recording.specs.Progress.{HasLines, EndsBase, IsLineOf, IsFaultBehind, later_forms}
use Rattle.recording.proofs.Areas.{ended_behind}
use Rattle.recording.proofs.HeaderSteps.{not_both, right_past, of_end}
use Rattle.recording.proofs.Parts.{IsLineAt, HasNoWireFault, fits, line_fault, line_there, but_config, form_fault, order_fault, wire_fault, end_fault, two_first, three_first, version_push}
use Rattle.recording.proofs.AllSaid.{begun_with, said_push, said_legal, said_behind, forms_behind}

-- ---- what comes after the header

-- where the header has ended no line of it may stand
not_ended : (f : LinesSoFar) (form : Form) → is_of_header form ≡ true → is_next f form ≡ true → f.ended ≡ false
not_ended f (AreaLine id stub) here next = not-true f.ended (and_parts (not f.ended) (is_next_area f.areas (AreaLine id stub)) next).0
not_ended f (RangeLine area range) here next = not-true f.ended (and_parts (not f.ended) (is_next_area f.areas (RangeLine area range)) next).0
not_ended f (VersionLine version) here next = cc
not_ended f (RouterLine router) here next = cc
not_ended f (CompatLine compat) here next = cc
not_ended f (SerialLine serial) here next = cc
not_ended f (HasInterfaceLine id i) here next = cc
not_ended f (HasLsaLine at bytes) here next = cc
not_ended f (BodyLine body) here next = cc

-- and where something happened no line of the base
not_begun : (f : LinesSoFar) (form : Form) → is_of_base form ≡ true → is_next f form ≡ true → f.begun ≡ false
not_begun f (HasInterfaceLine id i) here next = not-true f.begun (and_parts (not f.begun) _ next).0
not_begun f (HasLsaLine at bytes) here next = not-true f.begun (and_parts (not f.begun) _ next).0
not_begun f (AreaLine id stub) here next = cc
not_begun f (RangeLine area range) here next = cc
not_begun f (VersionLine version) here next = cc
not_begun f (RouterLine router) here next = cc
not_begun f (CompatLine compat) here next = cc
not_begun f (SerialLine serial) here next = cc
not_begun f (BodyLine body) here next = cc

whole_behind : (l : Line) → HasWholeLsa l → HasNoWireFault (form_of l)
whole_behind (line_is.Event (event.Install at lsa)) whole = spelled_none (spelling lsa) lsa whole.sound whole.spelled
whole_behind (line_is.Event (event.Flush at key)) whole = refl
whole_behind (line_is.Event (event.Purge at key)) whole = refl
whole_behind (line_is.Event (event.Interface id area address peer up)) whole = refl
whole_behind (line_is.Event (event.RangeSet area prefix advertise)) whole = refl
whole_behind (line_is.Event (event.RangeDrop area prefix)) whole = refl
whole_behind (line_is.Event event.Second) whole = refl
whole_behind (line_is.Lookup address) whole = refl
whole_behind line_is.Roll whole = refl

-- the lines, and one more of them
abbrev with_line : RecordingValue → Line → RecordingValue
with_line r l = record r { lines = r.lines ++ l ∷ [] }

later_push : (r : RecordingValue) (l : Line) → later_forms (with_line r l) ≡ later_forms r ++ form_of l ∷ []
later_push r l =
    let hs : List Form = flat_map area_forms r.base.config.areas in
    let bs : List Form = has_forms r.base in
    ap (λ (fs : List Form). hs ++ (bs ++ fs)) (map-append form_of r.lines (l ∷ []))
    ∙ ap (λ (fs : List Form). hs ++ fs) (sym (append_assoc bs (map form_of r.lines) (form_of l ∷ [])))
    ∙ sym (append_assoc hs (bs ++ map form_of r.lines) (form_of l ∷ []))

-- the lines of what happened may become more
pub kept_push : (r : RecordingValue) (line : List ℕ) (l : Line) → IsRecording r → IsLineOf r.version line l → IsRecording (with_line r l)
kept_push r line l kept of = record {
  spelled = kept.spelled;
  sound = kept.sound;
  ordered = kept.ordered;
  kinds = All-push HasKind r.lines l kept.kinds of.kind;
  lines = All-push (IsLineIn r.version) r.lines l kept.lines of.own;
}

-- the first lines, and those after them
pub first_and_later : (r : RecordingValue) → forms_of r ≡ first_forms r.version r.base ++ later_forms r
first_and_later r =
    let first : List Form = first_forms r.version r.base in
    let hs : List Form = flat_map area_forms r.base.config.areas in
    let bs : List Form = has_forms r.base in
    let ls : List Form = map form_of r.lines in
    append_assoc (first ++ hs) bs ls ∙ append_assoc first hs (bs ++ ls)

-- what the lines after the first ones say
behind_first : (r : RecordingValue) (before : List (List ℕ)) → AllSay r.version before (forms_of r) → AllSay r.version before (begun_with r.version r.base (later_forms r))
behind_first r before said = subst (AllSay r.version before) (first_and_later r) said

all_are : (r : RecordingValue) (before : List (List ℕ)) → AllSay r.version before (forms_of r) → (forms : List Form) → AreSaid r.version before forms → forms ≡ later_forms r
all_are r before said forms all = forms_behind r.version before r.base (later_forms r) forms (behind_first r before said) all

pub pushed_lines : (lines : List Line) (l : Line) → lines ++ l ∷ [] ≢ []
pushed_lines lines l e = let n : length (lines ++ l ∷ []) ≡ 0 = ap length e in omega (arith, length_push lines l)

none_or_more : {X : Type 0} (xs : List X) → (xs ≡ []) ⊎ (xs ≢ [])
none_or_more [] = inl refl
none_or_more (x ∷ xs) = inr (λ e. cc)

either_is : (a b : Bool) → b ≡ true → (a || b) ≡ true
either_is true b is = refl
either_is false b is = is

-- a line of what happened was added
happened : (hs bs : List Form) (lines : List Line) → lines ≢ [] → list_any is_of_body (hs ++ (bs ++ map form_of lines)) ≡ true
happened hs bs [] some = absurd (some refl)
happened hs bs (l ∷ lines) some =
    let ls : List Form = map form_of (l ∷ lines) in
    list_any-append is_of_body hs (bs ++ ls)
    ∙ either_is (list_any is_of_body hs) _ (list_any-append is_of_body bs ls ∙ either_is (list_any is_of_body bs) _ refl)

base_over : (v : Version) (line : List ℕ) (rest : List (List ℕ)) → 0 < length rest → EndsBase v (line ∷ rest) → (form : Form) → Says v line form → is_of_base form ≢ true
base_over v line [] full e = absurd (omega arith)
base_over v line (next ∷ more) full e = e

-- a recording of which the lines read so far and one more are
pub record IsLonger (r : RecordingValue) (form : Form) (b : Base) (lines : List Line) : Type 0 where
  pub first : first_forms r.version b ≡ first_forms r.version r.base
  pub later : later_forms (record { version = r.version; base = b; lines = lines }) ≡ later_forms r ++ form ∷ []
  pub kept : IsRecording (record { version = r.version; base = b; lines = lines })
  pub held : AreLsasOfBytes b.lsas
  pub lsas : All HasWholeLsa lines

longer_forms : (r : RecordingValue) (form : Form) (b : Base) (lines : List Line) → IsLonger r form b lines → forms_of (record { version = r.version; base = b; lines = lines }) ≡ forms_of r ++ form ∷ []
longer_forms r form b lines longer =
    let s : RecordingValue = record { version = r.version; base = b; lines = lines } in
    first_and_later s
    ∙ ap (λ (fs : List Form). fs ++ later_forms s) longer.first
    ∙ ap (λ (fs : List Form). first_forms r.version r.base ++ fs) longer.later
    ∙ sym (append_assoc (first_forms r.version r.base) (later_forms r) (form ∷ []))
    ∙ ap (λ (fs : List Form). fs ++ form ∷ []) (sym (first_and_later r))

pub own_behind : (v : Version) (l : Line) → IsLineIn v l → IsOfVersion v (form_of l)
own_behind v (line_is.Event (event.Install at lsa)) own = tt
own_behind v (line_is.Event (event.Flush at key)) own = tt
own_behind v (line_is.Event (event.Purge at key)) own = tt
own_behind v (line_is.Event (event.Interface id area address peer up)) own = tt
own_behind v (line_is.Event (event.RangeSet area prefix advertise)) own = own
own_behind v (line_is.Event (event.RangeDrop area prefix)) own = own
own_behind v (line_is.Event event.Second) own = tt
own_behind v (line_is.Lookup address) own = tt
own_behind v line_is.Roll own = own

module _ {text : List ℕ} {taken : ℕ} {left : List (List ℕ)} {r : RecordingValue} (h : HasLines text taken left r) where
  pub many_lines : first_lines r.version ≤ length h.before
  many_lines = (said_behind r.version h.before r.base (later_forms r) (behind_first r h.before h.said)).many

  -- what the lines after the first ones say
  pub later_said : AreSaid r.version h.before (later_forms r)
  later_said = said_behind r.version h.before r.base (later_forms r) (behind_first r h.before h.said)

  pub later_are : (forms : List Form) → AreSaid r.version h.before forms → forms ≡ later_forms r
  later_are forms all = all_are r h.before h.said forms all

  pub not_first : h.before ≢ []
  not_first e = let n : length h.before ≡ 0 = ap length e in omega (arith, many_lines, two_first r.version)

  pub line_at : (line : List ℕ) (rest : List (List ℕ)) → left ≡ line ∷ rest → 0 < length rest → IsLineAt r.version text (taken + 1) h.before line rest
  line_at line rest is full = record {
    parts = h.parts ∙ ap (λ (t : List (List ℕ)). h.before ++ t) is;
    full = full;
    counted = omega (arith, h.counted);
    version = version_push h.before line not_first ∙ h.version;
  }

  -- a line of the header cannot come here
  no_next : (line : List ℕ) (rest : List (List ℕ)) → left ≡ line ∷ rest → 0 < length rest → (form : Form) → Says r.version line form → is_of_header form ≡ true → (forms : List Form) → AreSaid r.version h.before forms → is_next (front_of forms) form ≡ true → ⊥
  no_next line rest is full form said here forms all next =
      let none : has_ended (later_forms r) ≡ false = ap has_ended (sym (later_are forms all)) ∙ not_ended (front_of forms) form here next in
      of_end r.version line rest full (subst (EndsHeader r.version) is (h.ends none)) form said here

  -- a header does not end with a line that is none of it
  pub no_config : (line : List ℕ) (rest : List (List ℕ)) (form : Form) → Says r.version line form → is_of_header form ≡ false → (c : ConfigFault) → ¬ HasConfigFault r.version (h.before ++ line ∷ []) rest c
  no_config line rest form said other c g =
      let said' : AllSay r.version (h.before ++ line ∷ []) (begun_with r.version r.base (later_forms r ++ form ∷ [])) =
      subst (AllSay r.version (h.before ++ line ∷ [])) (append_assoc (first_forms r.version r.base) (later_forms r) (form ∷ [])) (said_push r.version h.before (begun_with r.version r.base (later_forms r)) line form (behind_first r h.before h.said) said) in
      let are : g.forms ≡ later_forms r ++ form ∷ [] = forms_behind r.version (h.before ++ line ∷ []) r.base (later_forms r ++ form ∷ []) g.forms said' g.header in
      not_both (has_ended g.forms) (ap has_ended are ∙ ended_behind (later_forms r) form other) g.alone

  -- one line more that is none of the header
  pub longer_step : (line : List ℕ) (rest : List (List ℕ)) → left ≡ line ∷ rest → 0 < length rest → (form : Form) → Says r.version line form → is_of_header form ≡ false → IsLinePlaced r.version h.before form → HasNoWireFault form → ((forms : List Form) → AreSaid r.version h.before forms → unfit_at (front_of forms) form ≡ None)
      → (b : Base) (lines : List Line) → IsLonger r form b lines → HasLines text (taken + 1) rest (record { version = r.version; base = b; lines = lines })
  longer_step line rest is full form said other placed whole fit b lines longer =
      let at = line_at line rest is full in
      record {
        before = h.before ++ line ∷ [];
        parts = at.parts ∙ sym (append_assoc h.before (line ∷ []) rest);
        counted = omega (arith, h.counted, length_push h.before line);
        version = at.version;
        said = subst (AllSay r.version (h.before ++ line ∷ [])) (sym (longer_forms r form b lines longer)) (said_push r.version h.before (forms_of r) line form h.said said);
        kept = longer.kept;
        held = longer.held;
        lsas = longer.lsas;
        ends = λ none. absurd (not_both (has_ended (later_forms r ++ form ∷ [])) (ended_behind (later_forms r) form other) (ap has_ended (sym longer.later) ∙ none));
        right = right_past at h.right (λ f not_config g. but_config r.version h.before line rest form said placed whole (fits r.version h.before line form said fit) f not_config (line_fault at f g)) (no_config line rest form said other);
      }

  -- ---- a line of what happened

  no_base : (line : List ℕ) (rest : List (List ℕ)) → left ≡ line ∷ rest → 0 < length rest → (r.lines ≡ [] → EndsBase r.version left) → (form : Form) → Says r.version line form → is_of_base form ≡ true → (forms : List Form) → AreSaid r.version h.before forms → is_next (front_of forms) form ≡ true → ⊥
  no_base line rest is full base form said here forms all next =
      elim (none_or_more r.lines) [
        | inl none ↦ base_over r.version line rest full (subst (EndsBase r.version) is (base none)) form said here
        | inr some ↦
            not_both (list_any is_of_body (later_forms r)) (happened (flat_map area_forms r.base.config.areas) (has_forms r.base) r.lines some)
            (ap (list_any is_of_body) (sym (later_are forms all)) ∙ not_begun (front_of forms) form here next)
      ]

  misplaced : (line : List ℕ) (rest : List (List ℕ)) → left ≡ line ∷ rest → 0 < length rest → (r.lines ≡ [] → EndsBase r.version left) → (form : Form) → Says r.version line form → ((body : Body) → form ≢ BodyLine body) → ¬ IsLinePlaced r.version h.before form
  misplaced line rest is full base (VersionLine version) said other placed = not_first placed
  misplaced line rest is full base (RouterLine router) said other placed = omega (arith, many_lines, two_first r.version)
  misplaced line rest is full base (CompatLine compat) said other placed = omega (arith, many_lines, three_first r.version said.of_version)
  misplaced line rest is full base (SerialLine serial) said other placed =
      let four : first_lines r.version ≡ 4 = ap first_lines said.of_version in omega (arith, many_lines)
  misplaced line rest is full base (AreaLine id stub) said other placed = no_next line rest is full (AreaLine id stub) said refl placed.0 placed.1 placed.2
  misplaced line rest is full base (RangeLine area range) said other placed = no_next line rest is full (RangeLine area range) said refl placed.0 placed.1 placed.2
  misplaced line rest is full base (HasInterfaceLine id i) said other placed = no_base line rest is full base (HasInterfaceLine id i) said refl placed.0 placed.1 placed.2
  misplaced line rest is full base (HasLsaLine at bytes) said other placed = no_base line rest is full base (HasLsaLine at bytes) said refl placed.0 placed.1 placed.2
  misplaced line rest is full base (BodyLine body) said other placed = other body refl

  pub fault_behind : (line : List ℕ) (rest : List (List ℕ)) → left ≡ line ∷ rest → 0 < length rest → (r.lines ≡ [] → EndsBase r.version left) → (f : Fault) → IsFaultBehind r.version line f → IsFaultOf text (record { line = taken + 1; fault = f })
  fault_behind line rest is full base fault.Truncated has = absurd has
  fault_behind line rest is full base fault.Version has = absurd has
  fault_behind line rest is full base fault.Line has = inr (form_fault (line_at line rest is full) h.right not_first has)
  fault_behind line rest is full base fault.Order has =
      inr (order_fault (line_at line rest is full) h.right not_first has.0 has.1 (misplaced line rest is full base has.0 has.1 has.2))
  fault_behind line rest is full base (fault.Wire f) has =
      inr (wire_fault (line_at line rest is full) h.right (BodyLine has.0) f has.1 many_lines has.2)
  fault_behind line rest is full base (fault.Config f) has = absurd has
  fault_behind line rest is full base (fault.Base u) has = absurd has
  fault_behind line rest is full base fault.Memory has = inl (refl, record { there = line_there (line_at line rest is full); lines = h.right })

  pub cut_behind : (cut : List ℕ) → left ≡ cut ∷ [] → cut ≢ [] → IsFaultOf text (record { line = taken + 1; fault = fault.Truncated })
  cut_behind cut is some =
      inr (end_fault text (taken + 1) h.before cut (h.parts ∙ ap (λ (t : List (List ℕ)). h.before ++ t) is) (omega (arith, h.counted)) h.right (inl some))

  pub line_step : (line : List ℕ) (rest : List (List ℕ)) → left ≡ line ∷ rest → 0 < length rest → (l : Line) → IsLineOf r.version line l → HasLines text (taken + 1) rest (record r { lines = r.lines ++ l ∷ [] })
  line_step line rest is full l of =
      longer_step line rest is full (form_of l) of.said refl many_lines (whole_behind l of.whole) (λ forms all. refl) r.base (r.lines ++ l ∷ []) (record {
        first = refl;
        later = later_push r l;
        kept = kept_push r line l h.kept of;
        held = h.held;
        lsas = All-push HasWholeLsa r.lines l h.lsas of.whole;
      })

-- ---- the whole text

join_line : (line : List ℕ) (parts : List (List ℕ)) → 0 < length parts → join_with_byte 10 (line ∷ parts) ≡ line ++ 10 ∷ join_with_byte 10 parts
join_line line [] full = absurd (omega arith)
join_line line (next ∷ more) full = refl

joined : (v : Version) (ls : List (List ℕ)) (fs : List Form) → AllSay v ls fs → join_with_byte 10 (ls ++ [] ∷ []) ≡ text_of_forms fs
joined v [] [] all = refl
joined v [] (f ∷ fs) all = absurd all
joined v (l ∷ ls) [] all = absurd all
joined v (l ∷ ls) (f ∷ fs) all =
    join_line l (ls ++ [] ∷ []) (omega (arith, length_push ls []))
    ∙ ap (λ (t : List ℕ). l ++ 10 ∷ t) (joined v ls fs all.1)
    ∙ ap (λ (t : List ℕ). t ++ 10 ∷ text_of_forms fs) all.0.spelled
    ∙ sym (append_assoc (line_text f) (10 ∷ []) (text_of_forms fs))

pub whole_text : {text : List ℕ} {taken : ℕ} {left : List (List ℕ)} {r : RecordingValue} → HasLines text taken left r → left ≡ [] ∷ [] → IsText text r
whole_text {text} {taken} {left} {r} h is = record {
  spelled =
      sym (join_with_byte-slice_split 10 text)
      ∙ ap (join_with_byte 10) (h.parts ∙ ap (λ (t : List (List ℕ)). h.before ++ t) is)
      ∙ joined r.version h.before (forms_of r) h.said;
  forms = said_legal r.version h.before (forms_of r) h.said;
  held = h.held;
  lsas = h.lsas;
  kept = h.kept;
}

-- The text of a recording has no fault, and belongs to no other.
use Rattle.std.proofs.Common.{ℕ, ◌≡◌, ◌≢◌, ◌+◌, ◌<◌, ◌≤◌, ◌==◌, ◌++◌, Bool, true, false, List, [], ◌∷◌, length, map, None, All, Result, Ok, Err, MatchResult, IfOk, IfErr, refl, sym, ap, subst, ◌∙◌, inl, inr, arith, append_assoc, append-nil, length-append}
use Rattle.std.specs.List.{flat_map}
use Rattle.std.proofs.lemmas.Bool.{cases_lt}
use Rattle.std.proofs.lemmas.List.{map-append, append_cancel_right, nil_from_length, length_push}
use Rattle.std.proofs.lemmas.List.Concat.{flat_map-append}
use Rattle.std.proofs.lemmas.List.Elements.{All-nil, All-cons, All-append, All-head, All-tail}
use Rattle.std.proofs.lemmas.List.Splits.{slice_split_at}
use Rattle.lsa_codec.specs.Decoding.{lsa_of}
use Rattle.lsa_codec.specs.Faults.{fault_of}
use Rattle.lsa_codec.specs.Spelling.{spelling}
use Rattle.lsa_codec.proofs.Again.{spelled_none, spelled_same}
use Rattle.ospf_types.specs.declared.config.AreaConfig.{AreaConfig}
use Rattle.ospf_types.specs.declared.config.Interface.{Interface}
use Rattle.ospf_types.specs.declared.key.Scope.{Scope}
use Rattle.ospf_types.specs.Lsa.{Lsa}
use Rattle.event_state.specs.declared.base.Base.{Base}
use Rattle.event_state.specs.declared.event.Event.TheVariants as event
use Rattle.recording.specs.declared.fault.Fault.{Fault}
use Rattle.recording.specs.declared.fault.Fault.TheVariants as fault
use Rattle.recording.specs.declared.fault.LineFault.{LineFault}
use Rattle.recording.specs.declared.header.Setting.{Setting}
use Rattle.recording.specs.declared.line.Line.{Line}
use Rattle.recording.specs.declared.line.Line.TheVariants as line_is
use Rattle.recording.specs.declared.version.Version.{Version}
use Rattle.recording.specs.declared.version.Version.TheVariants.{One, Two, Three}
use Rattle.recording.specs.Forms.{Form, VersionLine, RouterLine, CompatLine, SerialLine, AreaLine, RangeLine, HasInterfaceLine, HasLsaLine, BodyLine, InterfaceLine, InstallLine, FlushLine, PurgeLine, RangeSetLine, RangeDropLine, LookupLine, RollLine, IsForm, IsOfVersion, Says, line_text}
use Rattle.recording.specs.Places.{areas_from, areas_of, first_lines, interfaces_in, is_next_area, is_of_header, lsas_in, unfit_lsa, version_of, with_form}
use Rattle.recording.specs.Faults.{parts_of, EndsHeader, IsFaultOfEnd, IsFaultAt, HasFault, IsFaultOf}
use Rattle.recording.specs.Recordings.{RecordingValue, IsRecording, IsText, CanSpell, HasKind, HasWholeLsa, AreLsasOfBytes, IsBaseOrdered, IsLineIn, IsLsaOfBytes, area_forms, ended, first_forms, form_of, forms_of, front_forms, has_forms, interface_form, lsa_form, setting_forms, text_of_forms}
use Rattle.recording.specs.Progress.{HasRead, HasHeader, HasLines, IsLineOf, IsFormTaken, headed_base, later_forms, with_areas}
use Rattle.recording.proofs.Areas.{InOrder, areas_from-append, areas_in_order, areas_said, areas_of_header, all_right}
use Rattle.recording.proofs.BaseRuns.{interface_fitted, interface_next, lsa_fitted, lsa_next}
use Rattle.recording.proofs.BaseSound.{IsFit, usable_from}
use Rattle.recording.proofs.BaseSteps.{base_step, of_base}
use Rattle.recording.proofs.Forms.{says_one, line_one, no_line_feed}
use Rattle.recording.proofs.Fronts.{areas_stay, base_areas, base_forms, base_interfaces, base_lsas, base_parts, lsa_again, none_mapped, none_passes}
use Rattle.recording.proofs.HeaderSteps.{not_both, version_step, header_begins, header_step, lines_begin, to_end}
use Rattle.recording.proofs.LineSteps.{first_and_later, line_step, many_lines, own_behind}
use Rattle.recording.proofs.Parts.{fault_at}
use Rattle.recording.proofs.Beginning.{one_few, two_few, three_few, counted, harmless_compat, harmless_router, harmless_serial, next_step_at}

-- ---- the parts of the text

-- lines, and what comes after them
parts_and : (fs : List Form) (behind : List ℕ) → All IsForm fs → parts_of (text_of_forms fs ++ behind) ≡ map line_text fs ++ parts_of behind
parts_and [] behind all = refl
parts_and (f ∷ fs) behind all =
    ap parts_of (append_assoc (ended f) (text_of_forms fs) behind ∙ append_assoc (line_text f) (10 ∷ []) (text_of_forms fs ++ behind))
    ∙ slice_split_at (λ b. b == 10) (line_text f) 10 (text_of_forms fs ++ behind) (no_line_feed f (All-head IsForm f fs all)) refl
    ∙ ap (λ (t : List (List ℕ)). line_text f ∷ t) (parts_and fs behind (All-tail IsForm f fs all))

-- the text of a recording, and what comes after it
pub parts_and_more : {text : List ℕ} {r : RecordingValue} → IsText text r → (behind : List ℕ) → parts_of (text ++ behind) ≡ map line_text (forms_of r) ++ parts_of behind
parts_and_more {text} {r} h behind = ap (λ (t : List ℕ). parts_of (t ++ behind)) h.spelled ∙ parts_and (forms_of r) behind h.forms

parts_of_text : {text : List ℕ} {r : RecordingValue} → IsText text r → parts_of text ≡ map line_text (forms_of r) ++ [] ∷ []
parts_of_text {text} {r} h = ap parts_of (sym (append-nil text)) ∙ parts_and_more h []

-- ---- no other recording has the text

lines_once : (fs gs : List Form) → All IsForm fs → All IsForm gs → map line_text fs ≡ map line_text gs → fs ≡ gs
lines_once [] [] first second same = refl
lines_once [] (g ∷ gs) first second same = cc
lines_once (f ∷ fs) [] first second same = cc
lines_once (f ∷ fs) (g ∷ gs) first second same =
    let line : line_text f ≡ line_text g = cc same in
    let rest : map line_text fs ≡ map line_text gs = cc same in
    let head : f ≡ g = line_one f g (All-head IsForm f fs first) (All-head IsForm g gs second) line in
    let tail : fs ≡ gs = lines_once fs gs (All-tail IsForm f fs first) (All-tail IsForm g gs second) rest in
    cc

forms_once : {text : List ℕ} {r s : RecordingValue} → IsText text r → IsText text s → forms_of r ≡ forms_of s
forms_once {text} {r} {s} h k =
    lines_once (forms_of r) (forms_of s) h.forms k.forms
    (append_cancel_right (map line_text (forms_of r)) (map line_text (forms_of s)) ([] ∷ []) (sym (parts_of_text h) ∙ parts_of_text k))

-- the line that a form after the header says
line_of : Form → Line
line_of (BodyLine (InterfaceLine id area address peer up)) = line_is.Event (event.Interface id area address peer up)
line_of (BodyLine (InstallLine at bytes)) = line_is.Event (event.Install at (lsa_of bytes))
line_of (BodyLine (FlushLine at key)) = line_is.Event (event.Flush at key)
line_of (BodyLine (PurgeLine at key)) = line_is.Event (event.Purge at key)
line_of (BodyLine (RangeSetLine area range)) = line_is.Event (event.RangeSet area range.prefix range.advertise)
line_of (BodyLine (RangeDropLine area prefix)) = line_is.Event (event.RangeDrop area prefix)
line_of (BodyLine (LookupLine address)) = line_is.Lookup address
line_of (BodyLine RollLine) = line_is.Roll
line_of _ = line_is.Event event.Second

line_again : (l : Line) → HasWholeLsa l → line_of (form_of l) ≡ l
unfolding line_of
line_again (line_is.Event (event.Install at lsa)) whole = ap (λ m. line_is.Event (event.Install at m)) (spelled_same (spelling lsa) lsa whole.spelled)
line_again (line_is.Event (event.Flush at key)) whole = refl
line_again (line_is.Event (event.Purge at key)) whole = refl
line_again (line_is.Event (event.Interface id area address peer up)) whole = refl
line_again (line_is.Event (event.RangeSet area prefix advertise)) whole = refl
line_again (line_is.Event (event.RangeDrop area prefix)) whole = refl
line_again (line_is.Event event.Second) whole = refl
line_again (line_is.Lookup address) whole = refl
line_again line_is.Roll whole = refl

-- the lines of what happened
lines_in : Form → List Line
lines_in (BodyLine body) = line_of (BodyLine body) ∷ []
lines_in _ = []

header_lines : (form : Form) → is_of_header form ≡ true → lines_in form ≡ []
unfolding lines_in
header_lines (AreaLine id stub) here = refl
header_lines (RangeLine area range) here = refl
header_lines (VersionLine version) here = cc
header_lines (RouterLine router) here = cc
header_lines (CompatLine compat) here = cc
header_lines (SerialLine serial) here = cc
header_lines (HasInterfaceLine id i) here = cc
header_lines (HasLsaLine at bytes) here = cc
header_lines (BodyLine body) here = cc

interface_lines : (x : ℕ × Interface) → lines_in (interface_form x) ≡ []
unfolding lines_in
interface_lines x = refl

lsa_lines : (x : Scope × Lsa) → lines_in (lsa_form x) ≡ []
unfolding lines_in
lsa_lines x = refl

line_lines : (l : Line) → lines_in (form_of l) ≡ line_of (form_of l) ∷ []
unfolding lines_in
line_lines l = refl

lines_said : (lines : List Line) → All HasWholeLsa lines → flat_map lines_in (map form_of lines) ≡ lines
lines_said [] all = refl
lines_said (l ∷ lines) all =
    ap (λ (t : List Line). t ++ flat_map lines_in (map form_of lines)) (line_lines l)
    ∙ ap (λ (m : Line). m ∷ flat_map lines_in (map form_of lines)) (line_again l (All-head HasWholeLsa l lines all))
    ∙ ap (λ (t : List Line). l ∷ t) (lines_said lines (All-tail HasWholeLsa l lines all))

base_lines : (b : Base) → flat_map lines_in (base_forms b) ≡ []
base_lines b =
    base_parts lines_in b [] [] (none_passes lines_in header_lines (flat_map area_forms b.config.areas) (areas_of_header b.config.areas)) (none_mapped lines_in interface_form interface_lines b.interfaces) (none_mapped lines_in lsa_form lsa_lines b.lsas)

-- the lines of the base, and those of what happened
base_and_lines : (r : RecordingValue) → later_forms r ≡ base_forms r.base ++ map form_of r.lines
base_and_lines r = sym (append_assoc (flat_map area_forms r.base.config.areas) (has_forms r.base) (map form_of r.lines))

later_parts : {X : Type 0} (f : Form → List X) (r : RecordingValue) (xs ys : List X) → flat_map f (base_forms r.base) ≡ xs → flat_map f (map form_of r.lines) ≡ ys → flat_map f (later_forms r) ≡ xs ++ ys
later_parts {X} f r xs ys first second =
    ap (flat_map f) (base_and_lines r)
    ∙ flat_map-append f (base_forms r.base) (map form_of r.lines)
    ∙ ap (λ (t : List X). t ++ flat_map f (map form_of r.lines)) first
    ∙ ap (λ (t : List X). xs ++ t) second

later_interfaces : (r : RecordingValue) → flat_map interfaces_in (later_forms r) ≡ r.base.interfaces
later_interfaces r =
    later_parts interfaces_in r r.base.interfaces [] (base_interfaces r.base) (none_mapped interfaces_in form_of (λ l. refl) r.lines) ∙ append-nil r.base.interfaces

later_lsas : (r : RecordingValue) → AreLsasOfBytes r.base.lsas → flat_map lsas_in (later_forms r) ≡ r.base.lsas
later_lsas r whole = later_parts lsas_in r r.base.lsas [] (base_lsas r.base whole) (none_mapped lsas_in form_of (λ l. refl) r.lines) ∙ append-nil r.base.lsas

later_lines : (r : RecordingValue) → All HasWholeLsa r.lines → flat_map lines_in (later_forms r) ≡ r.lines
later_lines r whole = later_parts lines_in r [] r.lines (base_lines r.base) (lines_said r.lines whole)

later_areas : (r : RecordingValue) → areas_of (later_forms r) ≡ r.base.config.areas
later_areas r =
    ap areas_of (base_and_lines r)
    ∙ areas_from-append [] (base_forms r.base) (map form_of r.lines)
    ∙ ap (λ (areas : List AreaConfig). areas_from areas (map form_of r.lines)) (base_areas r.base)
    ∙ areas_stay form_of (λ areas l fs. refl) r.base.config.areas r.lines

-- what the first lines of two recordings of one version say, and the lines after them
record AreSame (a b : Bool) (m n : ℕ) (fs gs : List Form) : Type 0 where
  compat : a ≡ b
  serial : m ≡ n
  later : fs ≡ gs

setting_once : (v w : Version) (a b : Bool) (m n : ℕ) (fs gs : List Form) → v ≡ w → (v ≡ One → a ≡ false) → (w ≡ One → b ≡ false) → (v ≢ Three → m ≡ 0) → (w ≢ Three → n ≡ 0)
    → setting_forms v a m ++ fs ≡ setting_forms w b n ++ gs → AreSame a b m n fs gs
setting_once One One a b m n fs gs same ca cb sm sn said =
    record { compat = ca refl ∙ sym (cb refl); serial = sm (λ e. cc) ∙ sym (sn (λ e. cc)); later = said }
setting_once Two Two a b m n fs gs same ca cb sm sn said =
    let line : CompatLine a ≡ CompatLine b = cc said in
    record { compat = cc line; serial = sm (λ e. cc) ∙ sym (sn (λ e. cc)); later = cc said }
setting_once Three Three a b m n fs gs same ca cb sm sn said =
    let line : CompatLine a ≡ CompatLine b = cc said in
    let next : SerialLine m ≡ SerialLine n = cc said in
    record { compat = cc line; serial = cc next; later = cc said }
setting_once One Two a b m n fs gs same ca cb sm sn said = cc
setting_once One Three a b m n fs gs same ca cb sm sn said = cc
setting_once Two One a b m n fs gs same ca cb sm sn said = cc
setting_once Two Three a b m n fs gs same ca cb sm sn said = cc
setting_once Three One a b m n fs gs same ca cb sm sn said = cc
setting_once Three Two a b m n fs gs same ca cb sm sn said = cc

same_base : (b c : Base) → b.config.router ≡ c.config.router → b.config.compat ≡ c.config.compat → b.config.areas ≡ c.config.areas → b.serial ≡ c.serial → b.interfaces ≡ c.interfaces → b.lsas ≡ c.lsas → b ≡ c
same_base b c router compat areas serial interfaces lsas = λ i. record {
  config = record { router = router i; compat = compat i; areas = areas i };
  serial = serial i;
  interfaces = interfaces i;
  lsas = lsas i;
}

pub text_once : {text : List ℕ} {r s : RecordingValue} → IsText text r → IsText text s → r ≡ s
text_once {text} {r} {s} h k =
    let same : first_forms r.version r.base ++ later_forms r ≡ first_forms s.version s.base ++ later_forms s = sym (first_and_later r) ∙ forms_once h k ∙ first_and_later s in
    let first : VersionLine r.version ≡ VersionLine s.version = cc same in
    let version : r.version ≡ s.version = cc first in
    let second : RouterLine r.base.config.router ≡ RouterLine s.base.config.router = cc same in
    let others : setting_forms r.version r.base.config.compat r.base.serial ++ later_forms r ≡ setting_forms s.version s.base.config.compat s.base.serial ++ later_forms s = cc same in
    let set = setting_once r.version s.version r.base.config.compat s.base.config.compat r.base.serial s.base.serial (later_forms r) (later_forms s) version h.kept.spelled.compat k.kept.spelled.compat h.kept.spelled.serial k.kept.spelled.serial others in
    let later : later_forms r ≡ later_forms s = set.later in
    let base = same_base r.base s.base (cc second) set.compat
    (sym (later_areas r) ∙ ap areas_of later ∙ later_areas s)
    set.serial
    (sym (later_interfaces r) ∙ ap (flat_map interfaces_in) later ∙ later_interfaces s)
    (sym (later_lsas r h.held) ∙ ap (flat_map lsas_in) later ∙ later_lsas s k.held) in
    let lines : r.lines ≡ s.lines = sym (later_lines r h.lsas) ∙ ap (flat_map lines_in) later ∙ later_lines s k.lsas in
    λ i. record { version = version i; base = base i; lines = lines i }

-- ---- it has no fault

-- This many lines of the text were taken, and say the recording. The parts in `rest` are left.
pub record Lined (text : List ℕ) (rest : List (List ℕ)) (r : RecordingValue) : Type 0 where
  pub taken : ℕ
  pub has : HasLines text taken rest r

record Headed (v : Version) (text : List ℕ) (rest : List (List ℕ)) (b : Base) : Type 0 where
  taken : ℕ
  has : HasHeader v text taken rest b

full_after : (ls : List (List ℕ)) (rest : List (List ℕ)) → 0 < length rest → 0 < length (ls ++ rest)
full_after ls rest full = omega (arith, length-append ls rest)

-- the line of a form of the version says it
says_itself : (v : Version) (f : Form) → IsForm f → IsOfVersion v f → Says v (line_text f) f
says_itself v f legal own = record { spelled = refl; legal = legal; of_version = own }

-- a form of the header is one of each version
own_header : (v : Version) (areas : List AreaConfig) (f : Form) → is_next_area areas f ≡ true → IsOfVersion v f
own_header v areas (VersionLine version) next = cc
own_header v areas (RouterLine router) next = cc
own_header v areas (CompatLine compat) next = cc
own_header v areas (SerialLine serial) next = cc
own_header v areas (AreaLine id stub) next = tt
own_header v areas (RangeLine area range) next = tt
own_header v areas (HasInterfaceLine id i) next = cc
own_header v areas (HasLsaLine at bytes) next = cc
own_header v areas (BodyLine body) next = cc

header_run : (v : Version) (text : List ℕ) (b : Base) (forms : List Form) (rest : List (List ℕ)) → 0 < length rest → All IsForm forms → InOrder b.config.areas forms → Headed v text (map line_text forms ++ rest) b → Headed v text rest (with_areas b (areas_from b.config.areas forms))
header_run v text b [] rest full legal order h = h
header_run v text b (f ∷ forms) rest full legal order h =
    let said : Says v (line_text f) f = says_itself v f (All-head IsForm f forms legal) (own_header v b.config.areas f order.0) in
    let next = header_step h.has (line_text f) (map line_text forms ++ rest) refl (full_after (map line_text forms) rest full) f said order.0 in
    header_run v text (with_areas b (with_form b.config.areas f)) forms rest full (All-tail IsForm f forms legal) order.1 (record { taken = h.taken + 1; has = next })

lines_run : (text : List ℕ) (r : RecordingValue) (lines : List Line) (rest : List (List ℕ)) → 0 < length rest → All IsForm (map form_of lines) → All HasKind lines → All (IsLineIn r.version) lines → All HasWholeLsa lines → Lined text (map line_text (map form_of lines) ++ rest) r → Lined text rest (record r { lines = r.lines ++ lines })
lines_run text r [] rest full legal kinds own whole h =
    subst (λ (ls : List Line). Lined text rest (record r { lines = ls })) (sym (append-nil r.lines)) h
lines_run text r (l ∷ lines) rest full legal kinds own whole h =
    let mine : IsLineIn r.version l = All-head (IsLineIn r.version) l lines own in
    let of : IsLineOf r.version (line_text (form_of l)) l = record {
      said = says_itself r.version (form_of l) (All-head IsForm (form_of l) (map form_of lines) legal) (own_behind r.version l mine);
      kind = All-head HasKind l lines kinds;
      own = mine;
      whole = All-head HasWholeLsa l lines whole;
    } in
    let behind : List (List ℕ) = map line_text (map form_of lines) ++ rest in
    let next = line_step h.has (line_text (form_of l)) behind refl (full_after (map line_text (map form_of lines)) rest full) l of in
    let last = lines_run text (record r { lines = r.lines ++ l ∷ [] }) lines rest full (All-tail IsForm (form_of l) (map form_of lines) legal) (All-tail HasKind l lines kinds) (All-tail (IsLineIn r.version) l lines own) (All-tail HasWholeLsa l lines whole) (record { taken = h.taken + 1; has = next }) in
    subst (λ (ls : List Line). Lined text rest (record r { lines = ls })) (append_assoc r.lines (l ∷ []) lines) last

all_left : {X : Type 0} → (P : X → Type 0) (xs ys : List X) → All P (xs ++ ys) → All P xs
all_left P [] ys all = All-nil P
all_left P (x ∷ xs) ys all =
    All-cons P x xs (All-head P x (xs ++ ys) all) (all_left P xs ys (All-tail P x (xs ++ ys) all))

-- ---- the lines of the base

pushed : {X : Type 0} (xs : List X) (x : X) (ys : List X) → xs ++ x ∷ ys ≢ []
pushed [] x ys e = cc
pushed (y ∷ xs) x ys e = cc

all_same : {X : Type 0} {P : Type 0} → P → (xs : List X) → All (λ x. P) xs
all_same {X} {P} p [] = All-nil (λ x. P)
all_same {X} {P} p (x ∷ xs) = All-cons (λ y. P) x xs p (all_same p xs)

-- a version that spells one of a list is the third
must_be_third : {X : Type 0} (v : Version) (xs ys : List X) (x : X) → (v ≢ Three → xs ++ x ∷ ys ≡ []) → v ≡ Three
must_be_third One xs ys x none = absurd (pushed xs x ys (none (λ e. cc)))
must_be_third Two xs ys x none = absurd (pushed xs x ys (none (λ e. cc)))
must_be_third Three xs ys x none = refl

-- the base, as far as its interfaces and LSAs are read
abbrev read_base : Base → List (ℕ × Interface) → List (Scope × Lsa) → Base
read_base b interfaces lsas = record { config = b.config; serial = b.serial; interfaces = interfaces; lsas = lsas }

interfaces_run : (v : Version) (text : List ℕ) (b : Base) → CanSpell v b → IsBaseOrdered b → IsFit b → (xs ys : List (ℕ × Interface)) (rest : List (List ℕ)) → b.interfaces ≡ xs ++ ys → 0 < length rest → All IsForm (map interface_form ys)
    → Lined text (map line_text (map interface_form ys) ++ rest) (of_base v (read_base b xs [])) → Lined text rest (of_base v (read_base b (xs ++ ys) []))
interfaces_run v text b spelled ordered fit xs [] rest is full legal h =
    subst (λ (t : List (ℕ × Interface)). Lined text rest (of_base v (read_base b t []))) (sym (append-nil xs)) h
interfaces_run v text b spelled ordered fit xs (x ∷ ys) rest is full legal h =
    let form : Form = interface_form x in
    let own : v ≡ Three = must_be_third v xs ys x (λ other. sym is ∙ spelled.interfaces other) in
    let said : Says v (line_text form) form = says_itself v form (All-head IsForm form (map interface_form ys) legal) own in
    let takes : IsFormTaken (read_base b xs []) form = record {
      next = interface_next b ordered xs x ys is;
      readable = refl;
      whole = tt;
      fit = interface_fitted b fit xs x ys is;
    } in
    let behind : List (List ℕ) = map line_text (map interface_form ys) ++ rest in
    let next = base_step h.has (line_text form) behind refl (full_after (map line_text (map interface_form ys)) rest full) form said refl takes in
    let last = interfaces_run v text b spelled ordered fit (xs ++ x ∷ []) ys rest (is ∙ sym (append_assoc xs (x ∷ []) ys)) full (All-tail IsForm form (map interface_form ys) legal) (record { taken = h.taken + 1; has = next }) in
    subst (λ (t : List (ℕ × Interface)). Lined text rest (of_base v (read_base b t []))) (append_assoc xs (x ∷ []) ys) last

lsas_run : (v : Version) (text : List ℕ) (b : Base) → CanSpell v b → IsBaseOrdered b → IsFit b → (xs ys : List (Scope × Lsa)) (rest : List (List ℕ)) → b.lsas ≡ xs ++ ys → 0 < length rest → All IsForm (map lsa_form ys) → AreLsasOfBytes ys
    → Lined text (map line_text (map lsa_form ys) ++ rest) (of_base v (read_base b b.interfaces xs)) → Lined text rest (of_base v (read_base b b.interfaces (xs ++ ys)))
lsas_run v text b spelled ordered fit xs [] rest is full legal whole h =
    subst (λ (t : List (Scope × Lsa)). Lined text rest (of_base v (read_base b b.interfaces t))) (sym (append-nil xs)) h
lsas_run v text b spelled ordered fit xs (x ∷ ys) rest is full legal whole h =
    let form : Form = lsa_form x in
    let W : Scope × Lsa → Type 0 = λ y. IsLsaOfBytes y.1 in
    let own : v ≡ Three = must_be_third v xs ys x (λ other. sym is ∙ spelled.lsas other) in
    let said : Says v (line_text form) form = says_itself v form (All-head IsForm form (map lsa_form ys) legal) own in
    let mine : IsLsaOfBytes x.1 = All-head W x ys whole in
    let again : lsa_of (spelling x.1) ≡ x.1 = lsa_again x.1 mine in
    let readable : fault_of (spelling x.1) ≡ None = spelled_none (spelling x.1) x.1 mine.sound mine.spelled in
    let takes : IsFormTaken (read_base b b.interfaces xs) form = record {
      next = lsa_next b ordered xs x ys is again;
      readable = readable;
      whole = (subst IsLsaOfBytes (sym again) mine, ap spelling again);
      fit = ap (λ (l : Lsa). unfit_lsa b.config.areas xs (x.0, l)) again ∙ lsa_fitted b fit xs x ys is;
    } in
    let behind : List (List ℕ) = map line_text (map lsa_form ys) ++ rest in
    let next = base_step h.has (line_text form) behind refl (full_after (map line_text (map lsa_form ys)) rest full) form said refl takes in
    let same : (xs ++ (x.0, lsa_of (spelling x.1)) ∷ []) ≡ xs ++ x ∷ [] = ap (λ (l : Lsa). xs ++ (x.0, l) ∷ []) again in
    let here : HasLines text (h.taken + 1) behind (of_base v (read_base b b.interfaces (xs ++ x ∷ []))) = subst (λ (t : List (Scope × Lsa)). HasLines text (h.taken + 1) behind (of_base v (read_base b b.interfaces t))) same next in
    let last = lsas_run v text b spelled ordered fit (xs ++ x ∷ []) ys rest (is ∙ sym (append_assoc xs (x ∷ []) ys)) full (All-tail IsForm form (map lsa_form ys) legal) (All-tail W x ys whole) (record { taken = h.taken + 1; has = here }) in
    subst (λ (t : List (Scope × Lsa)). Lined text rest (of_base v (read_base b b.interfaces t))) (append_assoc xs (x ∷ []) ys) last

-- ---- all of them

-- after a header come other lines, or nothing
ends_there : (v : Version) (end : List (List ℕ)) (forms : List Form) → 0 < length end → All IsForm forms → All (IsOfVersion v) forms → All (λ f. is_of_header f ≡ false) forms → (forms ≡ [] → EndsHeader v end) → EndsHeader v (map line_text forms ++ end)
ends_there v end [] full legal own others ends = ends refl
ends_there v end (f ∷ forms) full legal own others ends =
    let other : is_of_header f ≡ false = All-head (λ g. is_of_header g ≡ false) f forms others in
    let said : Says v (line_text f) f = says_itself v f (All-head IsForm f forms legal) (All-head (IsOfVersion v) f forms own) in
    to_end v (line_text f) (map line_text forms ++ end) (full_after (map line_text forms) end full)
    (λ form says here. not_both (is_of_header f) (subst (λ (g : Form). is_of_header g ≡ true) (says_one (line_text f) form f says said) here) other)

-- the forms of the base and of what happened are of the version, and none of a header
record AreOthers (v : Version) (forms : List Form) : Type 0 where
  own : All (IsOfVersion v) forms
  others : All (λ f. is_of_header f ≡ false) forms

others_append : (v : Version) (fs gs : List Form) → AreOthers v fs → AreOthers v gs → AreOthers v (fs ++ gs)
others_append v fs gs first second = record {
  own = All-append (IsOfVersion v) fs gs first.own second.own;
  others = All-append (λ f. is_of_header f ≡ false) fs gs first.others second.others;
}

others_mapped : {X : Type 0} (v : Version) (g : X → Form) → ((x : X) → is_of_header (g x) ≡ false) → (xs : List X) → All (λ x. IsOfVersion v (g x)) xs → AreOthers v (map g xs)
others_mapped v g other [] own = record { own = All-nil (IsOfVersion v); others = All-nil (λ f. is_of_header f ≡ false) }
others_mapped {X} v g other (x ∷ xs) own =
    let P : X → Type 0 = λ y. IsOfVersion v (g y) in
    let rest = others_mapped v g other xs (All-tail P x xs own) in
    record {
      own = All-cons (IsOfVersion v) (g x) (map g xs) (All-head P x xs own) rest.own;
      others = All-cons (λ f. is_of_header f ≡ false) (g x) (map g xs) (other x) rest.others;
    }

all_own : {X : Type 0} (v : Version) (xs : List X) → (v ≢ Three → xs ≡ []) → All (λ x. v ≡ Three) xs
all_own v [] none = All-nil (λ x. v ≡ Three)
all_own {X} v (x ∷ xs) none = let third : v ≡ Three = must_be_third v [] xs x none in all_same third (x ∷ xs)

own_lines : (v : Version) (lines : List Line) → All (IsLineIn v) lines → All (λ l. IsOfVersion v (form_of l)) lines
own_lines v [] all = All-nil (λ l. IsOfVersion v (form_of l))
own_lines v (l ∷ lines) all =
    All-cons (λ m. IsOfVersion v (form_of m)) l lines (own_behind v l (All-head (IsLineIn v) l lines all)) (own_lines v lines (All-tail (IsLineIn v) l lines all))

others_later : (r : RecordingValue) → IsRecording r → AreOthers r.version (has_forms r.base ++ map form_of r.lines)
others_later r kept =
    let v : Version = r.version in
    others_append v (has_forms r.base) (map form_of r.lines)
    (others_append v (map interface_form r.base.interfaces) (map lsa_form r.base.lsas)
    (others_mapped v interface_form (λ x. refl) r.base.interfaces (all_own v r.base.interfaces kept.spelled.interfaces))
    (others_mapped v lsa_form (λ x. refl) r.base.lsas (all_own v r.base.lsas kept.spelled.lsas)))
    (others_mapped v form_of (λ l. refl) r.lines (own_lines v r.lines kept.lines))

-- reading the first lines
first_run : (v : Version) (text : List ℕ) (setting : Setting) (rest : List (List ℕ)) → CanSpell v (headed_base setting []) → IsForm (RouterLine setting.router) → IsForm (SerialLine setting.serial) → 0 < length rest
    → parts_of text ≡ map line_text (first_forms v (headed_base setting [])) ++ rest → Headed v text rest (headed_base setting [])
first_run One text setting rest spelled legal small full parts =
    let router : List ℕ = line_text (RouterLine setting.router) in
    let first : HasRead One text 1 (router ∷ rest) (VersionLine One ∷ []) = version_step (record { parts = parts; full = omega arith; counted = refl; version = refl }) (says_itself One (VersionLine One) tt refl) in
    let second = next_step_at first (one_few One) router rest refl full (RouterLine setting.router) (says_itself One (RouterLine setting.router) legal tt) (counted first (one_few One)) (harmless_router setting.router) in
    record { taken = 1 + 1; has = header_begins setting spelled second }
first_run Two text setting rest spelled legal small full parts =
    let router : List ℕ = line_text (RouterLine setting.router) in
    let third : List ℕ = line_text (CompatLine setting.compat) in
    let later : Two ≢ One = λ e. cc in
    let first : HasRead Two text 1 (router ∷ third ∷ rest) (VersionLine Two ∷ []) = version_step (record { parts = parts; full = omega arith; counted = refl; version = refl }) (says_itself Two (VersionLine Two) tt refl) in
    let second = next_step_at first (one_few Two) router (third ∷ rest) refl (omega arith) (RouterLine setting.router) (says_itself Two (RouterLine setting.router) legal tt) (counted first (one_few Two)) (harmless_router setting.router) in
    let last = next_step_at second (two_few Two later) third rest refl full (CompatLine setting.compat) (says_itself Two (CompatLine setting.compat) tt later) (counted second (two_few Two later)) (harmless_compat setting.compat) in
    record { taken = 1 + 1 + 1; has = header_begins setting spelled last }
first_run Three text setting rest spelled legal small full parts =
    let router : List ℕ = line_text (RouterLine setting.router) in
    let third : List ℕ = line_text (CompatLine setting.compat) in
    let fourth : List ℕ = line_text (SerialLine setting.serial) in
    let later : Three ≢ One = λ e. cc in
    let first : HasRead Three text 1 (router ∷ third ∷ fourth ∷ rest) (VersionLine Three ∷ []) = version_step (record { parts = parts; full = omega arith; counted = refl; version = refl }) (says_itself Three (VersionLine Three) tt refl) in
    let second = next_step_at first (one_few Three) router (third ∷ fourth ∷ rest) refl (omega arith) (RouterLine setting.router) (says_itself Three (RouterLine setting.router) legal tt) (counted first (one_few Three)) (harmless_router setting.router) in
    let next = next_step_at second (two_few Three later) third (fourth ∷ rest) refl (omega arith) (CompatLine setting.compat) (says_itself Three (CompatLine setting.compat) tt later) (counted second (two_few Three later)) (harmless_compat setting.compat) in
    let last = next_step_at next three_few fourth rest refl full (SerialLine setting.serial) (says_itself Three (SerialLine setting.serial) small refl) (counted next three_few) (harmless_serial setting.serial) in
    record { taken = 1 + 1 + 1 + 1; has = header_begins setting spelled last }

-- the lines of two lists of forms, and what comes after them
told : (fs gs : List Form) (end : List (List ℕ)) → map line_text (fs ++ gs) ++ end ≡ map line_text fs ++ (map line_text gs ++ end)
told fs gs end = ap (λ (t : List (List ℕ)). t ++ end) (map-append line_text fs gs) ∙ append_assoc (map line_text fs) (map line_text gs) end

serial_legal : (v : Version) (b : Base) → CanSpell v b → All IsForm (first_forms v b) → IsForm (SerialLine b.serial)
serial_legal One b spelled legal = let none : b.serial ≡ 0 = spelled.serial (λ e. cc) in omega (arith, none)
serial_legal Two b spelled legal = let none : b.serial ≡ 0 = spelled.serial (λ e. cc) in omega (arith, none)
serial_legal Three b spelled legal =
    let router : Form = RouterLine b.config.router in
    let compat : Form = CompatLine b.config.compat in
    let serial : Form = SerialLine b.serial in
    All-head IsForm serial [] (All-tail IsForm compat (serial ∷ []) (All-tail IsForm router (compat ∷ serial ∷ []) (All-tail IsForm (VersionLine Three) (router ∷ compat ∷ serial ∷ []) legal)))

router_legal : (v : Version) (b : Base) → All IsForm (first_forms v b) → IsForm (RouterLine b.config.router)
router_legal v b legal =
    let setting : List Form = setting_forms v b.config.compat b.serial in
    All-head IsForm (RouterLine b.config.router) setting (All-tail IsForm (VersionLine v) (RouterLine b.config.router ∷ setting) legal)

-- where there are no such forms nothing happened
no_lines : (fs : List Form) (lines : List Line) → fs ++ map form_of lines ≡ [] → lines ≡ []
no_lines fs [] none = refl
no_lines fs (l ∷ lines) none = absurd (pushed fs (form_of l) (map form_of lines) none)

-- Reading a text from line to line that begins with the lines of the recording. After them stand
-- the parts of `end`.
pub run_to : {whole text : List ℕ} {r : RecordingValue} (end : List (List ℕ)) → IsText whole r → parts_of text ≡ map line_text (forms_of r) ++ end → 0 < length end → (r.lines ≡ [] → EndsHeader r.version end) → Lined text end r
run_to {whole} {text} {r} end h begins full ends_header =
    let v : Version = r.version in
    let b : Base = r.base in
    let first : List Form = first_forms v b in
    let hs : List Form = flat_map area_forms b.config.areas in
    let is : List Form = map interface_form b.interfaces in
    let held : List Form = map lsa_form b.lsas in
    let ls : List Form = map form_of r.lines in
    let fourth : List (List ℕ) = map line_text ls ++ end in
    let third : List (List ℕ) = map line_text held ++ fourth in
    let second : List (List ℕ) = map line_text is ++ third in
    let full4 : 0 < length fourth = full_after (map line_text ls) end full in
    let full3 : 0 < length third = full_after (map line_text held) fourth full4 in
    let full2 : 0 < length second = full_after (map line_text is) third full3 in
    let front : All IsForm (front_forms v b) = all_left IsForm (front_forms v b) ls h.forms in
    let head : All IsForm (first ++ hs) = all_left IsForm (first ++ hs) (is ++ held) front in
    let base : All IsForm (is ++ held) = all_right IsForm (first ++ hs) (is ++ held) front in
    let legal_first : All IsForm first = all_left IsForm first hs head in
    let legal : All IsForm ls = all_right IsForm (front_forms v b) ls h.forms in
    let parts : parts_of text ≡ map line_text first ++ (map line_text hs ++ second) =
    begins
    ∙ told (front_forms v b) ls end
    ∙ told (first ++ hs) (is ++ held) fourth
    ∙ ap (λ (t : List (List ℕ)). map line_text (first ++ hs) ++ t) (told is held fourth)
    ∙ told first hs second in
    let setting : Setting = record { router = b.config.router; compat = b.config.compat; serial = b.serial } in
    let spelled : CanSpell v (headed_base setting []) = record { compat = h.kept.spelled.compat; serial = h.kept.spelled.serial; interfaces = λ other. refl; lsas = λ other. refl } in
    let begun = first_run v text setting (map line_text hs ++ second) spelled (router_legal v b legal_first) (serial_legal v b h.kept.spelled legal_first) (full_after (map line_text hs) second full2) parts in
    let headed' = header_run v text (headed_base setting []) hs second full2 (all_right IsForm first hs head) (areas_in_order [] b.config.areas h.kept.ordered.areas) begun in
    let header : Headed v text second (read_base b [] []) = subst (λ (areas : List AreaConfig). Headed v text second (headed_base setting areas)) (areas_said [] b.config.areas) headed' in
    let later = others_later r h.kept in
    let ends : EndsHeader v second = subst (EndsHeader v) (told (is ++ held) ls end ∙ told is held fourth) (ends_there v end ((is ++ held) ++ ls) full (All-append IsForm (is ++ held) ls base legal) later.own later.others (λ none. ends_header (no_lines (is ++ held) r.lines none))) in
    let usable = usable_from b h.kept.sound in
    let begun' = lines_begin {taken = header.taken} header.has ends usable.config in
    let interfaces = interfaces_run v text b h.kept.spelled h.kept.ordered usable.fit [] b.interfaces third refl full3 (all_left IsForm is held base) (record { taken = header.taken; has = begun' }) in
    let lsas = lsas_run v text b h.kept.spelled h.kept.ordered usable.fit [] b.lsas fourth refl full4 (all_right IsForm is held base) h.held interfaces in
    lines_run text (of_base v b) r.lines end full legal h.kept.kinds h.kept.lines h.lsas lsas

-- reading the text of a recording
text_run : {text : List ℕ} {r : RecordingValue} → IsText text r → Lined text ([] ∷ []) r
text_run h = run_to ([] ∷ []) h (parts_of_text h) (omega arith) (λ none. refl)

no_end_fault : (before : List (List ℕ)) (f : Fault) → first_lines (version_of before) ≤ length before → ¬ IsFaultOfEnd before [] f
no_end_fault before fault.Truncated many h = elim h [ inl other ↦ other refl | inr few ↦ omega arith ]
no_end_fault before _ many h = h

no_fault_past : (before here : List (List ℕ)) (f : Fault) → length here ≡ 0 → ¬ IsFaultAt before here f
no_fault_past before here f none h = subst (λ (p : List (List ℕ)). IsFaultAt before p f) (nil_from_length here none) h

pub text_right : {text : List ℕ} {r : RecordingValue} → IsText text r → (number : ℕ) (f : Fault) → ¬ HasFault text number f
text_right {text} {r} h number f has =
    let run = text_run h in
    let at = run.has in
    let many : first_lines (version_of at.before) ≤ length at.before = subst (λ v. first_lines v ≤ length at.before) (sym at.version) (many_lines at) in
    let count : length has.before + length has.here ≡ length at.before + 1 =
    sym (length-append has.before has.here) ∙ ap length (sym has.parts ∙ at.parts) ∙ length_push at.before [] in
    elim (cases_lt number (run.taken + 1)) [
      | inl below ↦ at.right number f below has
      | inr from ↦
          elim (cases_lt (run.taken + 1) number) [
            | inl past ↦ no_fault_past has.before has.here f (omega (arith, has.counted, at.counted)) has.has
            | inr to ↦
                let same : number ≡ length at.before + 1 = omega (arith, at.counted) in
                no_end_fault at.before f many (fault_at text number at.before ([] ∷ []) f at.parts same has)
          ]
    ]

-- ---- what is found of the text of a recording

pub only_memory : {text : List ℕ} {r : RecordingValue} → IsText text r → (l : LineFault) → IsFaultOf text l → l.fault ≡ fault.Memory
only_memory h l of = elim of [ inl memory ↦ memory.0 | inr first ↦ absurd (text_right h l.line l.fault first.has) ]

pub only_this : {text : List ℕ} (found : Result RecordingValue LineFault) → IfOk found (IsText text) → IfErr found (IsFaultOf text) → (r : RecordingValue) → IsText text r → MatchResult found (λ s. s ≡ r) (λ l. l.fault ≡ fault.Memory)
only_this (Ok s) is faulty r h = text_once is h
only_this (Err l) is faulty r h = only_memory h l faulty

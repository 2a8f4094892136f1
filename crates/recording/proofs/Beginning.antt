-- The first lines, each in its place.
use Rattle.std.proofs.Common.{ℕ, ◌≡◌, ◌≢◌, ◌+◌, ◌<◌, ◌++◌, Bool, false, List, [], ◌∷◌, length, codes, cond, refl, sym, ap, subst, ◌∙◌, inr, arith}
use Rattle.std.specs.Str.{bytes_eq}
use Rattle.recording.specs.declared.fault.Fault.TheVariants as fault
use Rattle.recording.specs.declared.version.Version.{Version}
use Rattle.recording.specs.declared.version.Version.TheVariants.{One, Two, Three}
use Rattle.recording.specs.Forms.{Form, VersionLine, RouterLine, CompatLine, SerialLine, Says, line_text}
use Rattle.recording.specs.Faults.{parts_of, IsFaultOf, IsNoVersion}
use Rattle.recording.specs.Places.{IsLinePlaced, first_lines, version_of}
use Rattle.recording.specs.declared.form.LineForm.{LineForm}
use Rattle.recording.specs.declared.form.LineForm.TheVariants as read
use Rattle.recording.specs.Reading.{said_by}
use Rattle.recording.specs.declared.header.Setting.{Setting}
use Rattle.recording.specs.Progress.{HasRead, headed_base}
use Rattle.recording.specs.Recordings.{CanSpell}
use Rattle.recording.proofs.AllSaid.{said_length}
use Rattle.recording.proofs.Forms.{differs}
use Rattle.recording.proofs.HeaderSteps.{lines_read, version_step, read_step, read_no_form, read_order, read_cut, few_clean}
use Rattle.recording.proofs.Parts.{IsLineAt, IsHarmless, parts_full, none_before, version_fault, version_said, end_fault, three_first}

-- ---- the first line

other_version : (line : List ℕ) → IsNoVersion line → version_of (line ∷ []) ≡ One
other_version line none =
    ap (λ (b : Bool). cond b Three (cond (bytes_eq line (codes "abr 2")) Two One)) (differs line (codes "abr 3") (none Three))
    ∙ ap (λ (b : Bool). cond b Two One) (differs line (codes "abr 2") (none Two))

module _ (text : List ℕ) (taken : ℕ) (none : taken ≡ 0) (left : List (List ℕ)) (whole : left ≡ parts_of text) where
  pub first_end : (cut : List ℕ) → left ≡ cut ∷ [] → IsFaultOf text (record { line = taken + 1; fault = fault.Truncated })
  first_end cut is =
      inr (end_fault text (taken + 1) [] cut (sym whole ∙ is) (omega arith) (none_before text (taken + 1) (omega arith)) (inr (omega arith)))

  first_at : (v : Version) (line behind : List ℕ) → left ≡ line ∷ parts_of behind → version_of (line ∷ []) ≡ v → IsLineAt v text (taken + 1) [] line (parts_of behind)
  first_at v line behind is version = record { parts = sym whole ∙ is; full = parts_full behind; counted = omega arith; version = version }

  pub first_step : (v : Version) (line behind : List ℕ) → left ≡ line ∷ parts_of behind → line ≡ line_text (VersionLine v) → HasRead v text (taken + 1) (parts_of behind) (VersionLine v ∷ [])
  first_step v line behind is said =
      version_step (first_at v line behind is (version_said v line [] said)) (record { spelled = said; legal = tt; of_version = refl })

  pub first_other : (line behind : List ℕ) → left ≡ line ∷ parts_of behind → IsNoVersion line → IsFaultOf text (record { line = taken + 1; fault = fault.Version })
  first_other line behind is none = inr (version_fault (first_at One line behind is (other_version line none)) none)

-- ---- the lines after it, as long as one of the first lines is missing

pub one_few : (v : Version) → 1 < first_lines v
one_few One = omega arith
one_few Two = omega arith
one_few Three = omega arith

pub two_few : (v : Version) → v ≢ One → 2 < first_lines v
two_few v later = omega (arith, three_first v later)

pub three_few : 3 < first_lines Three
three_few = omega arith

-- a line that has its place alone to say
pub harmless_router : (router : ℕ) → IsHarmless (RouterLine router)
harmless_router router = record { readable = refl; fit = λ f. refl }

pub harmless_compat : (compat : Bool) → IsHarmless (CompatLine compat)
harmless_compat compat = record { readable = refl; fit = λ f. refl }

pub harmless_serial : (serial : ℕ) → IsHarmless (SerialLine serial)
harmless_serial serial = record { readable = refl; fit = λ f. refl }

module _ {v : Version} {text : List ℕ} {taken : ℕ} {left : List (List ℕ)} {forms : List Form} (h : HasRead v text taken left forms) (few : length forms < first_lines v) where
  pub counted : length (lines_read h) ≡ length forms
  counted = said_length v (lines_read h) forms h.said

  pub next_end : (cut : List ℕ) → left ≡ cut ∷ [] → IsFaultOf text (record { line = taken + 1; fault = fault.Truncated })
  next_end cut is = inr (read_cut h cut is (inr (omega (arith, few, counted))) (few_clean h few))

  pub next_no_form : (line behind : List ℕ) → left ≡ line ∷ parts_of behind → ((form : Form) → ¬ Says v line form) → IsFaultOf text (record { line = taken + 1; fault = fault.Line })
  next_no_form line behind is none = inr (read_no_form h line (parts_of behind) is (parts_full behind) none (few_clean h few))

  pub next_step_at : (line : List ℕ) (rest : List (List ℕ)) → left ≡ line ∷ rest → 0 < length rest → (form : Form) → Says v line form → IsLinePlaced v (lines_read h) form → IsHarmless form → HasRead v text (taken + 1) rest (forms ++ form ∷ [])
  next_step_at line rest is full form said placed whole = read_step h line rest is full form said placed whole (few_clean h few)

  pub next_step : (line behind : List ℕ) → left ≡ line ∷ parts_of behind → (form : Form) → Says v line form → IsLinePlaced v (lines_read h) form → IsHarmless form → HasRead v text (taken + 1) (parts_of behind) (forms ++ form ∷ [])
  next_step line behind is = next_step_at line (parts_of behind) is (parts_full behind)

  pub next_other : (line behind : List ℕ) → left ≡ line ∷ parts_of behind → (form : Form) → Says v line form → ¬ IsLinePlaced v (lines_read h) form → IsFaultOf text (record { line = taken + 1; fault = fault.Order })
  next_other line behind is form said other = inr (read_order h line (parts_of behind) is (parts_full behind) form said other (few_clean h few))

-- ---- what was read

pub other_second : (form : LineForm) → ((router : ℕ) → form ≡ read.Router router → ⊥) → (router : ℕ) → said_by form ≢ RouterLine router
other_second (read.Router router) other n e = other router refl
other_second _ other n e = cc

pub other_third : (form : LineForm) → ((compat : Bool) → form ≡ read.Compat compat → ⊥) → (compat : Bool) → said_by form ≢ CompatLine compat
other_third (read.Compat compat) other n e = other compat refl
other_third _ other n e = cc

pub other_fourth : (form : LineForm) → ((serial : ℕ) → form ≡ read.Serial serial → ⊥) → (serial : ℕ) → said_by form ≢ SerialLine serial
other_fourth (read.Serial serial) other n e = other serial refl
other_fourth _ other n e = cc

-- the first lines alone say no interface and no LSA
pub spelled_alone : (v : Version) (setting : Setting) → (v ≡ One → setting.compat ≡ false) → (v ≢ Three → setting.serial ≡ 0) → CanSpell v (headed_base setting [])
spelled_alone v setting compat serial = record { compat = compat; serial = serial; interfaces = λ _. refl; lsas = λ _. refl }

pub no_version : (line : List ℕ) → line ≢ codes "abr 1" → line ≢ codes "abr 2" → line ≢ codes "abr 3" → IsNoVersion line
no_version line one two three One h = one h
no_version line one two three Two h = two h
no_version line one two three Three h = three h

-- what holds, at another name of the text and of the number of lines
pub at_place : (P : List ℕ → ℕ → Type 0) (text text' : List ℕ) (n n' : ℕ) → text' ≡ text → n' ≡ n → P text n → P text' n'
at_place P text text' n n' t m h = subst (λ (x : List ℕ). P x n') (sym t) (subst (P text) (sym m) h)

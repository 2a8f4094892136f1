-- From line to line of a header.
use Rattle.std.proofs.Common.{ℕ, ◌≡◌, ◌≢◌, ◌+◌, ◌<◌, ◌⊎◌, ◌++◌, Bool, true, false, List, [], ◌∷◌, length, Option, Some, None, refl, sym, ap, subst, ◌∙◌, inl, arith, append_assoc, append-nil}
use Rattle.std.specs.List.{flat_map}
use Rattle.std.proofs.lemmas.List.{length_push}
use Rattle.std.proofs.lemmas.List.Elements.{All-nil}
use Rattle.ospf_types.specs.declared.config.AreaConfig.{AreaConfig}
use Rattle.event_state.specs.declared.base.Base.{Base}
use Rattle.ospf_types.specs.Configs.{areas_fault_of, config_fault_of}
use Rattle.ospf_types.specs.declared.fault.ConfigFault.{ConfigFault}
use Rattle.recording.specs.declared.fault.Fault.{Fault}
use Rattle.recording.specs.declared.fault.Fault.TheVariants as fault
use Rattle.recording.specs.declared.version.Version.{Version}
use Rattle.recording.specs.declared.version.Version.TheVariants.{One, Three}
use Rattle.recording.specs.declared.header.Setting.{Setting}
use Rattle.recording.specs.Forms.{Form, VersionLine, RouterLine, CompatLine, SerialLine, AreaLine, RangeLine, HasInterfaceLine, HasLsaLine, BodyLine, Says, AllSay}
use Rattle.recording.specs.Places.{LinesSoFar, AreSaid, IsLinePlaced, first_lines, front_of, headed, is_of_header, is_next, is_next_area, with_form}
use Rattle.recording.specs.Faults.{EndsHeader, HasConfigFault, HasFault, IsFirstFault, IsMemoryAt, AreRightBefore, number_of}
use Rattle.recording.specs.Recordings.{CanSpell, HasKind, HasWholeLsa, AreLsasOfBytes, IsLineIn, IsLsaOfBytes, area_forms, first_forms, header_forms}
use Rattle.recording.specs.Progress.{HasRead, HasHeader, HasLines, headed_base, with_areas}
use Rattle.recording.proofs.Areas.{areas_of_said, areas_not_ended, said_more, ordered_more, ordered_none}
use Rattle.recording.proofs.BaseSound.{bare_ordered, bare_sound}
use Rattle.recording.proofs.Fronts.{bare_forms, front_of_said}
use Rattle.recording.proofs.Parts.{IsLineAt, IsHarmless, fits, line_fault, has_line_fault, line_there, none_before, right_more, but_config, form_fault, order_fault, end_fault, two_first, three_first, version_push}
use Rattle.recording.proofs.AllSaid.{said_push, said_length, said_header, forms_behind}

all_faults : (P : Fault → Type 0) → ((f : Fault) → number_of f ≢ 55 → P f) → ((c : ConfigFault) → P (fault.Config c)) → (f : Fault) → P f
all_faults P others config fault.Truncated = others fault.Truncated (λ e. omega arith)
all_faults P others config fault.Version = others fault.Version (λ e. omega arith)
all_faults P others config fault.Line = others fault.Line (λ e. omega arith)
all_faults P others config fault.Order = others fault.Order (λ e. omega arith)
all_faults P others config (fault.Wire f) = others (fault.Wire f) (λ e. omega arith)
all_faults P others config (fault.Config f) = config f
all_faults P others config (fault.Base u) = others (fault.Base u) (λ e. omega arith)
all_faults P others config fault.Memory = others fault.Memory (λ e. omega arith)

-- a line without a fault
pub right_past : {v : Version} {text : List ℕ} {number : ℕ} {before : List (List ℕ)} {line : List ℕ} {rest : List (List ℕ)} → IsLineAt v text number before line rest → AreRightBefore text number → ((f : Fault) → number_of f ≢ 55 → ¬ HasFault text number f) → ((c : ConfigFault) → ¬ HasConfigFault v (before ++ line ∷ []) rest c) → AreRightBefore text (number + 1)
right_past {v} {text} {number} at right others config =
    right_more text number right (all_faults (λ f. ¬ HasFault text number f) others (λ c h. config c (line_fault at (fault.Config c) h)))

pub not_nil : (front : List (List ℕ)) (last : List ℕ) → front ++ last ∷ [] ≢ []
not_nil front last e = let n : length (front ++ last ∷ []) ≡ 0 = ap length e in omega (arith, length_push front last)

pub not_both : (b : Bool) → b ≡ true → b ≡ false → ⊥
not_both b here other = cc

-- ---- lines that were read, and one more

-- the first of them
pub version_step : {v : Version} {text : List ℕ} {number : ℕ} {line : List ℕ} {rest : List (List ℕ)} → IsLineAt v text number [] line rest → Says v line (VersionLine v) → HasRead v text number rest (VersionLine v ∷ [])
version_step {v} {text} {number} {line} {rest} at said = record {
  earlier = [];
  last = line;
  parts = at.parts;
  counted = at.counted;
  version = at.version;
  said = (said, tt);
  right = none_before text number (omega (arith, at.counted));
  others = λ f other g. but_config v [] line rest (VersionLine v) said refl refl (fits v [] line (VersionLine v) said (λ forms all. refl)) f other (line_fault at f g);
}

module _ {v : Version} {text : List ℕ} {taken : ℕ} {left : List (List ℕ)} {forms : List Form} (h : HasRead v text taken left forms) where
  -- the lines that were read
  abbrev pub lines_read : List (List ℕ)
  lines_read = h.earlier ++ h.last ∷ []

  -- the header does not end there with a fault of the configuration
  abbrev pub IsClean : Type 0
  IsClean = (c : ConfigFault) → ¬ HasConfigFault v lines_read left c

  pub last_at : 0 < length left → IsLineAt v text taken h.earlier h.last left
  last_at full = record {
    parts = h.parts ∙ append_assoc h.earlier (h.last ∷ []) left;
    full = full;
    counted = h.counted;
    version = h.version;
  }

  pub read_line : (line : List ℕ) (rest : List (List ℕ)) → left ≡ line ∷ rest → 0 < length rest → IsLineAt v text (taken + 1) lines_read line rest
  read_line line rest is full = record {
    parts = h.parts ∙ ap (λ (t : List (List ℕ)). lines_read ++ t) is;
    full = full;
    counted = omega (arith, h.counted, length_push h.earlier h.last);
    version = version_push lines_read line (not_nil h.earlier h.last) ∙ h.version;
  }

  pub read_right : 0 < length left → IsClean → AreRightBefore text (taken + 1)
  read_right full clean = right_past (last_at full) h.right h.others clean

  pub read_step : (line : List ℕ) (rest : List (List ℕ)) → left ≡ line ∷ rest → 0 < length rest → (form : Form) → Says v line form → IsLinePlaced v lines_read form → IsHarmless form → IsClean → HasRead v text (taken + 1) rest (forms ++ form ∷ [])
  read_step line rest is full form said placed whole clean =
      let at = read_line line rest is full in
      record {
        earlier = lines_read;
        last = line;
        parts = at.parts ∙ sym (append_assoc lines_read (line ∷ []) rest);
        counted = at.counted;
        version = at.version;
        said = said_push v lines_read forms line form h.said said;
        right = read_right (omega (arith, ap length is)) clean;
        others = λ f other g. but_config v lines_read line rest form said placed whole.readable (fits v lines_read line form said (λ fs all. whole.fit (front_of fs))) f other (line_fault at f g);
      }

  pub read_no_form : (line : List ℕ) (rest : List (List ℕ)) → left ≡ line ∷ rest → 0 < length rest → ((form : Form) → ¬ Says v line form) → IsClean → IsFirstFault text (taken + 1) fault.Line
  read_no_form line rest is full none clean =
      form_fault (read_line line rest is full) (read_right (omega (arith, ap length is)) clean) (not_nil h.earlier h.last) none

  pub read_order : (line : List ℕ) (rest : List (List ℕ)) → left ≡ line ∷ rest → 0 < length rest → (form : Form) → Says v line form → ¬ IsLinePlaced v lines_read form → IsClean → IsFirstFault text (taken + 1) fault.Order
  read_order line rest is full form said other clean =
      order_fault (read_line line rest is full) (read_right (omega (arith, ap length is)) clean) (not_nil h.earlier h.last) form said other

  pub read_cut : (cut : List ℕ) → left ≡ cut ∷ [] → (cut ≢ []) ⊎ (length lines_read < first_lines v) → IsClean → IsFirstFault text (taken + 1) fault.Truncated
  read_cut cut is why clean =
      let Why : Version → Type 0 = λ w. (cut ≢ []) ⊎ (length lines_read < first_lines w) in
      end_fault text (taken + 1) lines_read cut (h.parts ∙ ap (λ (t : List (List ℕ)). lines_read ++ t) is) (omega (arith, h.counted, length_push h.earlier h.last)) (read_right (omega (arith, ap length is)) clean) (subst Why (sym h.version) why)

-- ---- the first lines

-- one of the first lines is missing yet
pub few_clean : {v : Version} {text : List ℕ} {taken : ℕ} {left : List (List ℕ)} {forms : List Form} (h : HasRead v text taken left forms) → length forms < first_lines v → IsClean h
few_clean {v} {forms = forms} h few c g = omega (arith, g.header.many, few, said_length v (lines_read h) forms h.said)

-- in the second line any other line is out of order
pub router_order : (v : Version) (before : List (List ℕ)) → length before ≡ 1 → (form : Form) → ((router : ℕ) → form ≢ RouterLine router) → ¬ IsLinePlaced v before form
router_order v before one (VersionLine version) other h = let n : length before ≡ 0 = ap length h in omega arith
router_order v before one (RouterLine router) other h = other router refl
router_order v before one (CompatLine compat) other h = omega arith
router_order v before one (SerialLine serial) other h = omega arith
router_order v before one (AreaLine id stub) other h = omega (arith, h.1.many, two_first v)
router_order v before one (RangeLine area range) other h = omega (arith, h.1.many, two_first v)
router_order v before one (HasInterfaceLine id i) other h = omega (arith, h.1.many, two_first v)
router_order v before one (HasLsaLine at bytes) other h = omega (arith, h.1.many, two_first v)
router_order v before one (BodyLine body) other h = omega (arith, two_first v)

-- and so in the third from version 2 on
pub compat_order : (v : Version) (before : List (List ℕ)) → v ≢ One → length before ≡ 2 → (form : Form) → ((compat : Bool) → form ≢ CompatLine compat) → ¬ IsLinePlaced v before form
compat_order v before later two (VersionLine version) other h = let n : length before ≡ 0 = ap length h in omega arith
compat_order v before later two (RouterLine router) other h = omega arith
compat_order v before later two (CompatLine compat) other h = other compat refl
compat_order v before later two (SerialLine serial) other h = omega arith
compat_order v before later two (AreaLine id stub) other h = omega (arith, h.1.many, three_first v later)
compat_order v before later two (RangeLine area range) other h = omega (arith, h.1.many, three_first v later)
compat_order v before later two (HasInterfaceLine id i) other h = omega (arith, h.1.many, three_first v later)
compat_order v before later two (HasLsaLine at bytes) other h = omega (arith, h.1.many, three_first v later)
compat_order v before later two (BodyLine body) other h = omega (arith, three_first v later)

-- and in the fourth of version 3
pub serial_order : (before : List (List ℕ)) → length before ≡ 3 → (form : Form) → ((serial : ℕ) → form ≢ SerialLine serial) → ¬ IsLinePlaced Three before form
serial_order before three (VersionLine version) other h = let n : length before ≡ 0 = ap length h in omega arith
serial_order before three (RouterLine router) other h = omega arith
serial_order before three (CompatLine compat) other h = omega arith
serial_order before three (SerialLine serial) other h = other serial refl
serial_order before three (AreaLine id stub) other h = omega (arith, h.1.many)
serial_order before three (RangeLine area range) other h = omega (arith, h.1.many)
serial_order before three (HasInterfaceLine id i) other h = omega (arith, h.1.many)
serial_order before three (HasLsaLine at bytes) other h = omega (arith, h.1.many)
serial_order before three (BodyLine body) other h = omega arith

-- ---- the end of a header

pub not_end : (v : Version) (line : List ℕ) (rest : List (List ℕ)) → 0 < length rest → (form : Form) → Says v line form → is_of_header form ≡ true → ¬ EndsHeader v (line ∷ rest)
not_end v line [] full form said here e = omega arith
not_end v line (next ∷ more) full form said here e = e form said here

pub to_end : (v : Version) (line : List ℕ) (rest : List (List ℕ)) → 0 < length rest → ((form : Form) → Says v line form → is_of_header form ≢ true) → EndsHeader v (line ∷ rest)
to_end v line [] full other = absurd (omega arith)
to_end v line (next ∷ more) full other = other

pub of_end : (v : Version) (line : List ℕ) (rest : List (List ℕ)) → 0 < length rest → EndsHeader v (line ∷ rest) → (form : Form) → Says v line form → is_of_header form ≢ true
of_end v line [] full e = absurd (omega arith)
of_end v line (next ∷ more) full e = e

end_full : (v : Version) (left : List (List ℕ)) → EndsHeader v left → 0 < length left
end_full v [] e = absurd e
end_full v (line ∷ rest) e = omega arith

-- ---- a form that is next

-- what there is to say of a form that may are there
pub record IsNextForm (v : Version) (before : List (List ℕ)) (form : Form) : Type 0 where
  pub placed : IsLinePlaced v before form
  pub whole : IsHarmless form
  pub header : is_of_header form ≡ true

next_form : (v : Version) (before : List (List ℕ)) (b : Base) → AllSay v before (header_forms v b) → (form : Form) → is_next_area b.config.areas form ≡ true → IsNextForm v before form
next_form v before b all (AreaLine id stub) next = record {
  placed = (flat_map area_forms b.config.areas, said_header v before b all, subst (λ (f : LinesSoFar). is_next f (AreaLine id stub) ≡ true) (sym (front_of_said b.config.areas)) next);
  whole = record { readable = refl; fit = λ f. refl };
  header = refl;
}
next_form v before b all (RangeLine area range) next = record {
  placed = (flat_map area_forms b.config.areas, said_header v before b all, subst (λ (f : LinesSoFar). is_next f (RangeLine area range) ≡ true) (sym (front_of_said b.config.areas)) next);
  whole = record { readable = refl; fit = λ f. refl };
  header = refl;
}
next_form v before b all (VersionLine version) next = cc
next_form v before b all (RouterLine router) next = cc
next_form v before b all (CompatLine compat) next = cc
next_form v before b all (SerialLine serial) next = cc
next_form v before b all (HasInterfaceLine id i) next = cc
next_form v before b all (HasLsaLine at bytes) next = cc
next_form v before b all (BodyLine body) next = cc

-- a line of the header that may come after these is next
placed_next : (v : Version) (before : List (List ℕ)) (areas : List AreaConfig) → ((forms : List Form) → AreSaid v before forms → front_of forms ≡ headed areas) → (form : Form) → is_of_header form ≡ true → IsLinePlaced v before form → is_next_area areas form ≡ true
placed_next v before areas same (AreaLine id stub) here h = subst (λ (f : LinesSoFar). is_next f (AreaLine id stub) ≡ true) (same h.0 h.1) h.2
placed_next v before areas same (RangeLine area range) here h = subst (λ (f : LinesSoFar). is_next f (RangeLine area range) ≡ true) (same h.0 h.1) h.2
placed_next v before areas same (VersionLine version) here h = cc
placed_next v before areas same (RouterLine router) here h = cc
placed_next v before areas same (CompatLine compat) here h = cc
placed_next v before areas same (SerialLine serial) here h = cc
placed_next v before areas same (HasInterfaceLine id i) here h = cc
placed_next v before areas same (HasLsaLine at bytes) here h = cc
placed_next v before areas same (BodyLine body) here h = cc

none_or_some : (o : Option ConfigFault) (f : ConfigFault) → o ≡ None → o ≡ Some f → ⊥
none_or_some o f none some = cc

-- what says a configuration, and one line more
forms_more : (v : Version) (b : Base) (form : Form) → is_next_area b.config.areas form ≡ true → header_forms v b ++ form ∷ [] ≡ header_forms v (with_areas b (with_form b.config.areas form))
forms_more v b form next =
    let first : List Form = first_forms v b in
    append_assoc first (flat_map area_forms b.config.areas) (form ∷ [])
    ∙ ap (λ (fs : List Form). first ++ fs) (sym (said_more b.config.areas form next))

-- ---- the lines of the header

-- a configuration without areas is said by the first lines alone
pub header_begins : {v : Version} {text : List ℕ} {taken : ℕ} {left : List (List ℕ)} (setting : Setting) → CanSpell v (headed_base setting []) → HasRead v text taken left (first_forms v (headed_base setting [])) → HasHeader v text taken left (headed_base setting [])
header_begins {v} {text} {taken} {left} setting spelled h = record {
  read = subst (HasRead v text taken left) (sym (append-nil (first_forms v (headed_base setting [])))) h;
  spelled = spelled;
  bare = record { interfaces = refl; lsas = refl };
  ordered = ordered_none;
}

module _ {v : Version} {text : List ℕ} {taken : ℕ} {left : List (List ℕ)} {b : Base} (h : HasHeader v text taken left b) where
  abbrev lines : List (List ℕ)
  lines = lines_read h.read

  -- where the header goes on or a line is cut, what was read has no fault
  more_clean : ¬ EndsHeader v left → IsClean h.read
  more_clean more c g = more g.ends

  goes_on : (line : List ℕ) (rest : List (List ℕ)) → left ≡ line ∷ rest → 0 < length rest → (form : Form) → Says v line form → is_of_header form ≡ true → IsClean h.read
  goes_on line rest is full form said here = more_clean (λ e. not_end v line rest full form said here (subst (EndsHeader v) is e))

  -- what says a configuration is the header
  same_front : (forms : List Form) → AreSaid v lines forms → front_of forms ≡ headed b.config.areas
  same_front forms said =
      ap front_of (forms_behind v lines b (flat_map area_forms b.config.areas) forms h.read.said said)
      ∙ front_of_said b.config.areas

  pub header_step : (line : List ℕ) (rest : List (List ℕ)) → left ≡ line ∷ rest → 0 < length rest → (form : Form) → Says v line form → is_next_area b.config.areas form ≡ true → HasHeader v text (taken + 1) rest (with_areas b (with_form b.config.areas form))
  header_step line rest is full form said next =
      let n = next_form v lines b h.read.said form next in
      record {
        read = subst (HasRead v text (taken + 1) rest) (forms_more v b form next) (read_step h.read line rest is full form said n.placed n.whole (goes_on line rest is full form said n.header));
        spelled = record { compat = h.spelled.compat; serial = h.spelled.serial; interfaces = h.spelled.interfaces; lsas = h.spelled.lsas };
        bare = record { interfaces = h.bare.interfaces; lsas = h.bare.lsas };
        ordered = ordered_more b.config.areas form h.ordered next;
      }

  -- if memory runs out at a line of the header
  pub header_more : (line : List ℕ) (rest : List (List ℕ)) → left ≡ line ∷ rest → 0 < length rest → (form : Form) → Says v line form → is_of_header form ≡ true → IsMemoryAt text (taken + 1)
  header_more line rest is full form said here = record {
    there = line_there (read_line h.read line rest is full);
    lines = read_right h.read (omega (arith, ap length is)) (goes_on line rest is full form said here);
  }

  -- or at the last of those that were read
  pub header_last : 0 < length left → IsMemoryAt text taken
  header_last full = record { there = line_there (last_at h.read full); lines = h.read.right }

  pub header_order : (line : List ℕ) (rest : List (List ℕ)) → left ≡ line ∷ rest → 0 < length rest → (form : Form) → Says v line form → is_of_header form ≡ true → is_next_area b.config.areas form ≡ false → IsFirstFault text (taken + 1) fault.Order
  header_order line rest is full form said here other =
      read_order h.read line rest is full form said (λ placed. not_both (is_next_area b.config.areas form) (placed_next v lines b.config.areas same_front form here placed) other) (goes_on line rest is full form said here)

  pub header_cut : (cut : List ℕ) → left ≡ cut ∷ [] → cut ≢ [] → IsFirstFault text (taken + 1) fault.Truncated
  header_cut cut is some = read_cut h.read cut is (inl some) (more_clean (λ e. some (subst (EndsHeader v) is e)))

  pub header_config : EndsHeader v left → (f : ConfigFault) → config_fault_of b.config ≡ Some f → IsFirstFault text taken (fault.Config f)
  header_config ends f is =
      let fault_is : HasConfigFault v lines left f = record {
        forms = flat_map area_forms b.config.areas;
        header = said_header v lines b h.read.said;
        alone = areas_not_ended b.config.areas;
        ends = ends;
        has = ap areas_fault_of (areas_of_said b.config.areas) ∙ is;
      } in
      record {
        has = has_line_fault (last_at h.read (end_full v left ends)) (fault.Config f) fault_is;
        lines = h.read.right;
        faults = λ g lt. h.read.others g (λ e. omega arith);
      }

  -- the header is right, and ends
  pub lines_begin : EndsHeader v left → config_fault_of b.config ≡ None → HasLines text taken left (record { version = v; base = b; lines = [] })
  lines_begin ends none =
      let clean : IsClean h.read = λ c g.
      none_or_some (areas_fault_of b.config.areas) c none (sym (ap (λ (f : LinesSoFar). areas_fault_of f.areas) (same_front g.forms g.header)) ∙ g.has) in
      record {
        before = lines;
        parts = h.read.parts;
        counted = omega (arith, h.read.counted, length_push h.read.earlier h.read.last);
        version = h.read.version;
        said = subst (AllSay v lines) (bare_forms v b h.bare) h.read.said;
        kept = record {
          spelled = h.spelled;
          sound = bare_sound b h.bare h.ordered none;
          ordered = bare_ordered b h.bare h.ordered;
          kinds = All-nil HasKind;
          lines = All-nil (IsLineIn v);
        };
        held = subst AreLsasOfBytes (sym h.bare.lsas) (All-nil (λ x. IsLsaOfBytes x.1));
        lsas = All-nil HasWholeLsa;
        ends = λ _. ends;
        right = read_right h.read (end_full v left ends) clean;
      }

-- The faults of one line, at its one place in a text.
use Rattle.std.proofs.Common.{ℕ, ◌≡◌, ◌≢◌, ◌⊎◌, ◌+◌, ◌<◌, ◌≤◌, ◌==◌, ◌++◌, List, [], ◌∷◌, length, take, drop, Some, None, Option, refl, sym, ap, subst, ◌∙◌, inl, inr, arith}
use Rattle.std.proofs.lemmas.Bool.{cases_lt}
use Rattle.std.proofs.lemmas.List.{length-append, take_at, drop_at}
use Rattle.std.proofs.lemmas.List.Splits.{length-slice_split}
use Rattle.lsa_codec.specs.declared.fault.WireFault.{WireFault}
use Rattle.ospf_types.specs.declared.fault.ConfigFault.{ConfigFault}
use Rattle.event_state.specs.declared.base_fault.EntryFault.{EntryFault}
use Rattle.recording.specs.declared.fault.Fault.{Fault}
use Rattle.recording.specs.declared.fault.Fault.TheVariants as fault
use Rattle.recording.specs.declared.version.Version.{Version}
use Rattle.recording.specs.declared.version.Version.TheVariants.{One, Two, Three}
use Rattle.recording.specs.Forms.{Form, VersionLine, RouterLine, CompatLine, SerialLine, AreaLine, RangeLine, HasInterfaceLine, HasLsaLine, BodyLine, Says, line_text}
use Rattle.recording.specs.Places.{AreSaid, LinesSoFar, IsLinePlaced, first_lines, front_of, unfit_at, version_of, wire_fault_in}
use Rattle.recording.specs.Faults.{parts_of, IsFaultAt, IsFaultIn, IsFaultOfLine, IsNoVersion, HasConfigFault, HasUnfit, HasFault, HasLine, IsFirstFault, AreRightBefore, number_of}
use Rattle.recording.proofs.Forms.{says_one}

-- ---- places

pub parts_full : (bytes : List ℕ) → 0 < length (parts_of bytes)
parts_full bytes = omega (arith, length-slice_split (λ b. b == 10) bytes)

pub split_once : {X : Type 0} → (a b c d : List X) → a ++ b ≡ c ++ d → length a ≡ length c → (a ≡ c) × (b ≡ d)
split_once a b c d e n =
    (sym (take_at a b (length a) refl) ∙ ap (take (length a)) e ∙ take_at c d (length a) (sym n), sym (drop_at a b (length a) refl) ∙ ap (drop (length a)) e ∙ drop_at c d (length a) (sym n))

-- ---- versions

pub two_first : (v : Version) → 2 ≤ first_lines v
two_first One = omega arith
two_first Two = omega arith
two_first Three = omega arith

-- from version 2 on a third line comes first too
pub three_first : (v : Version) → v ≢ One → 3 ≤ first_lines v
three_first One later = absurd (later refl)
three_first Two later = omega arith
three_first Three later = omega arith

-- the first line says the version
pub version_said : (v : Version) (line : List ℕ) (others : List (List ℕ)) → line ≡ line_text (VersionLine v) → version_of (line ∷ others) ≡ v
version_said One line others is = ap (λ (l : List ℕ). version_of (l ∷ others)) is
version_said Two line others is = ap (λ (l : List ℕ). version_of (l ∷ others)) is
version_said Three line others is = ap (λ (l : List ℕ). version_of (l ∷ others)) is

pub version_push : (before : List (List ℕ)) (line : List ℕ) → before ≢ [] → version_of (before ++ line ∷ []) ≡ version_of before
version_push [] line some = absurd (some refl)
version_push (first ∷ before) line some = refl

-- in a recording of the version the line of this number comes after these lines and before those
-- parts, so that it has its line feed
pub record IsLineAt (v : Version) (text : List ℕ) (number : ℕ) (before : List (List ℕ)) (line : List ℕ) (rest : List (List ℕ)) : Type 0 where
  pub parts : parts_of text ≡ before ++ line ∷ rest
  pub full : 0 < length rest
  pub counted : number ≡ length before + 1
  pub version : version_of (before ++ line ∷ []) ≡ v

pub fault_at : (text : List ℕ) (number : ℕ) (before here : List (List ℕ)) (f : Fault) → parts_of text ≡ before ++ here → number ≡ length before + 1 → HasFault text number f → IsFaultAt before here f
fault_at text number before here f parts counted h =
    let s = split_once h.before h.here before here (sym h.parts ∙ parts) (omega arith) in
    subst (λ p. IsFaultAt before p f) s.1 (subst (λ b. IsFaultAt b h.here f) s.0 h.has)

of_line : (before : List (List ℕ)) (line : List ℕ) (rest : List (List ℕ)) (f : Fault) → 0 < length rest → IsFaultAt before (line ∷ rest) f → IsFaultOfLine before line rest f
of_line before line [] f full h = absurd (omega arith)
of_line before line (next ∷ more) f full h = h

to_line : (before : List (List ℕ)) (line : List ℕ) (rest : List (List ℕ)) (f : Fault) → 0 < length rest → IsFaultOfLine before line rest f → IsFaultAt before (line ∷ rest) f
to_line before line [] f full h = absurd (omega arith)
to_line before line (next ∷ more) f full h = h

pub line_fault : {v : Version} {text : List ℕ} {number : ℕ} {before : List (List ℕ)} {line : List ℕ} {rest : List (List ℕ)} → IsLineAt v text number before line rest → (f : Fault) → HasFault text number f → IsFaultIn v before line rest f
line_fault {v} {text} {number} {before} {line} {rest} at f h =
    subst (λ w. IsFaultIn w before line rest f) at.version (of_line before line rest f at.full (fault_at text number before (line ∷ rest) f at.parts at.counted h))

pub has_line_fault : {v : Version} {text : List ℕ} {number : ℕ} {before : List (List ℕ)} {line : List ℕ} {rest : List (List ℕ)} → IsLineAt v text number before line rest → (f : Fault) → IsFaultIn v before line rest f → HasFault text number f
has_line_fault {v} {text} {number} {before} {line} {rest} at f h = record {
  before = before;
  here = line ∷ rest;
  parts = at.parts;
  counted = at.counted;
  has = to_line before line rest f at.full (subst (λ w. IsFaultIn w before line rest f) (sym at.version) h);
}

-- the parts in front of the last are lines of the text
pub line_among : (text : List ℕ) (number : ℕ) (before here : List (List ℕ)) → parts_of text ≡ before ++ here → 1 ≤ number → number < length before + length here → HasLine text number
line_among text number before here parts first last = record { first = first; last = omega (arith, last, ap length parts, length-append before here) }

pub line_there : {v : Version} {text : List ℕ} {number : ℕ} {before : List (List ℕ)} {line : List ℕ} {rest : List (List ℕ)} → IsLineAt v text number before line rest → HasLine text number
line_there {v} {text} {number} {before} {line} {rest} at =
    line_among text number before (line ∷ rest) at.parts (omega (arith, at.counted)) (omega (arith, at.counted, at.full))

-- no line has a number below 1
pub none_before : (text : List ℕ) (number : ℕ) → number ≤ 1 → AreRightBefore text number
none_before text number first n f lt h = omega arith

le_or_eq : (n m : ℕ) → n ≤ m → (n < m) ⊎ (n ≡ m)
le_or_eq n m h = elim (cases_lt n m) [ inl below ↦ inl below | inr above ↦ inr (omega arith) ]

-- one more line without a fault
pub right_more : (text : List ℕ) (number : ℕ) → AreRightBefore text number → ((f : Fault) → ¬ HasFault text number f) → AreRightBefore text (number + 1)
right_more text number right here n f lt h =
    elim (le_or_eq n number (omega arith)) [ inl below ↦ right n f below h | inr same ↦ here f (subst (λ m. HasFault text m f) same h) ]

-- ---- the faults that a line has not

below_version : (v : Version) (before : List (List ℕ)) (line : List ℕ) (rest : List (List ℕ)) (g : Fault) → number_of g < 51 → ¬ IsFaultIn v before line rest g
below_version v before line rest fault.Truncated lt h = h
below_version v before line rest fault.Version lt h = omega arith
below_version v before line rest fault.Line lt h = omega arith
below_version v before line rest fault.Order lt h = omega arith
below_version v before line rest (fault.Wire f) lt h = omega arith
below_version v before line rest (fault.Config f) lt h = omega arith
below_version v before line rest (fault.Base u) lt h = omega arith
below_version v before line rest fault.Memory lt h = h

-- a line after the first
below_line : (v : Version) (before : List (List ℕ)) (line : List ℕ) (rest : List (List ℕ)) → before ≢ [] → (g : Fault) → number_of g < 52 → ¬ IsFaultIn v before line rest g
below_line v before line rest later fault.Truncated lt h = h
below_line v before line rest later fault.Version lt h = later h.0
below_line v before line rest later fault.Line lt h = omega arith
below_line v before line rest later fault.Order lt h = omega arith
below_line v before line rest later (fault.Wire f) lt h = omega arith
below_line v before line rest later (fault.Config f) lt h = omega arith
below_line v before line rest later (fault.Base u) lt h = omega arith
below_line v before line rest later fault.Memory lt h = h

-- and it has a form
below_order : (v : Version) (before : List (List ℕ)) (line : List ℕ) (rest : List (List ℕ)) → before ≢ [] → (form : Form) → Says v line form → (g : Fault) → number_of g < 53 → ¬ IsFaultIn v before line rest g
below_order v before line rest later form said fault.Truncated lt h = h
below_order v before line rest later form said fault.Version lt h = later h.0
below_order v before line rest later form said fault.Line lt h = h form said
below_order v before line rest later form said fault.Order lt h = omega arith
below_order v before line rest later form said (fault.Wire f) lt h = omega arith
below_order v before line rest later form said (fault.Config f) lt h = omega arith
below_order v before line rest later form said (fault.Base u) lt h = omega arith
below_order v before line rest later form said fault.Memory lt h = h

-- the first line says a version, where it stands right
placed_first : (v : Version) (form : Form) → IsLinePlaced v [] form → (version : Version) × (form ≡ VersionLine version)
placed_first v (VersionLine version) h = (version, refl)
placed_first v (RouterLine router) h = absurd (omega arith)
placed_first v (CompatLine compat) h = absurd (omega arith)
placed_first v (SerialLine serial) h = absurd (omega arith)
placed_first v (HasInterfaceLine id i) h = absurd (omega (arith, h.1.many, two_first v))
placed_first v (HasLsaLine at bytes) h = absurd (omega (arith, h.1.many, two_first v))
placed_first v (AreaLine id stub) h = absurd (omega (arith, h.1.many, two_first v))
placed_first v (RangeLine area range) h = absurd (omega (arith, h.1.many, two_first v))
placed_first v (BodyLine body) h = absurd (omega (arith, two_first v))

first_version : (v : Version) (before : List (List ℕ)) (line : List ℕ) (form : Form) → Says v line form → IsLinePlaced v before form → before ≡ [] → IsNoVersion line → ⊥
first_version v before line form said placed first none =
    let is = placed_first v form (subst (λ b. IsLinePlaced v b form) first placed) in none is.0 (said.spelled ∙ ap line_text is.1)

-- a form that may are there
pub below_wire : (v : Version) (before : List (List ℕ)) (line : List ℕ) (rest : List (List ℕ)) (form : Form) → Says v line form → IsLinePlaced v before form → (g : Fault) → number_of g < 54 → ¬ IsFaultIn v before line rest g
below_wire v before line rest form said placed fault.Truncated lt h = h
below_wire v before line rest form said placed fault.Version lt h = first_version v before line form said placed h.0 h.1
below_wire v before line rest form said placed fault.Line lt h = h form said
below_wire v before line rest form said placed fault.Order lt h =
    h.2 (subst (λ f. IsLinePlaced v before f) (says_one line form h.0 said h.1) placed)
below_wire v before line rest form said placed (fault.Wire f) lt h = omega arith
below_wire v before line rest form said placed (fault.Config f) lt h = omega arith
below_wire v before line rest form said placed (fault.Base u) lt h = omega arith
below_wire v before line rest form said placed fault.Memory lt h = h

-- the bytes that a form has are an LSA
abbrev pub HasNoWireFault : Form → Type 0
HasNoWireFault form = wire_fault_in form ≡ None

-- a form that has none of the later faults, whatever comes before it
pub record IsHarmless (form : Form) : Type 0 where
  pub readable : HasNoWireFault form
  pub fit : (f : LinesSoFar) → unfit_at f form ≡ None

none_not_some : {X : Type 0} (o : Option X) (x : X) → o ≡ None → o ≡ Some x → ⊥
none_not_some o x none some = cc

-- what the line says fits what the lines before say
pub fits : (v : Version) (before : List (List ℕ)) (line : List ℕ) (form : Form) → Says v line form → ((forms : List Form) → AreSaid v before forms → unfit_at (front_of forms) form ≡ None) → (u : EntryFault) → ¬ HasUnfit v before line u
fits v before line form said fit u h =
    none_not_some (unfit_at (front_of h.forms) form) u (fit h.forms h.said) (subst (λ (f : Form). unfit_at (front_of h.forms) f ≡ Some u) (says_one line h.form form h.says said) h.has)

-- and no fault of an LSA
below_config : (v : Version) (before : List (List ℕ)) (line : List ℕ) (rest : List (List ℕ)) (form : Form) → Says v line form → IsLinePlaced v before form → HasNoWireFault form → (g : Fault) → number_of g < 55 → ¬ IsFaultIn v before line rest g
below_config v before line rest form said placed whole fault.Truncated lt h = h
below_config v before line rest form said placed whole fault.Version lt h = first_version v before line form said placed h.0 h.1
below_config v before line rest form said placed whole fault.Line lt h = h form said
below_config v before line rest form said placed whole fault.Order lt h =
    below_wire v before line rest form said placed fault.Order (omega arith) h
below_config v before line rest form said placed whole (fault.Wire f) lt h =
    none_not_some (wire_fault_in form) f whole (subst (λ (g : Form). wire_fault_in g ≡ Some f) (says_one line h.0 form h.1 said) h.2)
below_config v before line rest form said placed whole (fault.Config f) lt h = omega arith
below_config v before line rest form said placed whole (fault.Base u) lt h = omega arith
below_config v before line rest form said placed whole fault.Memory lt h = h

-- the only fault that the line may have belongs to a configuration, where the header ends there
pub but_config : (v : Version) (before : List (List ℕ)) (line : List ℕ) (rest : List (List ℕ)) (form : Form) → Says v line form → IsLinePlaced v before form → HasNoWireFault form → ((u : EntryFault) → ¬ HasUnfit v before line u) → (g : Fault) → number_of g ≢ 55 → ¬ IsFaultIn v before line rest g
but_config v before line rest form said placed whole fit (fault.Base u) other h = fit u h
but_config v before line rest form said placed whole fit (fault.Config f) other h = other refl
but_config v before line rest form said placed whole fit fault.Truncated other h = h
but_config v before line rest form said placed whole fit fault.Version other h =
    below_config v before line rest form said placed whole fault.Version (omega arith) h
but_config v before line rest form said placed whole fit fault.Line other h =
    below_config v before line rest form said placed whole fault.Line (omega arith) h
but_config v before line rest form said placed whole fit fault.Order other h =
    below_config v before line rest form said placed whole fault.Order (omega arith) h
but_config v before line rest form said placed whole fit (fault.Wire f) other h =
    below_config v before line rest form said placed whole (fault.Wire f) (omega arith) h
but_config v before line rest form said placed whole fit fault.Memory other h = h

-- no fault comes before that of a base
below_base : (v : Version) (before : List (List ℕ)) (line : List ℕ) (rest : List (List ℕ)) (form : Form) → Says v line form → IsLinePlaced v before form → HasNoWireFault form → ((c : ConfigFault) → ¬ HasConfigFault v (before ++ line ∷ []) rest c) → (g : Fault) → number_of g < 56 → ¬ IsFaultIn v before line rest g
below_base v before line rest form said placed whole clean (fault.Config f) lt h = clean f h
below_base v before line rest form said placed whole clean (fault.Base u) lt h = omega arith
below_base v before line rest form said placed whole clean fault.Truncated lt h = h
below_base v before line rest form said placed whole clean fault.Version lt h =
    below_config v before line rest form said placed whole fault.Version (omega arith) h
below_base v before line rest form said placed whole clean fault.Line lt h =
    below_config v before line rest form said placed whole fault.Line (omega arith) h
below_base v before line rest form said placed whole clean fault.Order lt h =
    below_config v before line rest form said placed whole fault.Order (omega arith) h
below_base v before line rest form said placed whole clean (fault.Wire f) lt h =
    below_config v before line rest form said placed whole (fault.Wire f) (omega arith) h
below_base v before line rest form said placed whole clean fault.Memory lt h = h

-- ---- the first fault

-- the first line says no version
pub version_fault : {text : List ℕ} {number : ℕ} {line : List ℕ} {rest : List (List ℕ)} → IsLineAt One text number [] line rest → IsNoVersion line → IsFirstFault text number fault.Version
version_fault {text} {number} {line} {rest} at none = record {
  has = has_line_fault at fault.Version (refl, none);
  lines = none_before text number (omega (arith, at.counted));
  faults = λ g lt h. below_version One [] line rest g lt (line_fault at g h);
}

module _ {v : Version} {text : List ℕ} {number : ℕ} {before : List (List ℕ)} {line : List ℕ} {rest : List (List ℕ)} (at : IsLineAt v text number before line rest) (right : AreRightBefore text number) where
  pub form_fault : before ≢ [] → ((form : Form) → ¬ Says v line form) → IsFirstFault text number fault.Line
  form_fault later none = record {
    has = has_line_fault at fault.Line none;
    lines = right;
    faults = λ g lt h. below_line v before line rest later g lt (line_fault at g h);
  }

  pub order_fault : before ≢ [] → (form : Form) → Says v line form → ¬ IsLinePlaced v before form → IsFirstFault text number fault.Order
  order_fault later form said other = record {
    has = has_line_fault at fault.Order (form, said, other);
    lines = right;
    faults = λ g lt h. below_order v before line rest later form said g lt (line_fault at g h);
  }

  pub wire_fault : (form : Form) (f : WireFault) → Says v line form → IsLinePlaced v before form → wire_fault_in form ≡ Some f → IsFirstFault text number (fault.Wire f)
  wire_fault form f said placed has = record {
    has = has_line_fault at (fault.Wire f) (form, said, has);
    lines = right;
    faults = λ g lt h. below_wire v before line rest form said placed g lt (line_fault at g h);
  }

  pub base_fault : (form : Form) (u : EntryFault) → Says v line form → IsLinePlaced v before form → HasNoWireFault form → ((c : ConfigFault) → ¬ HasConfigFault v (before ++ line ∷ []) rest c) → HasUnfit v before line u → IsFirstFault text number (fault.Base u)
  base_fault form u said placed whole clean has = record {
    has = has_line_fault at (fault.Base u) has;
    lines = right;
    faults = λ g lt h. below_base v before line rest form said placed whole clean g lt (line_fault at g h);
  }

below_end : (before : List (List ℕ)) (left : List ℕ) (g : Fault) → number_of g < 50 → ¬ IsFaultAt before (left ∷ []) g
below_end before left fault.Truncated lt h = omega arith
below_end before left fault.Version lt h = h
below_end before left fault.Line lt h = h
below_end before left fault.Order lt h = h
below_end before left (fault.Wire f) lt h = h
below_end before left (fault.Config f) lt h = h
below_end before left (fault.Base u) lt h = h
below_end before left fault.Memory lt h = h

-- a line without its line feed, or one of the first lines is missing
pub end_fault : (text : List ℕ) (number : ℕ) (before : List (List ℕ)) (left : List ℕ) → parts_of text ≡ before ++ left ∷ [] → number ≡ length before + 1 → AreRightBefore text number → (left ≢ []) ⊎ (length before < first_lines (version_of before)) → IsFirstFault text number fault.Truncated
end_fault text number before left parts counted right cut = record {
  has = record { before = before; here = left ∷ []; parts = parts; counted = counted; has = cut };
  lines = right;
  faults = λ g lt h. below_end before left g lt (fault_at text number before (left ∷ []) g parts counted h);
}

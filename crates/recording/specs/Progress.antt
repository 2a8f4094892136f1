-- How far a text was read as a recording.
use Rattle.std.specs.Prelude.{ℕ, ◌≡◌, ◌≢◌, ◌+◌, ◌++◌, ◌⊎◌, Bool, true, false, List, [], ◌∷◌, length, Some, None, All, map}
use Rattle.std.specs.List.{flat_map}
use Rattle.lsa_codec.specs.Decoding.{lsa_of}
use Rattle.lsa_codec.specs.Faults.{fault_of}
use Rattle.lsa_codec.specs.Spelling.{spelling}
use Rattle.ospf_types.specs.declared.config.AreaConfig.{AreaConfig}
use Rattle.ospf_types.specs.declared.config.Range.{Range}
use Rattle.event_state.specs.declared.base.Base.{Base}
use Rattle.recording.specs.declared.fault.Fault.{Fault}
use Rattle.recording.specs.declared.fault.Fault.TheVariants as fault
use Rattle.recording.specs.declared.header.Setting.{Setting}
use Rattle.recording.specs.declared.line.Line.{Line}
use Rattle.recording.specs.Faults.{parts_of, EndsHeader, HasFault, AreRightBefore, number_of}
use Rattle.recording.specs.Forms.{Form, Body, HasInterfaceLine, HasLsaLine, BodyLine, Says, AllSay}
use Rattle.recording.specs.declared.version.Version.{Version}
use Rattle.recording.specs.Places.{based, body_wire_fault, has_ended, is_of_base, is_next, is_next_area, is_next_range, unfit_at, version_of, wire_fault_in, with_form}
use Rattle.recording.specs.Recordings.{RecordingValue, CanSpell, HasKind, HasWholeLsa, AreLsasOfBytes, IsLineIn, IsConfigOrdered, IsRecording, IsLsaOfBytes, area_forms, form_of, forms_of, has_forms, header_forms}

-- Each of these says of a text that this many of its lines were taken, and that the parts in `rest`
-- are left.

-- The lines taken say this, and are a header as far as it goes. They have no fault, but that the
-- last may have that of a header which ends there.
pub record HasRead (v : Version) (text : List ℕ) (taken : ℕ) (rest : List (List ℕ)) (forms : List Form) : Type 0 where
  pub earlier : List (List ℕ)
  pub last : List ℕ
  pub parts : parts_of text ≡ (earlier ++ last ∷ []) ++ rest
  pub counted : taken ≡ length earlier + 1
  pub version : version_of (earlier ++ last ∷ []) ≡ v
  pub said : AllSay v (earlier ++ last ∷ []) forms
  pub right : AreRightBefore text taken
  pub others : (f : Fault) → number_of f ≢ 55 → ¬ HasFault text taken f

-- a base of which the header is read
pub record IsBare (b : Base) : Type 0 where
  pub interfaces : b.interfaces ≡ []
  pub lsas : b.lsas ≡ []

-- the base that the first lines and these areas say
abbrev pub headed_base : Setting → List AreaConfig → Base
headed_base setting areas = record {
  config = record { router = setting.router; compat = setting.compat; areas = areas };
  serial = setting.serial;
  interfaces = [];
  lsas = [];
}

-- the base with other areas
abbrev pub with_areas : Base → List AreaConfig → Base
with_areas b areas = record b { config = record b.config { areas = areas } }

-- the lines taken say the configuration and the serial of this base, which has no more yet
pub record HasHeader (v : Version) (text : List ℕ) (taken : ℕ) (rest : List (List ℕ)) (b : Base) : Type 0 where
  pub read : HasRead v text taken rest (header_forms v b)
  pub spelled : CanSpell v b
  pub bare : IsBare b
  pub ordered : IsConfigOrdered b.config.areas

-- what the lines after the first ones say
abbrev pub later_forms : RecordingValue → List Form
later_forms r = flat_map area_forms r.base.config.areas ++ (has_forms r.base ++ map form_of r.lines)

-- The lines taken are the whole header and lines after it, and say this recording. They have no
-- fault.
pub record HasLines (text : List ℕ) (taken : ℕ) (rest : List (List ℕ)) (r : RecordingValue) : Type 0 where
  pub before : List (List ℕ)
  pub parts : parts_of text ≡ before ++ rest
  pub counted : taken ≡ length before
  pub version : version_of before ≡ r.version
  pub said : AllSay r.version before (forms_of r)
  pub kept : IsRecording r
  pub held : AreLsasOfBytes r.base.lsas
  pub lsas : All HasWholeLsa r.lines
  pub ends : has_ended (later_forms r) ≡ false → EndsHeader r.version rest
  pub right : AreRightBefore text (taken + 1)

-- ---- a line of the header

-- the line may come next in the header of this base
abbrev pub IsNextIn : Base → Form → Type 0
IsNextIn b form = is_next_area b.config.areas form ≡ true

-- the base has the area or the range that the line adds, and nothing else changed in it
abbrev pub AddsToHeader : (old new : Base) → Form → Type 0
AddsToHeader old new form = new ≡ with_areas old (with_form old.config.areas form)

-- the area has the range after its others, and nothing else changed in it
abbrev pub AddsRange : (old new : AreaConfig) → Range → Type 0
AddsRange old new range = new ≡ record old { ranges = old.ranges ++ range ∷ [] }

-- memory ran out, or the range is none that may come after those of the last area
abbrev pub IsRangeRefusal : (last : AreaConfig) (area : ℕ) → Range → Fault → Type 0
IsRangeRefusal last area range f = (f ≡ fault.Memory) ⊎ ((f ≡ fault.Order) × (is_next_range (Some last) area range ≡ false))

-- a header does not take the form
abbrev pub IsRefusal : List AreaConfig → Form → Fault → Type 0
IsRefusal areas form fault.Truncated = ⊥
IsRefusal areas form fault.Version = ⊥
IsRefusal areas form fault.Line = ⊥
IsRefusal areas form fault.Order = is_next_area areas form ≡ false
IsRefusal areas form (fault.Wire f) = ⊥
IsRefusal areas form (fault.Config f) = ⊥
IsRefusal areas form (fault.Base u) = ⊥
IsRefusal areas form fault.Memory = Unit {0}

-- ---- a line of the base

-- the base, and what the line adds to it
abbrev pub with_has : Base → Form → Base
with_has b (HasInterfaceLine id interface) = record b { interfaces = b.interfaces ++ (id, interface) ∷ [] }
with_has b (HasLsaLine at bytes) = record b { lsas = b.lsas ++ (at, lsa_of bytes) ∷ [] }
with_has b _ = b

-- the bytes of the form belong to the LSA that is read from them
abbrev pub IsWholeForm : Form → Type 0
IsWholeForm (HasLsaLine at bytes) = IsLsaOfBytes (lsa_of bytes) × (spelling (lsa_of bytes) ≡ bytes)
IsWholeForm _ = Unit {0}

-- the base takes the form
pub record IsFormTaken (b : Base) (form : Form) : Type 0 where
  pub next : is_next (based b) form ≡ true
  pub readable : wire_fault_in form ≡ None
  pub whole : IsWholeForm form
  pub fit : unfit_at (based b) form ≡ None

-- if the line was added, the base takes it
abbrev pub IsTakenIf : (added : Bool) → Base → Form → Type 0
IsTakenIf added b form = added ≡ true → IsFormTaken b form

-- The base ends here: the next line has its line feed and is none of a base, or there is no next
-- line.
abbrev pub EndsBase : Version → List (List ℕ) → Type 0
EndsBase v (line ∷ next ∷ more) = (form : Form) → Says v line form → is_of_base form ≢ true
EndsBase v _ = Unit {0}

-- a base does not take the form: for its place, else for its bytes, else for what it says
abbrev pub IsFormRefusal : Base → Form → Fault → Type 0
IsFormRefusal b form fault.Truncated = ⊥
IsFormRefusal b form fault.Version = ⊥
IsFormRefusal b form fault.Line = ⊥
IsFormRefusal b form fault.Order = is_next (based b) form ≡ false
IsFormRefusal b form (fault.Wire f) = (is_next (based b) form ≡ true) × (wire_fault_in form ≡ Some f)
IsFormRefusal b form (fault.Config f) = ⊥
IsFormRefusal b form (fault.Base u) = (is_next (based b) form ≡ true) × (wire_fault_in form ≡ None) × (unfit_at (based b) form ≡ Some u)
IsFormRefusal b form fault.Memory = Unit {0}

-- ---- a line of what happened

-- the line has this fault where it comes after the base
abbrev pub IsFaultBehind : Version → List ℕ → Fault → Type 0
IsFaultBehind v line fault.Truncated = ⊥
IsFaultBehind v line fault.Version = ⊥
IsFaultBehind v line fault.Line = (form : Form) → ¬ Says v line form
IsFaultBehind v line fault.Order = (form : Form) × Says v line form × ((body : Body) → form ≢ BodyLine body)
IsFaultBehind v line (fault.Wire f) = (body : Body) × Says v line (BodyLine body) × (body_wire_fault body ≡ Some f)
IsFaultBehind v line (fault.Config f) = ⊥
IsFaultBehind v line (fault.Base u) = ⊥
IsFaultBehind v line fault.Memory = Unit {0}

-- the reason why bytes are not a valid LSA, or 30 Memory
abbrev pub IsFaultOfBytes : List ℕ → Fault → Type 0
IsFaultOfBytes bytes fault.Truncated = ⊥
IsFaultOfBytes bytes fault.Version = ⊥
IsFaultOfBytes bytes fault.Line = ⊥
IsFaultOfBytes bytes fault.Order = ⊥
IsFaultOfBytes bytes (fault.Wire f) = fault_of bytes ≡ Some f
IsFaultOfBytes bytes (fault.Config f) = ⊥
IsFaultOfBytes bytes (fault.Base u) = ⊥
IsFaultOfBytes bytes fault.Memory = Unit {0}

-- the line says that something happened
pub record IsLineOf (v : Version) (line : List ℕ) (l : Line) : Type 0 where
  pub said : Says v line (form_of l)
  pub kind : HasKind l
  pub own : IsLineIn v l
  pub whole : HasWholeLsa l

-- what the line says happened comes after what happened before
abbrev pub AddsLine : Version → (text : List ℕ) → (old new : List Line) → Type 0
AddsLine v text old new = (l : Line) × IsLineOf v text l × (new ≡ old ++ l ∷ [])

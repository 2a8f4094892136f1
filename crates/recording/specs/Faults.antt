-- The reason why bytes are not a recording: the first line that has a fault, and the first of its
-- faults in their order.
use Rattle.std.specs.Prelude.{ℕ, ◌≡◌, ◌≢◌, ◌<◌, ◌≤◌, ◌+◌, ◌==◌, ◌⊎◌, ◌++◌, List, [], ◌∷◌, length, Some, true, false}
use Rattle.std.specs.List.{slice_split}
use Rattle.event_state.specs.declared.base_fault.EntryFault.{EntryFault}
use Rattle.lsa_codec.specs.declared.fault.WireFault.{WireFault}
use Rattle.ospf_types.specs.Configs.{areas_fault_of}
use Rattle.ospf_types.specs.declared.fault.ConfigFault.{ConfigFault}
use Rattle.recording.specs.declared.fault.Fault.{Fault}
use Rattle.recording.specs.declared.fault.Fault.TheVariants as fault
use Rattle.recording.specs.declared.fault.LineFault.{LineFault}
use Rattle.recording.specs.declared.version.Version.{Version}
use Rattle.recording.specs.Forms.{Form, VersionLine, Says, line_text}
use Rattle.recording.specs.Places.{AreSaid, IsLinePlaced, areas_of, first_lines, front_of, has_ended, is_of_header, unfit_at, version_of, wire_fault_in}

-- The parts that line feeds end, and last what comes after the last line feed: a line without one,
-- or nothing.
abbrev pub parts_of : List ℕ → List (List ℕ)
parts_of bytes = slice_split (λ b. b == 10) bytes

-- The header ends here: the next line has its line feed and is none of the header, or there is no
-- next line.
abbrev pub EndsHeader : Version → List (List ℕ) → Type 0
EndsHeader v [] = ⊥
EndsHeader v (left ∷ []) = left ≡ []
EndsHeader v (line ∷ next ∷ more) = (form : Form) → Says v line form → is_of_header form ≢ true

-- the lines are a whole header, whose areas have this fault first
pub record HasConfigFault (v : Version) (lines after : List (List ℕ)) (f : ConfigFault) : Type 0 where
  pub forms : List Form
  pub header : AreSaid v lines forms
  pub alone : has_ended forms ≡ false
  pub ends : EndsHeader v after
  pub has : areas_fault_of (areas_of forms) ≡ Some f

-- the form of the line is not one that may come after these lines
abbrev pub IsMisplaced : Version → List (List ℕ) → List ℕ → Type 0
IsMisplaced v before line = (form : Form) × Says v line form × (¬ IsLinePlaced v before form)

-- the bytes of the line are not a valid LSA
abbrev pub HasWireFault : Version → List ℕ → WireFault → Type 0
HasWireFault v line f = (form : Form) × Says v line form × (wire_fault_in form ≡ Some f)

-- no event could have made the base that the lines and this one say
pub record HasUnfit (v : Version) (before : List (List ℕ)) (line : List ℕ) (u : EntryFault) : Type 0 where
  pub form : Form
  pub says : Says v line form
  pub forms : List Form
  pub said : AreSaid v before forms
  pub has : unfit_at (front_of forms) form ≡ Some u

-- the line is none that a recording of some version begins with
abbrev pub IsNoVersion : List ℕ → Type 0
IsNoVersion line = (version : Version) → line ≢ line_text (VersionLine version)

-- a line that has its line feed has this fault in a recording of the version, after these lines and
-- before those parts
abbrev pub IsFaultIn : Version → List (List ℕ) → List ℕ → List (List ℕ) → Fault → Type 0
IsFaultIn v before line after fault.Truncated = ⊥
IsFaultIn v before line after fault.Version = (before ≡ []) × IsNoVersion line
IsFaultIn v before line after fault.Line = (form : Form) → ¬ Says v line form
IsFaultIn v before line after fault.Order = IsMisplaced v before line
IsFaultIn v before line after (fault.Wire f) = HasWireFault v line f
IsFaultIn v before line after (fault.Config f) = HasConfigFault v (before ++ line ∷ []) after f
IsFaultIn v before line after (fault.Base u) = HasUnfit v before line u
IsFaultIn v before line after fault.Memory = ⊥

-- the version is given by the first line, which may be this one
abbrev pub IsFaultOfLine : List (List ℕ) → List ℕ → List (List ℕ) → Fault → Type 0
IsFaultOfLine before line after f = IsFaultIn (version_of (before ++ line ∷ [])) before line after f

-- there is a line without a line feed after these lines, or one of the first lines is missing
abbrev pub IsFaultOfEnd : List (List ℕ) → List ℕ → Fault → Type 0
IsFaultOfEnd before left fault.Truncated = (left ≢ []) ⊎ (length before < first_lines (version_of before))
IsFaultOfEnd before left _ = ⊥

-- the first of the parts that are left has this fault
abbrev pub IsFaultAt : List (List ℕ) → List (List ℕ) → Fault → Type 0
IsFaultAt before [] f = ⊥
IsFaultAt before (left ∷ []) f = IsFaultOfEnd before left f
IsFaultAt before (line ∷ next ∷ more) f = IsFaultOfLine before line (next ∷ more) f

-- the line of this number, counted from 1, has this fault
pub record HasFault (bytes : List ℕ) (number : ℕ) (f : Fault) : Type 0 where
  pub before : List (List ℕ)
  pub here : List (List ℕ)
  pub parts : parts_of bytes ≡ before ++ here
  pub counted : number ≡ length before + 1
  pub has : IsFaultAt before here f

-- the order of the faults of one line
abbrev pub number_of : Fault → ℕ
number_of fault.Truncated = 50
number_of fault.Version = 51
number_of fault.Line = 52
number_of fault.Order = 53
number_of (fault.Wire f) = 54
number_of (fault.Config f) = 55
number_of (fault.Base u) = 56
number_of fault.Memory = 30

-- no line before this one has a fault
abbrev pub AreRightBefore : List ℕ → ℕ → Type 0
AreRightBefore bytes number = (n : ℕ) (f : Fault) → n < number → ¬ HasFault bytes n f

-- the text has a line of this number, with its line feed
pub record HasLine (bytes : List ℕ) (number : ℕ) : Type 0 where
  pub first : 1 ≤ number
  pub last : number < length (parts_of bytes)

-- memory ran out at this line of the text, and no line before it has a fault
pub record IsMemoryAt (bytes : List ℕ) (number : ℕ) : Type 0 where
  pub there : HasLine bytes number
  pub lines : AreRightBefore bytes number

-- the line has this fault, and no fault comes before it
pub record IsFirstFault (bytes : List ℕ) (number : ℕ) (f : Fault) : Type 0 where
  pub has : HasFault bytes number f
  pub lines : AreRightBefore bytes number
  pub faults : (g : Fault) → number_of g < number_of f → ¬ HasFault bytes number g

-- memory may run out at any line that is read, and every other fault is the first
abbrev pub IsFaultOf : List ℕ → LineFault → Type 0
IsFaultOf bytes l = ((l.fault ≡ fault.Memory) × IsMemoryAt bytes l.line) ⊎ IsFirstFault bytes l.line l.fault

-- A recording, and its one text.
use Rattle.std.specs.Prelude.{ℕ, ◌≡◌, ◌≢◌, ◌++◌, Bool, false, List, [], ◌∷◌, map, None, All, Result, MatchResult, String, string_bytes}
use Rattle.std.specs.List.{flat_map}
use Rattle.std.specs.List.Sorted.{IsStrictlySortedBy}
use Rattle.std.specs.Ordering.{nat_cmp}
use Rattle.ospf_types.specs.declared.config.AreaConfig.{AreaConfig}
use Rattle.ospf_types.specs.declared.config.Interface.{Interface}
use Rattle.ospf_types.specs.declared.config.Range.{Range}
use Rattle.ospf_types.specs.declared.key.Scope.{Scope}
use Rattle.ospf_types.specs.declared.prefix.Prefix.{Prefix}
use Rattle.ospf_types.specs.Lsa.{Lsa}
use Rattle.ospf_types.specs.Network.{network_cmp}
use Rattle.lsa_codec.specs.Checksum.{IsSound}
use Rattle.lsa_codec.specs.Spelling.{Spells, spelling}
use Rattle.event_state.specs.declared.event.Event.{Event}
use Rattle.event_state.specs.declared.event.Event.TheVariants as event
use Rattle.event_state.specs.declared.base.Base.{Base}
use Rattle.event_state.specs.BaseFaults.{base_fault_of}
use Rattle.event_state.specs.Bases.{HasConfigOnly}
use Rattle.event_state.specs.Steps.{standard_limits}
use Rattle.recording.specs.declared.fault.Fault.TheVariants as fault
use Rattle.recording.specs.declared.fault.LineFault.{LineFault}
use Rattle.recording.specs.declared.line.Line.{Line}
use Rattle.recording.specs.declared.line.Line.TheVariants as line
use Rattle.recording.specs.declared.version.Version.{Version}
use Rattle.recording.specs.declared.version.Version.TheVariants.{One, Two, Three}
use Rattle.recording.specs.Forms.{Form, Body, VersionLine, RouterLine, CompatLine, SerialLine, AreaLine, RangeLine, HasInterfaceLine, HasLsaLine, BodyLine, InterfaceLine, InstallLine, FlushLine, PurgeLine, RangeSetLine, RangeDropLine, SecondLine, LookupLine, RollLine, IsForm, IsKind, line_text}
use Rattle.recording.specs.Places.{lsa_place, place_cmp}

pub record RecordingValue : Type 0 where
  pub version : Version
  pub base : Base
  pub lines : List Line

-- the recording of a base and of what happened then
abbrev pub recording_of : Version → Base → List Line → RecordingValue
recording_of v b lines = record { version = v; base = b; lines = lines }

-- ---- the text

-- what a line of an interface that comes or changes says
abbrev pub interface_line : (id : ℕ) (interface : Interface) → Body
interface_line id i = InterfaceLine id i.area i.address i.peer i.up

-- a range of an area is set
abbrev pub range_set_line : (area : ℕ) (prefix : Prefix) (advertise : Bool) → Body
range_set_line area prefix advertise = RangeSetLine area (record { prefix = prefix; advertise = advertise })

abbrev pub event_body : Event → Body
event_body (event.Install at lsa) = InstallLine at (spelling lsa)
event_body (event.Flush at key) = FlushLine at key
event_body (event.Purge at key) = PurgeLine at key
event_body (event.Interface id area address peer up) = InterfaceLine id area address peer up
event_body (event.RangeSet area prefix advertise) = range_set_line area prefix advertise
event_body (event.RangeDrop area prefix) = RangeDropLine area prefix
event_body event.Second = SecondLine

abbrev pub body_of : Line → Body
body_of (line.Event e) = event_body e
body_of (line.Lookup address) = LookupLine address
body_of line.Roll = RollLine

abbrev pub event_form : Event → Form
event_form e = BodyLine (event_body e)

abbrev pub form_of : Line → Form
form_of l = BodyLine (body_of l)

-- an area, and after it its ranges
abbrev pub area_forms : AreaConfig → List Form
area_forms a = AreaLine a.id a.stub ∷ map (λ (range : Range). RangeLine a.id range) a.ranges

-- From version 2 on the third line says whether RFC1583Compatibility is enabled, and in version 3
-- the fourth says the serial of the base.
abbrev pub setting_forms : Version → Bool → ℕ → List Form
setting_forms One compat serial = []
setting_forms Two compat serial = CompatLine compat ∷ []
setting_forms Three compat serial = CompatLine compat ∷ SerialLine serial ∷ []

-- the first lines in version 1
abbrev pub first_of_one : (router : ℕ) → List Form
first_of_one router = VersionLine One ∷ RouterLine router ∷ []

-- the first lines in version 2
abbrev pub first_of_two : (router : ℕ) (compat : Bool) → List Form
first_of_two router compat = VersionLine Two ∷ RouterLine router ∷ CompatLine compat ∷ []

-- the first lines in version 3
abbrev pub first_of_three : (router : ℕ) (compat : Bool) (serial : ℕ) → List Form
first_of_three router compat serial = VersionLine Three ∷ RouterLine router ∷ CompatLine compat ∷ SerialLine serial ∷ []

abbrev pub first_forms : Version → Base → List Form
first_forms v b = VersionLine v ∷ RouterLine b.config.router ∷ setting_forms v b.config.compat b.serial

abbrev pub header_forms : Version → Base → List Form
header_forms v b = first_forms v b ++ flat_map area_forms b.config.areas

abbrev pub interface_form : ℕ × Interface → Form
interface_form x = HasInterfaceLine x.0 x.1

abbrev pub lsa_form : Scope × Lsa → Form
lsa_form x = HasLsaLine x.0 (spelling x.1)

-- what there is before anything happens
abbrev pub has_forms : Base → List Form
has_forms b = map interface_form b.interfaces ++ map lsa_form b.lsas

-- the whole base
abbrev pub front_forms : Version → Base → List Form
front_forms v b = header_forms v b ++ has_forms b

abbrev pub forms_of : RecordingValue → List Form
forms_of r = front_forms r.version r.base ++ map form_of r.lines

-- the lines, each with its line feed
abbrev pub ended : Form → List ℕ
ended form = line_text form ++ 10 ∷ []

abbrev pub text_of_forms : List Form → List ℕ
text_of_forms forms = flat_map ended forms

-- the text is as before, and the lines after it
abbrev pub GainsLines : {Z : Type 0} → (old new : String Z) → List Form → Type 0
GainsLines {Z} old new forms = string_bytes new ≡ string_bytes old ++ text_of_forms forms

-- the text is as before, and the line after it
abbrev pub GainsLine : {Z : Type 0} → (old new : String Z) → Form → Type 0
GainsLine {Z} old new form = string_bytes new ≡ string_bytes old ++ ended form

-- the text is as before, and the line of what happened after it
abbrev pub GainsBody : {Z : Type 0} → (old new : String Z) → Body → Type 0
GainsBody {Z} old new body = GainsLine old new (BodyLine body)

abbrev pub text_of : RecordingValue → List ℕ
text_of r = text_of_forms (forms_of r)

-- ---- what has a text

-- the ranges of an area ascend by address and then length
abbrev pub AreByNetworks : List Range → Type 0
AreByNetworks ranges = IsStrictlySortedBy network_cmp (map (λ (range : Range). range.prefix) ranges)

-- areas ascend by Area ID, and the ranges of each by address and then length
pub record IsConfigOrdered (areas : List AreaConfig) : Type 0 where
  pub ascending : IsStrictlySortedBy nat_cmp (map (λ a. a.id) areas)
  pub ranges : All (λ a. AreByNetworks a.ranges) areas

-- the LS type in a key is one of the five
abbrev pub HasKind : Line → Type 0
HasKind (line.Event (event.Install at lsa)) = Unit {0}
HasKind (line.Event (event.Flush at key)) = IsKind key.kind
HasKind (line.Event (event.Purge at key)) = IsKind key.kind
HasKind (line.Event (event.Interface id area address peer up)) = Unit {0}
HasKind (line.Event (event.RangeSet area prefix advertise)) = Unit {0}
HasKind (line.Event (event.RangeDrop area prefix)) = Unit {0}
HasKind (line.Event event.Second) = Unit {0}
HasKind (line.Lookup address) = Unit {0}
HasKind line.Roll = Unit {0}

-- the interfaces of a base ascend by their ids
abbrev pub AreByIds : List (ℕ × Interface) → Type 0
AreByIds interfaces = IsStrictlySortedBy nat_cmp (map (λ x. x.0) interfaces)

-- its LSAs ascend by scope, areas before the AS, and then by LS type, Link State ID and Advertising
-- Router
abbrev pub AreByPlaces : List (Scope × Lsa) → Type 0
AreByPlaces lsas = IsStrictlySortedBy place_cmp (map lsa_place lsas)

-- all parts of a base are in the order of their lines
pub record IsBaseOrdered (b : Base) : Type 0 where
  pub areas : IsConfigOrdered b.config.areas
  pub interfaces : AreByIds b.interfaces
  pub lsas : AreByPlaces b.lsas

-- The version has lines for all of the base. In version 1 RFC1583Compatibility is disabled, and
-- only version 3 says a serial, interfaces and LSAs.
pub record CanSpell (v : Version) (b : Base) : Type 0 where
  pub compat : v ≡ One → b.config.compat ≡ false
  pub serial : v ≢ Three → b.serial ≡ 0
  pub interfaces : v ≢ Three → b.interfaces ≡ []
  pub lsas : v ≢ Three → b.lsas ≡ []

-- the version has such an event: only version 3 has ranges that change
abbrev pub IsEventIn : Version → Event → Type 0
IsEventIn v (event.RangeSet area prefix advertise) = v ≡ Three
IsEventIn v (event.RangeDrop area prefix) = v ≡ Three
IsEventIn v _ = Unit {0}

-- the version has such a line: only version 3 has a roll too
abbrev pub IsLineIn : Version → Line → Type 0
IsLineIn v (line.Event e) = IsEventIn v e
IsLineIn v (line.Lookup address) = Unit {0}
IsLineIn v line.Roll = v ≡ Three

-- a base without a fault, in order, and lines that have a form, all of which the version can spell
pub record IsRecording (r : RecordingValue) : Type 0 where
  pub spelled : CanSpell r.version r.base
  pub sound : base_fault_of standard_limits r.base ≡ None
  pub ordered : IsBaseOrdered r.base
  pub kinds : All HasKind r.lines
  pub lines : All (IsLineIn r.version) r.lines

-- an LSA that is read from its bytes
pub record IsLsaOfBytes (lsa : Lsa) : Type 0 where
  pub sound : IsSound (spelling lsa)
  pub spelled : Spells (spelling lsa) lsa

abbrev pub HasWholeLsa : Line → Type 0
HasWholeLsa (line.Event (event.Install at lsa)) = IsLsaOfBytes lsa
HasWholeLsa (line.Event (event.Flush at key)) = Unit {0}
HasWholeLsa (line.Event (event.Purge at key)) = Unit {0}
HasWholeLsa (line.Event (event.Interface id area address peer up)) = Unit {0}
HasWholeLsa (line.Event (event.RangeSet area prefix advertise)) = Unit {0}
HasWholeLsa (line.Event (event.RangeDrop area prefix)) = Unit {0}
HasWholeLsa (line.Event event.Second) = Unit {0}
HasWholeLsa (line.Lookup address) = Unit {0}
HasWholeLsa line.Roll = Unit {0}

-- each LSA of a base is read from its bytes
abbrev pub AreLsasOfBytes : List (Scope × Lsa) → Type 0
AreLsasOfBytes lsas = All (λ x. IsLsaOfBytes x.1) lsas

-- The bytes are the text of the recording. It has one, and no other recording has it.
pub record IsText (bytes : List ℕ) (r : RecordingValue) : Type 0 where
  pub spelled : bytes ≡ text_of r
  pub forms : All IsForm (forms_of r)
  pub held : AreLsasOfBytes r.base.lsas
  pub lsas : All HasWholeLsa r.lines
  pub kept : IsRecording r

-- the result is this recording, or the error that memory ran out
abbrev pub IsReadAs : RecordingValue → Result RecordingValue LineFault → Type 0
IsReadAs r read = MatchResult read (λ found. found ≡ r) (λ e. e.fault ≡ fault.Memory)

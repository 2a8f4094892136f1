-- The lines of a recording: their words, and the one space between each two.
use Rattle.std.specs.Prelude.{ℕ, ◌≡◌, ◌≢◌, ◌<◌, ◌≤◌, ◌^◌, Bool, cond, List, [], ◌∷◌, Option, Some, None, All, codes, decimal}
use Rattle.std.specs.List.{join_with_byte}
use Rattle.hex.specs.Hex.{encode_lower}
use Rattle.ospf_types.specs.declared.config.Interface.{Interface}
use Rattle.ospf_types.specs.declared.config.Range.{Range}
use Rattle.ospf_types.specs.declared.config.Stub.{Stub}
use Rattle.ospf_types.specs.declared.key.Key.{Key}
use Rattle.ospf_types.specs.declared.key.Scope.{Scope}
use Rattle.ospf_types.specs.declared.key.Scope.TheVariants as scope
use Rattle.ospf_types.specs.declared.prefix.Prefix.{Prefix}
use Rattle.ospf_types.specs.Masks.{masked}
use Rattle.ospf_types.specs.Text.{address_text, prefix_text}
use Rattle.recording.specs.declared.version.Version.{Version}
use Rattle.recording.specs.declared.version.Version.TheVariants.{One, Two, Three}

-- what a line of what happened says: an event, an address that is looked up, or that the journal is
-- rolled
pub data Body : Type 0 where
  InterfaceLine : (id area address peer : ℕ) (up : Bool) → Body
  InstallLine : (at : Scope) (bytes : List ℕ) → Body
  FlushLine : (at : Scope) (key : Key) → Body
  PurgeLine : (at : Scope) (key : Key) → Body
  RangeSetLine : (area : ℕ) (range : Range) → Body
  RangeDropLine : (area : ℕ) (prefix : Prefix) → Body
  SecondLine : Body
  LookupLine : (address : ℕ) → Body
  RollLine : Body

-- the meaning of a line, by where it may be: one of the first lines, one of the header, one of the
-- base after it, or one of what happened
pub data Form : Type 0 where
  VersionLine : (version : Version) → Form
  RouterLine : (router : ℕ) → Form
  CompatLine : (compat : Bool) → Form
  SerialLine : (serial : ℕ) → Form
  AreaLine : (id : ℕ) (stub : Option Stub) → Form
  RangeLine : (area : ℕ) (range : Range) → Form
  HasInterfaceLine : (id : ℕ) (interface : Interface) → Form
  HasLsaLine : (at : Scope) (bytes : List ℕ) → Form
  BodyLine : (body : Body) → Form

-- ---- words

abbrev pub version_word : Version → List ℕ
version_word One = codes "1"
version_word Two = codes "2"
version_word Three = codes "3"

-- the Area ID, or `as` for the database of AS-external-LSAs
abbrev pub scope_text : Scope → List ℕ
scope_text (scope.Area id) = address_text id
scope_text scope.As = codes "as"

-- whether an area is a stub area, with its default cost, and which summaries it is sent
abbrev pub stub_words : Option Stub → List (List ℕ)
stub_words None = codes "normal" ∷ []
stub_words (Some stub) = codes "stub" ∷ decimal stub.cost ∷ cond stub.summaries (codes "all") (codes "default") ∷ []

-- LS type, Link State ID and Advertising Router
abbrev pub key_words : Key → List (List ℕ)
key_words key = decimal key.kind ∷ address_text key.id ∷ address_text key.router ∷ []

-- the id, the Area ID, the address, that of the neighbour, and the state
abbrev pub interface_words : (id : ℕ) (interface : Interface) → List (List ℕ)
interface_words id i = decimal id ∷ address_text i.area ∷ address_text i.address ∷ address_text i.peer ∷ cond i.up (codes "up") (codes "down") ∷ []

-- the database, and the bytes of an LSA
abbrev pub lsa_words : (at : Scope) (bytes : List ℕ) → List (List ℕ)
lsa_words at bytes = scope_text at ∷ encode_lower bytes ∷ []

-- the Area ID, the network, and whether the range is advertised
abbrev pub range_words : (area : ℕ) (range : Range) → List (List ℕ)
range_words area range = address_text area ∷ prefix_text range.prefix ∷ cond range.advertise (codes "advertise") (codes "hide") ∷ []

abbrev pub body_words : Body → List (List ℕ)
body_words (InterfaceLine id area address peer up) =
    codes "interface" ∷ interface_words id (record { area = area; address = address; peer = peer; up = up })
body_words (InstallLine at bytes) = codes "install" ∷ lsa_words at bytes
body_words (FlushLine at key) = codes "flush" ∷ scope_text at ∷ key_words key
body_words (PurgeLine at key) = codes "purge" ∷ scope_text at ∷ key_words key
body_words (RangeSetLine area range) = codes "range-set" ∷ range_words area range
body_words (RangeDropLine area prefix) = codes "range-drop" ∷ address_text area ∷ prefix_text prefix ∷ []
body_words SecondLine = codes "second" ∷ []
body_words (LookupLine address) = codes "lookup" ∷ address_text address ∷ []
body_words RollLine = codes "roll" ∷ []

abbrev pub words_of : Form → List (List ℕ)
words_of (VersionLine version) = codes "abr" ∷ version_word version ∷ []
words_of (RouterLine router) = codes "router" ∷ address_text router ∷ []
words_of (CompatLine compat) = codes "compat" ∷ cond compat (codes "enabled") (codes "disabled") ∷ []
words_of (SerialLine serial) = codes "serial" ∷ decimal serial ∷ []
words_of (AreaLine id stub) = codes "area" ∷ address_text id ∷ stub_words stub
words_of (RangeLine area range) = codes "range" ∷ range_words area range
words_of (HasInterfaceLine id interface) = codes "has" ∷ codes "interface" ∷ interface_words id interface
words_of (HasLsaLine at bytes) = codes "has" ∷ codes "lsa" ∷ lsa_words at bytes
words_of (BodyLine body) = body_words body

-- without its line feed
abbrev pub line_text : Form → List ℕ
line_text form = join_with_byte 32 (words_of form)

-- ---- the numbers that have a spelling

-- an address, a Router ID or an Area ID
abbrev pub IsAddress : ℕ → Type 0
IsAddress address = address < 2 ^ 32

abbrev pub IsScope : Scope → Type 0
IsScope (scope.Area id) = IsAddress id
IsScope scope.As = Unit {0}

-- an LS type of version 2 (RFC 2328, A.4.1)
abbrev pub IsKind : ℕ → Type 0
IsKind kind = (1 ≤ kind) × (kind ≤ 5)

pub record IsKey (key : Key) : Type 0 where
  pub kind : IsKind key.kind
  pub id : IsAddress key.id
  pub router : IsAddress key.router

-- the bits past the length are zero
pub record IsPrefix (prefix : Prefix) : Type 0 where
  pub address : IsAddress prefix.address
  pub length : prefix.length ≤ 32
  pub masked : masked prefix.address prefix.length ≡ prefix.address

abbrev pub IsStub : Option Stub → Type 0
IsStub None = Unit {0}
IsStub (Some stub) = stub.cost < 2 ^ 32

abbrev pub IsSerial : ℕ → Type 0
IsSerial serial = serial < 2 ^ 64

abbrev pub IsInterface : (id area address peer : ℕ) → Type 0
IsInterface id area address peer = (id < 2 ^ 8) × IsAddress area × IsAddress address × IsAddress peer

abbrev pub AreBytes : List ℕ → Type 0
AreBytes bytes = All (λ b. b < 2 ^ 8) bytes

abbrev pub IsBody : Body → Type 0
IsBody (InterfaceLine id area address peer up) = IsInterface id area address peer
IsBody (InstallLine at bytes) = IsScope at × AreBytes bytes
IsBody (FlushLine at key) = IsScope at × IsKey key
IsBody (PurgeLine at key) = IsScope at × IsKey key
IsBody (RangeSetLine area range) = IsAddress area × IsPrefix range.prefix
IsBody (RangeDropLine area prefix) = IsAddress area × IsPrefix prefix
IsBody SecondLine = Unit {0}
IsBody (LookupLine address) = IsAddress address
IsBody RollLine = Unit {0}

abbrev pub IsForm : Form → Type 0
IsForm (VersionLine version) = Unit {0}
IsForm (RouterLine router) = IsAddress router
IsForm (CompatLine compat) = Unit {0}
IsForm (SerialLine serial) = IsSerial serial
IsForm (AreaLine id stub) = IsAddress id × IsStub stub
IsForm (RangeLine area range) = IsAddress area × IsPrefix range.prefix
IsForm (HasInterfaceLine id i) = IsInterface id i.area i.address i.peer
IsForm (HasLsaLine at bytes) = IsScope at × AreBytes bytes
IsForm (BodyLine body) = IsBody body

-- ranges change and the journal is rolled only in version 3
abbrev pub IsBodyOfVersion : Version → Body → Type 0
IsBodyOfVersion v (RangeSetLine area range) = v ≡ Three
IsBodyOfVersion v (RangeDropLine area prefix) = v ≡ Three
IsBodyOfVersion v RollLine = v ≡ Three
IsBodyOfVersion v _ = Unit {0}

-- the form is one of this version: its own first line, from version 2 on a `compat` line, and in
-- version 3 the serial, the lines of the base, ranges that change, and rolls
abbrev pub IsOfVersion : Version → Form → Type 0
IsOfVersion v (VersionLine version) = version ≡ v
IsOfVersion v (CompatLine compat) = v ≢ One
IsOfVersion v (SerialLine serial) = v ≡ Three
IsOfVersion v (HasInterfaceLine id interface) = v ≡ Three
IsOfVersion v (HasLsaLine at bytes) = v ≡ Three
IsOfVersion v (BodyLine body) = IsBodyOfVersion v body
IsOfVersion v _ = Unit {0}

-- the line of a recording of this version says this
pub record Says (v : Version) (line : List ℕ) (form : Form) : Type 0 where
  pub spelled : line ≡ line_text form
  pub legal : IsForm form
  pub of_version : IsOfVersion v form

-- each of the lines says its form
abbrev pub AllSay : Version → List (List ℕ) → List Form → Type 0
AllSay v [] [] = Unit {0}
AllSay v (line ∷ lines) (form ∷ forms) = Says v line form × AllSay v lines forms
AllSay v [] (form ∷ forms) = ⊥
AllSay v (line ∷ lines) [] = ⊥

-- The places of lines in a recording.
use Rattle.std.specs.Prelude.{ℕ, ◌≡◌, ◌≤◌, ◌-◌, ◌==◌, ◌&&◌, ◌||◌, ◌++◌, Bool, true, false, not, nat_lt, nat_le, List, [], ◌∷◌, length, drop, slice_get, Option, Some, None, MatchOption, is_some, is_none, codes, cond}
use Rattle.std.specs.List.{flat_map, list_any}
use Rattle.std.specs.Ordering.{ordering_then}
use Rattle.std.specs.Str.{bytes_eq}
use Rattle.std.specs.declared.cmp.Ordering.{Ordering}
use Rattle.std.specs.declared.cmp.Ordering.TheVariants.{Less, Equal, Greater}
use Rattle.ospf_types.specs.declared.config.AreaConfig.{AreaConfig}
use Rattle.ospf_types.specs.declared.config.Interface.{Interface}
use Rattle.ospf_types.specs.declared.config.Range.{Range}
use Rattle.ospf_types.specs.declared.key.Key.{Key}
use Rattle.ospf_types.specs.declared.key.Scope.{Scope}
use Rattle.ospf_types.specs.declared.key.Scope.TheVariants as scope
use Rattle.ospf_types.specs.FirstOf.{first_of}
use Rattle.ospf_types.specs.Keys.{key_cmp, scope_cmp}
use Rattle.ospf_types.specs.Lsa.{Lsa, key_of}
use Rattle.ospf_types.specs.Network.{network_cmp}
use Rattle.lsa_codec.specs.Decoding.{lsa_of}
use Rattle.lsa_codec.specs.Faults.{fault_of}
use Rattle.lsa_codec.specs.declared.fault.WireFault.{WireFault}
use Rattle.event_state.specs.declared.base.Base.{Base}
use Rattle.event_state.specs.declared.base_fault.EntryFault.{EntryFault}
use Rattle.event_state.specs.declared.base_fault.EntryFault.TheVariants as unfit
use Rattle.event_state.specs.declared.limits.Limits.{Limits}
use Rattle.event_state.specs.Bases.{lsas_under}
use Rattle.event_state.specs.States.{place_of}
use Rattle.event_state.specs.Steps.{is_out_of_scope, standard_limits}
use Rattle.recording.specs.Forms.{Form, Body, VersionLine, RouterLine, CompatLine, SerialLine, AreaLine, RangeLine, HasInterfaceLine, HasLsaLine, BodyLine, InstallLine, AllSay}
use Rattle.recording.specs.declared.version.Version.{Version}
use Rattle.recording.specs.declared.version.Version.TheVariants.{One, Two, Three}

-- an `area` or a `range` line, of which the header is made after the first lines
abbrev pub is_of_header : Form → Bool
is_of_header (AreaLine id stub) = true
is_of_header (RangeLine area range) = true
is_of_header _ = false

-- ---- the areas that lines of the header say

-- the last area has this range too
abbrev pub with_range : List AreaConfig → Range → List AreaConfig
with_range [] range = []
with_range (a ∷ []) range = record a { ranges = a.ranges ++ range ∷ [] } ∷ []
with_range (a ∷ b ∷ areas) range = a ∷ with_range (b ∷ areas) range

abbrev pub with_form : List AreaConfig → Form → List AreaConfig
with_form areas (AreaLine id stub) = areas ++ record { id = id; stub = stub; ranges = [] } ∷ []
with_form areas (RangeLine area range) = with_range areas range
with_form areas _ = areas

abbrev pub areas_from : List AreaConfig → List Form → List AreaConfig
areas_from areas [] = areas
areas_from areas (form ∷ forms) = areas_from (with_form areas form) forms

abbrev pub areas_of : List Form → List AreaConfig
areas_of forms = areas_from [] forms

-- one of the lines is none of the header
abbrev pub has_ended : List Form → Bool
has_ended [] = false
has_ended (form ∷ forms) = not (is_of_header form) || has_ended forms

-- ---- the base that the lines after the header say

-- a line of the base: an interface or an LSA that is there before anything happens
abbrev pub is_of_base : Form → Bool
is_of_base (HasInterfaceLine id interface) = true
is_of_base (HasLsaLine at bytes) = true
is_of_base _ = false

abbrev pub interfaces_in : Form → List (ℕ × Interface)
interfaces_in (HasInterfaceLine id interface) = (id, interface) ∷ []
interfaces_in _ = []

abbrev pub lsas_in : Form → List (Scope × Lsa)
lsas_in (HasLsaLine at bytes) = (at, lsa_of bytes) ∷ []
lsas_in _ = []

-- a line of what happened
abbrev pub is_of_body : Form → Bool
is_of_body (BodyLine body) = true
is_of_body _ = false

-- a line of the front: one of the first lines, of the header, or of the base
abbrev pub is_preamble_line : Form → Bool
is_preamble_line form = not (is_of_body form)

-- the words that the lines of the front begin with
abbrev pub front_words : List (List ℕ)
front_words = codes "abr" ∷ codes "router" ∷ codes "compat" ∷ codes "serial" ∷ codes "area" ∷ codes "range" ∷ codes "has" ∷ []

abbrev pub is_front_word : List ℕ → Bool
is_front_word word = list_any (bytes_eq word) front_words

-- ---- the order of areas and ranges

abbrev pub is_less : Ordering → Bool
is_less Less = true
is_less Equal = false
is_less Greater = false

abbrev pub last_of : {X : Type 0} → List X → Option X
last_of xs = slice_get xs (length xs - 1)

-- the Area ID is greater than that of the last area
abbrev pub is_past_area : Option AreaConfig → ℕ → Bool
is_past_area None id = true
is_past_area (Some a) id = nat_lt a.id id

-- the network is greater than that of the last range: by address, then by length
abbrev pub is_past_range : Option Range → Range → Bool
is_past_range None range = true
is_past_range (Some last) range = is_less (network_cmp last.prefix range.prefix)

-- the range is of the last area, and past its other ranges
abbrev pub is_next_range : Option AreaConfig → ℕ → Range → Bool
is_next_range None area range = false
is_next_range (Some a) area range = (a.id == area) && is_past_range (last_of a.ranges) range

-- the line says an area after these, or a range after those of the last one
abbrev pub is_next_area : List AreaConfig → Form → Bool
is_next_area areas (AreaLine id stub) = is_past_area (last_of areas) id
is_next_area areas (RangeLine area range) = is_next_range (last_of areas) area range
is_next_area areas _ = false

-- ---- the order of interfaces and LSAs

-- the id is greater than that of the last interface
abbrev pub is_past_id : Option (ℕ × Interface) → ℕ → Bool
is_past_id None id = true
is_past_id (Some last) id = nat_lt last.0 id

-- an interface of this id may come after these: no LSA does, and no interface has the id or a
-- greater one
abbrev pub is_next_interface : List (Scope × Lsa) → List (ℕ × Interface) → ℕ → Bool
is_next_interface lsas interfaces id = is_none (last_of lsas) && is_past_id (last_of interfaces) id

-- the order of an LSA: by its scope, and then by its key
abbrev pub place_cmp : Scope × Key → Scope × Key → Ordering
place_cmp p q = ordering_then (scope_cmp p.0 q.0) (key_cmp p.1 q.1)

abbrev pub lsa_place : Scope × Lsa → Scope × Key
lsa_place x = (x.0, key_of x.1)

-- the scope is not less than that of the last LSA
abbrev pub is_past_scope : Option (Scope × Lsa) → Scope → Bool
is_past_scope None at = true
is_past_scope (Some last) at = not (is_less (scope_cmp at last.0))

-- how many LSAs of the scope there are, or `None` if the scope is less than that of the last one
abbrev pub IsRowUnder : List (Scope × Lsa) → Scope → Option ℕ → Type 0
IsRowUnder lsas at found =
    MatchOption found (is_past_scope (last_of lsas) at ≡ false) (λ row. (is_past_scope (last_of lsas) at ≡ true) × (row ≡ length (lsas_under lsas at)))

-- the place is greater than that of the last LSA
abbrev pub is_past_place : Option (Scope × Lsa) → Scope × Key → Bool
is_past_place None place = true
is_past_place (Some last) place = is_less (place_cmp (lsa_place last) place)

-- The scope decides before the bytes are read, and the key if they belong to an LSA.
abbrev pub is_past_lsa : Option (Scope × Lsa) → Scope → List ℕ → Bool
is_past_lsa last at bytes = is_past_scope last at && (is_some (fault_of bytes) || is_past_place last (lsa_place (at, lsa_of bytes)))

-- ---- places

-- the version that the first line says; version 1 if it says none
abbrev pub version_of : List (List ℕ) → Version
version_of [] = One
version_of (line ∷ lines) = cond (bytes_eq line (codes "abr 3")) Three (cond (bytes_eq line (codes "abr 2")) Two One)

-- This many lines come first, each in its place: `abr` and `router`, from version 2 on `compat`,
-- and in version 3 `serial`.
abbrev pub first_lines : Version → ℕ
first_lines One = 2
first_lines Two = 3
first_lines Three = 4

-- what the lines after the first ones say so far
pub record LinesSoFar : Type 0 where
  pub areas : List AreaConfig
  pub interfaces : List (ℕ × Interface)
  pub lsas : List (Scope × Lsa)
  pub ended : Bool  -- one of them does not belong to the header
  pub begun : Bool  -- one of them is a line of what happened

abbrev pub front_of : List Form → LinesSoFar
front_of forms = record {
  areas = areas_of forms;
  interfaces = flat_map interfaces_in forms;
  lsas = flat_map lsas_in forms;
  ended = has_ended forms;
  begun = list_any is_of_body forms;
}

-- lines of the header that say these areas
abbrev pub headed : List AreaConfig → LinesSoFar
headed areas = record { areas = areas; interfaces = []; lsas = []; ended = false; begun = false }

-- lines that say the base, and nothing that happened
abbrev pub based : Base → LinesSoFar
based b = record { areas = b.config.areas; interfaces = b.interfaces; lsas = b.lsas; ended = true; begun = false }

-- the line of the header or of the base may come after what was said so far
abbrev pub is_next : LinesSoFar → Form → Bool
is_next f (AreaLine id stub) = not f.ended && is_next_area f.areas (AreaLine id stub)
is_next f (RangeLine area range) = not f.ended && is_next_area f.areas (RangeLine area range)
is_next f (HasInterfaceLine id interface) = not f.begun && is_next_interface f.lsas f.interfaces id
is_next f (HasLsaLine at bytes) = not f.begun && is_past_lsa (last_of f.lsas) at bytes
is_next f _ = false

-- the lines after the first ones say this
pub record AreSaid (v : Version) (before : List (List ℕ)) (forms : List Form) : Type 0 where
  pub many : first_lines v ≤ length before
  pub said : AllSay v (drop (first_lines v) before) forms

-- The line may come after these lines: one of the first ones and one of what happened by its
-- number, and one of the header or of the base by what the lines before it say.
abbrev pub IsLinePlaced : Version → List (List ℕ) → Form → Type 0
IsLinePlaced v before (VersionLine version) = before ≡ []
IsLinePlaced v before (RouterLine router) = length before ≡ 1
IsLinePlaced v before (CompatLine compat) = length before ≡ 2
IsLinePlaced v before (SerialLine serial) = length before ≡ 3
IsLinePlaced v before (BodyLine body) = first_lines v ≤ length before
IsLinePlaced v before form = (forms : List Form) × AreSaid v before forms × (is_next (front_of forms) form ≡ true)

-- ---- what else may be wrong with a line

abbrev pub body_wire_fault : Body → Option WireFault
body_wire_fault (InstallLine at bytes) = fault_of bytes
body_wire_fault _ = None

-- the reason why the bytes of the line are not a valid LSA
abbrev pub wire_fault_in : Form → Option WireFault
wire_fault_in (HasLsaLine at bytes) = fault_of bytes
wire_fault_in (BodyLine body) = body_wire_fault body
wire_fault_in _ = None

-- this many LSAs the scope may have
abbrev pub most_in : Limits → Scope → ℕ
most_in limits (scope.Area id) = limits.area_lsas
most_in limits scope.As = limits.externals

-- both are up, and have one address
abbrev pub has_address : Interface → Interface → Bool
has_address i other = other.up && (i.up && (other.address == i.address))

-- an interface after these: its area is not configured, or one of them has its address
abbrev pub unfit_interface : List AreaConfig → List (ℕ × Interface) → Interface → Option EntryFault
unfit_interface areas interfaces i = first_of (
    (is_none (place_of areas (scope.Area i.area)), unfit.NoArea)
    ∷ (list_any (λ y. has_address i y.1) interfaces, unfit.AddressTaken)
    ∷ [])

-- an LSA of this LS type in a scope that has this many: its area is not configured, it belongs to
-- another scope, or the scope is full
abbrev pub unfit_under : List AreaConfig → Scope → (kind row : ℕ) → Option EntryFault
unfit_under areas at kind row = first_of (
    (is_none (place_of areas at), unfit.NoArea)
    ∷ (is_out_of_scope at kind, unfit.Scope)
    ∷ (nat_le (most_in standard_limits at) row, unfit.Full)
    ∷ [])

abbrev pub unfit_lsa : List AreaConfig → List (Scope × Lsa) → Scope × Lsa → Option EntryFault
unfit_lsa areas lsas x = unfit_under areas x.0 (key_of x.1).kind (length (lsas_under lsas x.0))

-- The fault of a base that no event could have made, by the lines before and this one: an area that
-- is not configured, an LSA of another scope, one more LSA than its scope may have, or an address
-- that an interface has which is up too.
abbrev pub unfit_at : LinesSoFar → Form → Option EntryFault
unfit_at f (HasInterfaceLine id interface) = unfit_interface f.areas f.interfaces interface
unfit_at f (HasLsaLine at bytes) = unfit_lsa f.areas f.lsas (at, lsa_of bytes)
unfit_at f _ = None

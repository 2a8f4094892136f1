-- The objects that are printed, a line each. The members of an object ascend by name.
use Rattle.std.specs.Prelude.{ℕ, List, [], ◌∷◌, true, codes}
use Rattle.std.specs.Int.{w16, w32, to_be_bytes}
use Rattle.serde_json.specs.Data.{Data, boolean, string}
use Rattle.ospf_types.specs.Network.{Network}
use Rattle.ospf_types.specs.declared.key.Dest.{Dest}
use Rattle.ospf_types.specs.declared.key.Scope.{Scope}
use Rattle.ospf_types.specs.declared.lsa.Header.{Header}
use Rattle.summary_lists.specs.Lists.{kind_of}
use Rattle.summary_lists.specs.declared.due.DueSummary.{DueSummary}
use Rattle.event_state.specs.declared.refusal.Refusal.{Refusal}
use Rattle.event_state.specs.Texts.{refusal_text}
use Rattle.route_table.specs.declared.table.Item.{Item}
use Rattle.route_table.specs.declared.table.Item.TheVariants as item
use Rattle.route_table.specs.declared.table.Match.{Match}
use Rattle.route_table.specs.declared.table.Match.TheVariants as found
use Rattle.recording.specs.declared.fault.LineFault.{LineFault}
use Rattle.recording.specs.Texts.{fault_text}
use Rattle.output_lines.specs.Members.{object_of, number_data, address_data, network_data, hex_data}
use Rattle.output_lines.specs.Routes.{route_data}
use Rattle.output_lines.specs.Keys.{dest_data, scope_data}
use Rattle.replay.specs.declared.json_lines.replayed.Lookup.{Lookup}

-- ---- what an event changed, at the number of its line

-- the network has this item now
abbrev pub set_data : (line : ℕ) → Network → Item → Data
set_data line p (item.Route e) = object_of (
    (codes "line", number_data line)
    ∷ (codes "network", network_data p)
    ∷ (codes "route", route_data e)
    ∷ (codes "type", string (codes "set"))
    ∷ [])
set_data line p item.Discard = object_of (
    (codes "discard", boolean true)
    ∷ (codes "line", number_data line)
    ∷ (codes "network", network_data p)
    ∷ (codes "type", string (codes "set"))
    ∷ [])

-- the table has nothing for the network any more
abbrev pub drop_data : (line : ℕ) → Network → Data
drop_data line p = object_of (
    (codes "line", number_data line)
    ∷ (codes "network", network_data p)
    ∷ (codes "type", string (codes "drop"))
    ∷ [])

-- the summary is due in the area at this metric now
abbrev pub due_data : (line area : ℕ) → DueSummary → Data
due_data line area due = object_of (
    (codes "area", address_data area)
    ∷ (codes "destination", dest_data due.dest)
    ∷ (codes "kind", number_data due.kind)
    ∷ (codes "line", number_data line)
    ∷ (codes "metric", number_data due.metric)
    ∷ (codes "type", string (codes "due"))
    ∷ [])

-- it is due there no longer
abbrev pub undue_data : (line area : ℕ) → Dest → Data
undue_data line area d = object_of (
    (codes "area", address_data area)
    ∷ (codes "destination", dest_data d)
    ∷ (codes "kind", number_data (kind_of d))
    ∷ (codes "line", number_data line)
    ∷ (codes "type", string (codes "undue"))
    ∷ [])

-- ---- what a line of a recording came to, at its number

-- the match of the address in the table
abbrev pub lookup_data : Lookup → Match → Data
lookup_data l (found.Route p e) = object_of (
    (codes "address", address_data l.address)
    ∷ (codes "line", number_data l.line)
    ∷ (codes "match", string (codes "route"))
    ∷ (codes "network", network_data p)
    ∷ (codes "route", route_data e.now)
    ∷ (codes "serial", number_data l.serial)
    ∷ (codes "type", string (codes "lookup"))
    ∷ [])
lookup_data l (found.Discard p) = object_of (
    (codes "address", address_data l.address)
    ∷ (codes "line", number_data l.line)
    ∷ (codes "match", string (codes "discard"))
    ∷ (codes "network", network_data p)
    ∷ (codes "serial", number_data l.serial)
    ∷ (codes "type", string (codes "lookup"))
    ∷ [])
lookup_data l found.None = object_of (
    (codes "address", address_data l.address)
    ∷ (codes "line", number_data l.line)
    ∷ (codes "match", string (codes "none"))
    ∷ (codes "serial", number_data l.serial)
    ∷ (codes "type", string (codes "lookup"))
    ∷ [])

-- the event, or the roll, was refused
abbrev pub refused_data : (line : ℕ) → Refusal → Data
refused_data line refusal = object_of (
    (codes "line", number_data line)
    ∷ (codes "refusal", string (refusal_text refusal))
    ∷ (codes "type", string (codes "refused"))
    ∷ [])

-- the event was taken, and the table does not follow it yet
abbrev pub behind_data : (line : ℕ) → Data
behind_data line = object_of ((codes "line", number_data line) ∷ (codes "type", string (codes "behind")) ∷ [])

-- the line has a fault
abbrev pub fault_data : LineFault → Data
fault_data l = object_of (
    (codes "fault", string (fault_text l.fault))
    ∷ (codes "line", number_data l.line)
    ∷ (codes "type", string (codes "fault"))
    ∷ [])

-- ---- what is shown at the end

-- the number of events taken, and the number of those that the table reflects
abbrev pub serial_data : (serial built : ℕ) → Data
serial_data serial built = object_of (
    (codes "built", number_data built)
    ∷ (codes "serial", number_data serial)
    ∷ (codes "type", string (codes "serial"))
    ∷ [])

-- the item of the network in the table
abbrev pub item_data : Network → Item → Data
item_data p (item.Route e) = object_of (
    (codes "network", network_data p)
    ∷ (codes "route", route_data e)
    ∷ (codes "type", string (codes "route"))
    ∷ [])
item_data p item.Discard = object_of (
    (codes "network", network_data p)
    ∷ (codes "type", string (codes "discard"))
    ∷ [])

-- the summary is due in the area
abbrev pub shown_due_data : (area : ℕ) → DueSummary → Data
shown_due_data area due = object_of (
    (codes "area", address_data area)
    ∷ (codes "destination", dest_data due.dest)
    ∷ (codes "kind", number_data due.kind)
    ∷ (codes "metric", number_data due.metric)
    ∷ (codes "type", string (codes "due"))
    ∷ [])

-- the key of an LSA, and the fields that identify an instance: sequence number, checksum and age
abbrev pub lsa_data : Scope → Header → Data
lsa_data scope h = object_of (
    (codes "age", number_data h.age)
    ∷ (codes "checksum", hex_data (to_be_bytes w16 h.sum))
    ∷ (codes "id", address_data h.id)
    ∷ (codes "kind", number_data h.kind)
    ∷ (codes "router", address_data h.router)
    ∷ (codes "scope", scope_data scope)
    ∷ (codes "sequence", hex_data (to_be_bytes w32 h.seq))
    ∷ (codes "type", string (codes "lsa"))
    ∷ [])

-- a line of a recording, without its line feed
abbrev pub recorded_data : (text : List ℕ) → Data
recorded_data text = object_of ((codes "text", string text) ∷ (codes "type", string (codes "recorded")) ∷ [])

-- The types that C passes, and gets.
use Rattle.std.specs.Prelude.{ℕ, true, false, if◌then◌else◌, ◌&&◌, ◌==◌, Option, Some, None, is_some, List, length, map, min, nat_le, nat_lt}
use Rattle.std.specs.List.{flat_map}
use Rattle.ospf_types.specs.Masks.{masked}
use Rattle.ospf_types.specs.Network.{Network}
use Rattle.ospf_types.specs.declared.entry.Entry.{Entry}
use Rattle.ospf_types.specs.declared.entry.PathType.{PathType}
use Rattle.ospf_types.specs.declared.entry.PathType.TheVariants.{Intra, Inter, External1, External2}
use Rattle.ospf_types.specs.declared.hop.NextHop.{NextHop}
use Rattle.ospf_types.specs.declared.hop.NextHop.TheVariants as next_hop
use Rattle.ospf_types.specs.declared.hop.Path.{Path}
use Rattle.ospf_types.specs.declared.key.Dest.{Dest}
use Rattle.ospf_types.specs.declared.key.Dest.TheVariants.{Net, Router}
use Rattle.ospf_types.specs.declared.key.Key.{Key}
use Rattle.ospf_types.specs.declared.key.Scope.{Scope}
use Rattle.ospf_types.specs.declared.key.Scope.TheVariants.{As, Area}
use Rattle.ospf_types.specs.declared.config.Interface.{Interface}
use Rattle.event_core.specs.DueSummary.{DueSummary}
use Rattle.event_core.specs.Lists.{Metrics, due_for}
use Rattle.route_table.specs.declared.table.Item.{Item}
use Rattle.route_table.specs.declared.table.Item.TheVariants as item
use Rattle.route_table.specs.declared.table.Match.{Match}
use Rattle.route_table.specs.declared.table.Match.TheVariants as found
use Rattle.abr_c.specs.declared.c_types.CDue.{CDue}
use Rattle.abr_c.specs.declared.c_types.CDueChange.{CDueChange}
use Rattle.abr_c.specs.declared.c_types.CHop.{CHop}
use Rattle.abr_c.specs.declared.c_types.CInterface.{CInterface}
use Rattle.abr_c.specs.declared.c_types.CItem.{CItem}
use Rattle.abr_c.specs.declared.c_types.CKey.{CKey}
use Rattle.abr_c.specs.declared.c_types.CPrefix.{CPrefix}
use Rattle.abr_c.specs.declared.c_types.CScope.{CScope}

abbrev pub scope_of : CScope → Scope
scope_of s = if s.is_as then As else Area s.area

abbrev pub c_scope_of : Scope → CScope
c_scope_of As = record { is_as = true; area = 0 }
c_scope_of (Area area) = record { is_as = false; area = area }

abbrev pub key_of : CKey → Key
key_of k = record { kind = k.kind; id = k.id; router = k.router }

-- the network that C names, or `None` if the length is above 32 or a bit past the length is 1
abbrev pub network_in : CPrefix → Option Network
network_in p = if nat_le p.length 32 && (masked p.address p.length == p.address) then Some (record { address = p.address; length = p.length }) else None

abbrev pub prefix_of : Network → CPrefix
prefix_of p = record { address = p.address; length = p.length }

abbrev pub no_prefix : CPrefix
no_prefix = record { address = 0; length = 0 }

-- ---- items

abbrev pub no_item : CItem
no_item = record { kind = 0; prefix = no_prefix; area = 0; cost = 0; cost2 = 0; paths = 0 }

abbrev pub discard_of : Network → CItem
discard_of p = record { kind = 1; prefix = prefix_of p; area = 0; cost = 0; cost2 = 0; paths = 0 }

abbrev pub kind_number : PathType → ℕ
kind_number Intra = 2
kind_number Inter = 3
kind_number External1 = 4
kind_number External2 = 5

abbrev pub number_or_zero : Option ℕ → ℕ
number_or_zero None = 0
number_or_zero (Some n) = n

-- the length of the list, as a number of 32 bits
abbrev pub count_of : {A : Type 0} → List A → ℕ
count_of xs = if nat_lt (length xs) 4294967295 then length xs else 4294967295

abbrev pub route_of : Network → Entry → CItem
route_of p e = record { kind = kind_number e.kind; prefix = prefix_of p; area = number_or_zero e.area; cost = e.cost; cost2 = e.cost2; paths = count_of e.paths }

abbrev pub item_of : Network → Item → CItem
item_of p (item.Route e) = route_of p e
item_of p item.Discard = discard_of p

abbrev pub item_of_entry : Network × Item → CItem
item_of_entry x = item_of x.0 x.1

-- the item of the network in the table, if it has one
abbrev pub item_or_none : Network → Option Item → CItem
item_or_none p None = no_item
item_or_none p (Some i) = item_of p i

abbrev pub item_of_match : Match → CItem
item_of_match (found.Route p e) = route_of p e.now
item_of_match (found.Discard p) = discard_of p
item_of_match found.None = no_item

-- ---- next hops

abbrev pub hop_kind : NextHop → ℕ
hop_kind (next_hop.Direct interface) = 0
hop_kind (next_hop.Peer interface) = 1
hop_kind (next_hop.Router interface address) = 2

abbrev pub hop_interface : NextHop → ℕ
hop_interface (next_hop.Direct interface) = interface
hop_interface (next_hop.Peer interface) = interface
hop_interface (next_hop.Router interface address) = interface

abbrev pub hop_address : NextHop → ℕ
hop_address (next_hop.Direct interface) = 0
hop_address (next_hop.Peer interface) = 0
hop_address (next_hop.Router interface address) = address

abbrev pub hop_of : Path → CHop
hop_of p = record { kind = hop_kind p.hop; interface = hop_interface p.hop; has_advertiser = is_some p.advertiser; address = hop_address p.hop; advertiser = number_or_zero p.advertiser }

-- ---- due summaries, interfaces

abbrev pub destination_of : Dest → CPrefix
destination_of (Net p) = prefix_of p
destination_of (Router id) = record { address = id; length = 32 }

abbrev pub due_of : DueSummary → CDue
due_of d = record { kind = d.kind; destination = destination_of d.dest; metric = d.metric }

-- the summary of the area for the destination now, if it is due
abbrev pub due_change_of : ℕ → Dest × Option ℕ → CDueChange
due_change_of area x = record { area = area; is_due = is_some x.1; due = due_of (due_for x.0 (number_or_zero x.1)) }

abbrev pub changes_of_area : ℕ × Metrics → List CDueChange
changes_of_area c = map (due_change_of c.0) c.1

-- the changes, area by area
abbrev pub due_changes_of : List (ℕ × Metrics) → List CDueChange
due_changes_of changes = flat_map changes_of_area changes

-- a number of them, as C counts
abbrev pub counted : ℕ → ℕ
counted n = min n 18446744073709551615

abbrev pub interface_of : ℕ × Interface → CInterface
interface_of x = record { id = x.0; up = x.1.up; area = x.1.area; address = x.1.address; peer = x.1.peer }

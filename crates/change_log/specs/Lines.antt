-- The lines that report the changes of an event, or the outcome of a line that changed nothing.
use Rattle.std.specs.Prelude.{ℕ, ◌++◌, Bool, true, false, List, Option, Some, None, codes, decimal, if◌then◌else◌}
use Rattle.std.specs.List.{flat_map}
use Rattle.ospf_types.specs.declared.key.Dest.{Dest}
use Rattle.ospf_types.specs.declared.key.Dest.TheVariants.{Net, Router}
use Rattle.ospf_types.specs.declared.prefix.Prefix.{Prefix}
use Rattle.change_log.specs.declared.printing.ChangeFilter.{ChangeFilter}
use Rattle.ospf_types.specs.RangeChanges.{is_same_prefix}
use Rattle.ospf_types.specs.Text.{address_text, prefix_text, entry_text}
use Rattle.route_table.specs.declared.table.Item.{Item}
use Rattle.route_table.specs.declared.table.Item.TheVariants as item
use Rattle.event_core.specs.Lists.{kind_of}
use Rattle.summary_lists.specs.Lists.{due_for}
use Rattle.event_state.specs.declared.refusal.Refusal.{Refusal}
use Rattle.route_table.specs.declared.table.Match.{Match}
use Rattle.recording.specs.declared.fault.Fault.{Fault}
use Rattle.recording.specs.Texts.{fault_text}
use Rattle.event_state.specs.Texts.{refusal_text}
use Rattle.replay.specs.JsonLines.{set_data, drop_data, due_data, undue_data, lookup_data, refused_data, fault_data}
use Rattle.output_lines.specs.Members.{json_line}
use Rattle.output_lines.specs.declared.format.Format.{Format}
use Rattle.output_lines.specs.declared.format.Format.TheVariants as format
use Rattle.replay.specs.Lines.{dest_text, lookup_line}

pub data Change : Type 0 where
  Set : (network : Prefix) → (now : Item) → Change  -- the network has this item now
  Drop : (network : Prefix) → Change  -- the table has nothing for the network any more
  Due : (area : ℕ) → (dest : Dest) → (metric : ℕ) → Change  -- the summary is due in the area at this metric now
  Undue : (area : ℕ) → (dest : Dest) → Change  -- it is due there no longer
  Found : (address serial : ℕ) → (found : Match) → Change  -- nothing changed: what the table has for an address that was looked up
  Refused : (refusal : Refusal) → Change  -- nothing changed: the event, or the roll, was refused
  AtFault : (fault : Fault) → Change  -- nothing changed: the line has a fault

-- the route, or `discard`
abbrev pub item_text : Item → List ℕ
item_text (item.Route entry) = entry_text entry
item_text item.Discard = codes "discard"

-- an area, and a destination with its LS type
abbrev pub place_text : ℕ → Dest → List ℕ
place_text area dest = address_text area ++ codes " " ++ decimal (kind_of dest) ++ codes " " ++ dest_text dest

-- the words of what changed at the line of this number
abbrev pub words_of : ℕ → Change → List ℕ
words_of number (Set p now) = decimal number ++ codes " set " ++ prefix_text p ++ codes " " ++ item_text now ++ codes "\n"
words_of number (Drop p) = decimal number ++ codes " drop " ++ prefix_text p ++ codes "\n"
words_of number (Due area dest metric) = decimal number ++ codes " due " ++ place_text area dest ++ codes " " ++ decimal metric ++ codes "\n"
words_of number (Undue area dest) = decimal number ++ codes " undue " ++ place_text area dest ++ codes "\n"
words_of number (Found address serial found) = lookup_line format.Text number address serial found
words_of number (Refused refusal) = decimal number ++ codes " refused " ++ refusal_text refusal ++ codes "\n"
words_of number (AtFault fault) = decimal number ++ codes " fault " ++ fault_text fault ++ codes "\n"

-- the JSON object of it, on a line of its own
abbrev pub object_line : ℕ → Change → List ℕ
object_line number (Set p now) = json_line (set_data number p now)
object_line number (Drop p) = json_line (drop_data number p)
object_line number (Due area dest metric) = json_line (due_data number area (due_for dest metric))
object_line number (Undue area dest) = json_line (undue_data number area dest)
object_line number (Found address serial found) = json_line (lookup_data (record { line = number; address = address; serial = serial }) found)
object_line number (Refused refusal) = json_line (refused_data number refusal)
object_line number (AtFault fault) = json_line (fault_data (record { line = number; fault = fault }))

-- the changes at the line of this number
abbrev pub change_line : Format → ℕ → Change → List ℕ
change_line format.Text number change = words_of number change
change_line format.Json number change = object_line number change

-- ---- the changes of one network

-- the network, where only one is asked for
abbrev pub is_asked : Option Prefix → Prefix → Bool
is_asked None p = true
is_asked (Some q) p = is_same_prefix p q

-- the destination, likewise; an AS boundary router is not a network
abbrev pub is_dest_asked : Option Prefix → Dest → Bool
is_dest_asked only (Net p) = is_asked only p
is_dest_asked None (Router router) = true
is_dest_asked (Some q) (Router router) = false

abbrev pub is_told : Option Prefix → Change → Bool
is_told only (Set p now) = is_asked only p
is_told only (Drop p) = is_asked only p
is_told only (Due area dest metric) = is_dest_asked only dest
is_told only (Undue area dest) = is_dest_asked only dest
is_told only _ = true

-- the line of a change that is wanted
abbrev pub line_of : ℕ → ChangeFilter → Change → List ℕ
line_of number wanted change = if is_told wanted.only change then change_line wanted.format number change else codes ""

abbrev pub lines_of : ℕ → ChangeFilter → List Change → List ℕ
lines_of number wanted changes = flat_map (line_of number wanted) changes

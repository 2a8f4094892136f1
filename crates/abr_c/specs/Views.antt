-- The results that C reads from a core.
use Rattle.std.specs.Prelude.{ℕ, ◌≡◌, ◌+◌, ◌⊎◌, List, [], length, drop, map as list_map, Option, Some, None, option_map, slice_get}
use Rattle.std.specs.FinMap as map
use Rattle.ospf_types.specs.Network.{Network, network_cmp}
use Rattle.ospf_types.specs.declared.config.Interface.{Interface}
use Rattle.ospf_types.specs.declared.hop.Path.{Path}
use Rattle.ospf_types.specs.declared.key.Scope.{Scope}
use Rattle.ospf_types.specs.Lsa.{Lsa}
use Rattle.event_core.specs.Cores.{CoreValue}
use Rattle.event_core.specs.DueSummary.{DueSummary}
use Rattle.event_core.specs.Right.{list_under}
use Rattle.route_table.specs.declared.table.Item.{Item}
use Rattle.route_table.specs.declared.table.Item.TheVariants as item
use Rattle.route_table.specs.declared.table.Match.{Match}
use Rattle.route_table.specs.Tables.{IsMatch}
use Rattle.abr_c.specs.declared.c_types.CDue.{CDue}
use Rattle.abr_c.specs.declared.c_types.CDueChange.{CDueChange}
use Rattle.abr_c.specs.declared.c_types.CHop.{CHop}
use Rattle.abr_c.specs.declared.c_types.CInterface.{CInterface}
use Rattle.abr_c.specs.declared.c_types.CItem.{CItem}
use Rattle.abr_c.specs.declared.c_types.CPrefix.{CPrefix}
use Rattle.abr_c.specs.declared.c_types.CScope.{CScope}
use Rattle.lsa_codec.specs.Spelling.{spelling}
use Rattle.event_state.specs.declared.base.Base.{Base}
use Rattle.recording.specs.declared.version.Version.TheVariants.{Three}
use Rattle.recording.specs.Recordings.{front_forms, text_of_forms}
use Rattle.abr_c.specs.Given.{written}
use Rattle.abr_c.specs.CTypes.{c_scope_of, due_changes_of, due_of, hop_of, interface_of, item_of_entry, item_of_match, item_or_none, no_item, prefix_of}

-- the result of the function for a core, or this without a core
abbrev pub of_core : {X : Type 0} → X → (CoreValue → X) → Option CoreValue → X
of_core x f None = x
of_core x f (Some core) = f core

-- ---- serials

abbrev pub serial_in : Option CoreValue → ℕ
serial_in = of_core 0 (λ core. core.base.serial + length core.journal)

abbrev pub built_in : Option CoreValue → ℕ
built_in = of_core 0 (λ core. core.base.serial + core.built)

-- ---- the table

-- the longest match of the address
abbrev pub IsMatchFound : map.FinMap network_cmp Item → (address : ℕ) → CItem → Type 0
IsMatchFound items address out = (found : Match) × IsMatch items address found × (out ≡ item_of_match found)

abbrev pub IsLookedUp : Option CoreValue → (address : ℕ) → CItem → Type 0
IsLookedUp None address out = out ≡ no_item
IsLookedUp (Some core) address out = IsMatchFound core.table.items address out

-- the item of the table for the network
abbrev pub item_at : Option CoreValue → Option Network → Option Item
item_at None p = None
item_at (Some core) None = None
item_at (Some core) (Some p) = map.get core.table.items p

abbrev pub item_for : Option CoreValue → Option Network → CItem
item_for c None = no_item
item_for c (Some p) = item_or_none p (item_at c (Some p))

abbrev pub paths_of : Option Item → List Path
paths_of None = []
paths_of (Some item.Discard) = []
paths_of (Some (item.Route e)) = e.paths

-- the next hop of the network at the place
abbrev pub hop_at : Option CoreValue → Option Network → (n : ℕ) → Option CHop
hop_at c p n = option_map hop_of (slice_get (paths_of (item_at c p)) n)

abbrev pub changes_in : Option CoreValue → List Network
changes_in = of_core [] (λ core. core.changes)

abbrev pub change_at : Option CoreValue → (n : ℕ) → Option CPrefix
change_at c n = option_map prefix_of (slice_get (changes_in c) n)

-- the networks with their items, ascending
abbrev pub entries_in : Option CoreValue → List (Network × Item)
entries_in = of_core [] (λ core. map.entries core.table.items)

-- the items that C gets, without the first ones
abbrev pub items_from : Option CoreValue → (first : ℕ) → List CItem
items_from c first = list_map item_of_entry (drop first (entries_in c))

-- ---- due summaries

abbrev pub or_none : Option (List DueSummary) → List DueSummary
or_none None = []
or_none (Some list) = list

abbrev pub due_in : Option CoreValue → (area : ℕ) → List DueSummary
due_in c area = of_core [] (λ core. or_none (list_under core.summaries area)) c

abbrev pub due_at : Option CoreValue → (area n : ℕ) → Option CDue
due_at c area n = option_map due_of (slice_get (due_in c area) n)

-- the changes of the due summaries by the last event, area by area
abbrev pub due_changes_in : Option CoreValue → List CDueChange
due_changes_in = of_core [] (λ core. due_changes_of core.due_changes)

-- ---- the base

abbrev pub base_serial_in : Option CoreValue → ℕ
base_serial_in = of_core 0 (λ core. core.base.serial)

abbrev pub interfaces_in : Option CoreValue → List (ℕ × Interface)
interfaces_in = of_core [] (λ core. core.base.interfaces)

abbrev pub interface_at : Option CoreValue → (n : ℕ) → Option CInterface
interface_at c n = option_map interface_of (slice_get (interfaces_in c) n)

abbrev pub lsas_in : Option CoreValue → List (Scope × Lsa)
lsas_in = of_core [] (λ core. core.base.lsas)

abbrev pub lsa_at : Option CoreValue → (n : ℕ) → Option (Scope × Lsa)
lsa_at c n = slice_get (lsas_in c) n

abbrev pub IsNothing : (count : ℕ) → (scope scope' : CScope) → (before after : List ℕ) → Type 0
IsNothing count scope scope' before after = (count ≡ 0) × (scope' ≡ scope) × (after ≡ before)

-- The LSA's scope is written, and its bytes if there is room. Without an LSA nothing is written,
-- and the result is 0.
abbrev pub GivesLsa : Option (Scope × Lsa) → (count : ℕ) → (scope scope' : CScope) → (before after : List ℕ) → Type 0
GivesLsa None count scope scope' before after = IsNothing count scope scope' before after
GivesLsa (Some x) count scope scope' before after = (count ≡ length (spelling x.1)) × (scope' ≡ c_scope_of x.0) × (after ≡ written (spelling x.1) before)

-- the base in version 3 of the format
abbrev pub base_text : Base → List ℕ
base_text base = text_of_forms (front_forms Three base)

-- the text of the base is written where there is room; else, with 0, nothing is
abbrev pub GivesTextOf : Base → (count : ℕ) → (before after : List ℕ) → Type 0
GivesTextOf base count before after =
    ((count ≡ length (base_text base)) × (after ≡ written (base_text base) before)) ⊎ ((count ≡ 0) × (after ≡ before))

abbrev pub GivesText : Option CoreValue → (count : ℕ) → (before after : List ℕ) → Type 0
GivesText None count before after = (count ≡ 0) × (after ≡ before)
GivesText (Some core) count before after = GivesTextOf core.base count before after

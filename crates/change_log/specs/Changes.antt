-- The changes from one core to the next, and what the reported changes show of a core.
use Rattle.std.specs.Prelude.{ℕ, ◌≡◌, ◌==◌, ◌++◌, List, [], ◌∷◌, Contains, Option, Some, None, map, if◌then◌else◌}
use Rattle.std.specs.FinMap as fin
use Rattle.std.specs.List.{flat_map}
use Rattle.ospf_types.specs.declared.key.Dest.{Dest}
use Rattle.ospf_types.specs.declared.prefix.Prefix.{Prefix}
use Rattle.ospf_types.specs.Keys.{dest_cmp}
use Rattle.ospf_types.specs.Network.{network_cmp}
use Rattle.route_table.specs.declared.table.Item.{Item}
use Rattle.event_core.specs.Cores.{CoreValue}
use Rattle.event_core.specs.DueSummaries.{AreDueChanges}
use Rattle.event_core.specs.DueSummary.{DueSummary}
use Rattle.event_core.specs.Following.{AreChanges}
use Rattle.summary_lists.specs.Lists.{IsMetricIn, Metrics}
use Rattle.change_log.specs.Lines.{Change, Set, Drop, Due, Undue}

-- networks with their items
abbrev pub Items : Type 0
Items = fin.FinMap network_cmp Item

-- destinations with the metrics at which they are due in an area
abbrev pub DueMetrics : Type 0
DueMetrics = fin.FinMap dest_cmp ℕ

-- ---- from one core to the next

-- the network has this item now, or none
abbrev pub change_to : Prefix → Option Item → Change
change_to p (Some now) = Set p now
change_to p None = Drop p

-- the network has another item now, or none
abbrev pub network_change : Items → Prefix → Change
network_change items p = change_to p (fin.get items p)

-- the destination is due in the area at this metric now, or no longer
abbrev pub due_change : ℕ → Dest × Option ℕ → Change
due_change area (dest, Some metric) = Due area dest metric
due_change area (dest, None) = Undue area dest

-- the changes in an area
abbrev pub area_changes : ℕ × Metrics → List Change
area_changes e = map (due_change e.0) e.1

-- The differences: the networks whose item differs, without duplicates, and then, area by area, the
-- destinations that are due otherwise, without duplicates.
pub record AreDifferences (old new : CoreValue) (told : List Change) : Type 0 where
  pub networks : List Prefix
  pub due : List (ℕ × Metrics)
  pub items : AreChanges old.table.items new.table.items networks
  pub summaries : AreDueChanges due old.summaries new.summaries
  pub is : told ≡ map (network_change new.table.items) networks ++ flat_map area_changes due

-- ---- what a core begins with

abbrev pub item_set : Prefix × Item → Change
item_set e = Set e.0 e.1

abbrev pub summary_due : ℕ → DueSummary → Change
summary_due area due = Due area due.dest due.metric

abbrev pub area_due : ℕ × List DueSummary → List Change
area_due e = map (summary_due e.0) e.1

-- the whole table, and all that is due
abbrev pub all_of : CoreValue → List Change
all_of c = map item_set (fin.entries c.table.items) ++ flat_map area_due c.summaries

-- ---- what the changes give, one after the other, from nothing on

abbrev pub items_after : Items → Change → Items
items_after items (Set p now) = fin.insert items p now
items_after items (Drop p) = fin.remove items p
items_after items _ = items

abbrev pub items_from : Items → List Change → Items
items_from items [] = items
items_from items (change ∷ changes) = items_from (items_after items change) changes

-- the metrics of an area after a change
abbrev pub metrics_after : ℕ → DueMetrics → Change → DueMetrics
metrics_after id metrics (Due area dest metric) = if area == id then fin.insert metrics dest metric else metrics
metrics_after id metrics (Undue area dest) = if area == id then fin.remove metrics dest else metrics
metrics_after id metrics _ = metrics

abbrev pub metrics_from : ℕ → DueMetrics → List Change → DueMetrics
metrics_from id metrics [] = metrics
metrics_from id metrics (change ∷ changes) = metrics_from id (metrics_after id metrics change) changes

-- the list has each destination at its metric here, and no other
abbrev pub AreMetricsOf : List DueSummary → DueMetrics → Type 0
AreMetricsOf list metrics = (dest : Dest) → IsMetricIn list dest (fin.get metrics dest)

-- The changes from nothing on give the routing table, and of each area what is due there.
pub record Give (changes : List Change) (c : CoreValue) : Type 0 where
  pub items : items_from fin.empty changes ≡ c.table.items
  pub due : (e : ℕ × List DueSummary) → Contains c.summaries e → AreMetricsOf e.1 (metrics_from e.0 fin.empty changes)

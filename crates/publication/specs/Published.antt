-- The rule of what is published, and what its two steps tell.
use Rattle.std.specs.Prelude.{◌≡◌, ◌+◌, ℕ, Bool, List, length, Option, Some, MatchBool}
use mathlib.Core.List.{IsPrefix}
use mathlib.Core.Option.{some}
use lib.ListN.{get_elem?}
use Rattle.event_state.specs.declared.base.Base.{Base}
use Rattle.event_state.specs.declared.event.Event.{Event}
use Rattle.event_state.specs.Steps.{run_of, standard_limits, IsLegalList}
use Rattle.event_state.specs.States.{inputs_of}
use Rattle.route_table.specs.Tables.{TableValue}
use Rattle.route_table.specs.Right.{IsRoutingTable}
use Rattle.publication.specs.declared.published_table.PublishedTable.{PublishedTable}
use Rattle.publication.specs.Lines.{HistoryLine}
use Rattle.publication.specs.Names.{Name}

-- each of these events could be taken at its place
abbrev pub IsLegalHistory : Base → List Event → Type 0
IsLegalHistory base list = IsLegalList base standard_limits list

-- the table is right after these events, and has the serial of the last; and each of them could be
-- taken at its place
abbrev pub IsTableFor : Base → List Event → TableValue → Type 0
IsTableFor base list table = IsLegalHistory base list × IsRoutingTable (inputs_of (run_of base standard_limits list)) (base.serial + length list) table

-- the table is right for the list that is shown with it
abbrev pub IsShownRight : PublishedTable → Type 0
IsShownRight x = IsTableFor x.base x.front.list x.table

-- the name of the engine that the table belongs to
abbrev pub name_of : PublishedTable → Name
name_of x = record { book = x.front.book; base = x.base }

abbrev pub Holds : PublishedTable → List (Option Name) → Type 0
Holds x views = IsShownRight x × ((seat : ℕ) (n : Name) → get_elem? views seat ≡ some (Some n) → n ≡ name_of x)

-- the published table after the step is right, and its name is known, and was the name before; its
-- list begins with the list of before
abbrev pub Saw : Option Name → PublishedTable → PublishedTable → Option Name → Type 0
Saw v x y w = (w ≡ Some (name_of y)) × IsShownRight y × ((n : Name) → v ≡ Some n → n ≡ name_of y) × IsPrefix x.front.list y.front.list

-- if it is done, this list is published with a table that is right for it; otherwise nothing has
-- changed
abbrev pub IsPublished : Bool → HistoryLine → PublishedTable → PublishedTable → Type 0
IsPublished done list before after = MatchBool done ((after.front ≡ list) × IsShownRight after) (after ≡ before)

-- if it is done, the name is known; otherwise the name that was known before
abbrev pub IsKnownAfter : Bool → Name → Option Name → Option Name → Type 0
IsKnownAfter done name before after = MatchBool done (after ≡ Some name) (after ≡ before)

-- the list that is shown begins with the one before
abbrev pub HasGrown : PublishedTable → PublishedTable → Type 0
HasGrown before after = IsPrefix before.front.list after.front.list

-- One event: the first refusal that holds, or what it does to the state; and runs of events (RFC
-- 2328, 13.2 and 14).
use Rattle.std.specs.Prelude.{ℕ, ◌==◌, ◌&&◌, ◌||◌, ◌≡◌, not, Bool, false, nat_le, nat_lt, List, [], ◌∷◌, ◌++◌, map, length, Option, Some, None, is_none, option_and_then}
use Rattle.std.specs.List.{list_any}
use Rattle.std.specs.FinMap.{entries, get, insert, remove}
use Rattle.ospf_types.specs.FirstOf.{first_of}
use Rattle.ospf_types.specs.RangeChanges.{has_range, set_range, drop_range}
use Rattle.ospf_types.specs.declared.config.Interface.{Interface}
use Rattle.ospf_types.specs.declared.config.Range.{Range}
use Rattle.ospf_types.specs.declared.prefix.Prefix.{Prefix}
use Rattle.ospf_types.specs.declared.key.Key.{Key}
use Rattle.ospf_types.specs.declared.key.Scope.{Scope}
use Rattle.ospf_types.specs.declared.key.Scope.TheVariants as scope
use Rattle.ospf_types.specs.Lsa.{Lsa, MaxAge, key_of}
use Rattle.ospf_types.specs.Overlaps.{overlaps_another}
use Rattle.lsdb.specs.Databases.{Database, all_aged, aged_out, is_older_than, is_same_as, is_full_for}
use Rattle.event_state.specs.declared.base.Base.{Base}
use Rattle.event_state.specs.declared.event.Event.{Event}
use Rattle.event_state.specs.declared.event.Event.TheVariants as event
use Rattle.event_state.specs.declared.limits.Limits.{Limits}
use Rattle.event_state.specs.declared.refusal.Refusal.{Refusal}
use Rattle.event_state.specs.declared.refusal.Refusal.TheVariants as refusal
use Rattle.event_state.specs.Bases.{most_serial, databases_in, interfaces_in}
use Rattle.event_state.specs.declared.ranges.RangeChange.{RangeChange}
use Rattle.event_state.specs.RangeEvents.{changed_ranges, ranges_of, is_one_too_many, with_changed_ranges}
use Rattle.event_state.specs.States.{State, serial_of, place_of, database_of, with_change, TellsChange}

-- ---- the tests, a line of the table of refusals each

-- the area of the scope, of the interface or of the range is not configured
abbrev pub lacks_area : State → Event → Bool
lacks_area s (event.Install at lsa) = is_none (place_of s.config.areas at)
lacks_area s (event.Flush at key) = is_none (place_of s.config.areas at)
lacks_area s (event.Purge at key) = is_none (place_of s.config.areas at)
lacks_area s (event.Interface id area address peer up) = is_none (place_of s.config.areas (scope.Area area))
lacks_area s (event.RangeSet area prefix advertise) = is_none (place_of s.config.areas (scope.Area area))
lacks_area s (event.RangeDrop area prefix) = is_none (place_of s.config.areas (scope.Area area))
lacks_area s event.Second = false

-- AS-external-LSAs belong to the AS, and all others belong to an area
abbrev pub is_out_of_scope : Scope → ℕ → Bool
is_out_of_scope (scope.Area id) kind = kind == 5
is_out_of_scope scope.As kind = not (kind == 5)

-- an AS-external-LSA's key for an area, or another one's for the AS
abbrev pub is_misplaced : Event → Bool
is_misplaced (event.Install at lsa) = is_out_of_scope at lsa.header.kind
is_misplaced (event.Flush at key) = is_out_of_scope at key.kind
is_misplaced (event.Purge at key) = is_out_of_scope at key.kind
is_misplaced (event.Interface id area address peer up) = false
is_misplaced (event.RangeSet area prefix advertise) = false
is_misplaced (event.RangeDrop area prefix) = false
is_misplaced event.Second = false

-- the instance that the database of the scope has under the key
abbrev pub held_at : State → Scope → Key → Option Lsa
held_at s at key = option_and_then (λ d. get d key) (database_of s at)

-- the database's instance is newer
abbrev pub is_older : State → Event → Bool
is_older s (event.Install at lsa) = is_older_than lsa (held_at s at (key_of lsa))
is_older s (event.Flush at key) = false
is_older s (event.Purge at key) = false
is_older s (event.Interface id area address peer up) = false
is_older s (event.RangeSet area prefix advertise) = false
is_older s (event.RangeDrop area prefix) = false
is_older s event.Second = false

-- the database has the same instance
abbrev pub is_repeated : State → Event → Bool
is_repeated s (event.Install at lsa) = is_same_as lsa (held_at s at (key_of lsa))
is_repeated s (event.Flush at key) = false
is_repeated s (event.Purge at key) = false
is_repeated s (event.Interface id area address peer up) = false
is_repeated s (event.RangeSet area prefix advertise) = false
is_repeated s (event.RangeDrop area prefix) = false
is_repeated s event.Second = false

-- the database has no LSA under the key
abbrev pub has_no_lsa : State → Event → Bool
has_no_lsa s (event.Install at lsa) = false
has_no_lsa s (event.Flush at key) = is_none (held_at s at key)
has_no_lsa s (event.Purge at key) = is_none (held_at s at key)
has_no_lsa s (event.Interface id area address peer up) = false
has_no_lsa s (event.RangeSet area prefix advertise) = false
has_no_lsa s (event.RangeDrop area prefix) = false
has_no_lsa s event.Second = false

-- the LSA to be aged prematurely is another router's
abbrev pub is_not_own : State → Event → Bool
is_not_own s (event.Install at lsa) = false
is_not_own s (event.Flush at key) = not (key.router == s.config.router)
is_not_own s (event.Purge at key) = false
is_not_own s (event.Interface id area address peer up) = false
is_not_own s (event.RangeSet area prefix advertise) = false
is_not_own s (event.RangeDrop area prefix) = false
is_not_own s event.Second = false

-- an LSA below MaxAge
abbrev pub is_below_max_age : Option Lsa → Bool
is_below_max_age None = false
is_below_max_age (Some l) = nat_lt l.header.age MaxAge

-- the LSA to be purged is not at MaxAge
abbrev pub is_young : State → Event → Bool
is_young s (event.Install at lsa) = false
is_young s (event.Flush at key) = false
is_young s (event.Purge at key) = is_below_max_age (held_at s at key)
is_young s (event.Interface id area address peer up) = false
is_young s (event.RangeSet area prefix advertise) = false
is_young s (event.RangeDrop area prefix) = false
is_young s event.Second = false

-- how many LSAs the database of a scope may hold
abbrev pub limit_of : Limits → Scope → ℕ
limit_of limits (scope.Area id) = limits.area_lsas
limit_of limits scope.As = limits.externals

-- the limits of a state unless others are given
abbrev pub standard_limits : Limits
standard_limits = record { area_lsas = 16384; externals = 65536; events = 1000000 }

-- the LSA has a new key, and the database, if there is one, is at its limit
abbrev pub is_full_in : ℕ → Lsa → Option Database → Bool
is_full_in limit lsa None = false
is_full_in limit lsa (Some d) = is_full_for d limit lsa

-- the LSA has a new key, and the database of the scope is at its limit
abbrev pub is_full : State → Event → Bool
is_full s (event.Install at lsa) = is_full_in (limit_of s.limits at) lsa (database_of s at)
is_full s (event.Flush at key) = false
is_full s (event.Purge at key) = false
is_full s (event.Interface id area address peer up) = false
is_full s (event.RangeSet area prefix advertise) = false
is_full s (event.RangeDrop area prefix) = false
is_full s event.Second = false

-- the journal has as many events as it may hold, or the last serial is given
abbrev pub is_journal_full : State → Bool
is_journal_full s = nat_le s.limits.events (length s.journal) || nat_le most_serial (serial_of s)

-- the interface is up and has this address, and its id is another one
abbrev pub has_address : ℕ → ℕ → ℕ × Interface → Bool
has_address id address e = not (e.0 == id) && (e.1.up && (e.1.address == address))

-- the interface is up, and another one that is up has its address
abbrev pub is_address_taken : State → Event → Bool
is_address_taken s (event.Install at lsa) = false
is_address_taken s (event.Flush at key) = false
is_address_taken s (event.Purge at key) = false
is_address_taken s (event.Interface id area address peer up) = up && list_any (has_address id address) (entries s.interfaces)
is_address_taken s (event.RangeSet area prefix advertise) = false
is_address_taken s (event.RangeDrop area prefix) = false
is_address_taken s event.Second = false

-- a range, with its Status: to be advertised, or not
abbrev pub range_with : Prefix → Bool → Range
range_with prefix advertise = record { prefix = prefix; advertise = advertise }

-- another range of the area covers the one to be set, or is covered by it
abbrev pub is_range_overlapping : State → Event → Bool
is_range_overlapping s (event.Install at lsa) = false
is_range_overlapping s (event.Flush at key) = false
is_range_overlapping s (event.Purge at key) = false
is_range_overlapping s (event.Interface id area address peer up) = false
is_range_overlapping s (event.RangeSet area prefix advertise) = overlaps_another (range_with prefix advertise) (ranges_of s.config.areas area)
is_range_overlapping s (event.RangeDrop area prefix) = false
is_range_overlapping s event.Second = false

-- the area has no range with the prefix of the one to be dropped
abbrev pub has_no_range : State → Event → Bool
has_no_range s (event.Install at lsa) = false
has_no_range s (event.Flush at key) = false
has_no_range s (event.Purge at key) = false
has_no_range s (event.Interface id area address peer up) = false
has_no_range s (event.RangeSet area prefix advertise) = false
has_no_range s (event.RangeDrop area prefix) = not (has_range prefix (ranges_of s.config.areas area))
has_no_range s event.Second = false

-- a range with a new prefix where the area has as many as it may
abbrev pub is_range_full : State → Event → Bool
is_range_full s (event.Install at lsa) = false
is_range_full s (event.Flush at key) = false
is_range_full s (event.Purge at key) = false
is_range_full s (event.Interface id area address peer up) = false
is_range_full s (event.RangeSet area prefix advertise) = is_one_too_many prefix (ranges_of s.config.areas area)
is_range_full s (event.RangeDrop area prefix) = false
is_range_full s event.Second = false

-- the interface is set up so
abbrev pub interface_event : (id : ℕ) → Interface → Event
interface_event id i = event.Interface id i.area i.address i.peer i.up

-- the range of the area is set
abbrev pub range_set_event : (area : ℕ) → Range → Event
range_set_event area range = event.RangeSet area range.prefix range.advertise

-- the table of refusals, in its order: the tests before that of the journal
abbrev pub early_tests_of : State → Event → List (Bool × Refusal)
early_tests_of s e =
    (lacks_area s e, refusal.NoArea)
    ∷ (is_misplaced e, refusal.Scope)
    ∷ (is_older s e, refusal.Older)
    ∷ (is_repeated s e, refusal.Same)
    ∷ (has_no_lsa s e, refusal.NoLsa)
    ∷ (is_not_own s e, refusal.NotOwn)
    ∷ (is_young s e, refusal.NotMaxAge)
    ∷ (is_full s e, refusal.Full)
    ∷ []

-- and those after it
abbrev pub late_tests_of : State → Event → List (Bool × Refusal)
late_tests_of s e =
    (is_address_taken s e, refusal.AddressTaken)
    ∷ (is_range_overlapping s e, refusal.RangeOverlaps)
    ∷ (has_no_range s e, refusal.NoRange)
    ∷ (is_range_full s e, refusal.RangeFull)
    ∷ []

-- the whole table, with the test of the journal in its place
abbrev pub tests_of : State → Event → List (Bool × Refusal)
tests_of s e = early_tests_of s e ++ (is_journal_full s, refusal.JournalFull) ∷ late_tests_of s e

-- the first refusal of the table that holds, or `None` if the event is taken
abbrev pub refusal_of : State → Event → Option Refusal
refusal_of s e = first_of (tests_of s e)

-- the first refusal that does not rest on how many events were taken
abbrev pub lasting_refusal_of : State → Event → Option Refusal
lasting_refusal_of s e = first_of (early_tests_of s e ++ late_tests_of s e)

-- what is known of an event that is taken, whatever the journal
pub record IsAccepted (s : State) (e : Event) : Type 0 where
  pub placed : is_misplaced e ≡ false
  pub newer : is_older s e ≡ false
  pub differs : is_repeated s e ≡ false
  pub there : has_no_lsa s e ≡ false
  pub area : lacks_area s e ≡ false
  pub aged : is_young s e ≡ false
  pub room : is_full s e ≡ false
  pub apart : is_address_taken s e ≡ false
  pub clear : is_range_overlapping s e ≡ false
  pub present : has_no_range s e ≡ false
  pub few : is_range_full s e ≡ false

-- ---- what an event does

-- the interface is under the id
abbrev pub with_interface : State → ℕ → Interface → State
with_interface s id i = record s { interfaces = insert s.interfaces id i }

-- the ranges of the area are changed so
abbrev pub with_range_change : State → ℕ → (List Range → List Range) → State
with_range_change s area change = record s { config = with_changed_ranges s.config area change }

-- a range of the area is set or dropped
abbrev pub with_ranges_by : State → (area : ℕ) → RangeChange → State
with_ranges_by s area change = with_range_change s area (changed_ranges change)

-- the databases, the interfaces and the ranges after the event
abbrev pub changed_by : State → Event → State
changed_by s (event.Install at lsa) = with_change s at (λ d. insert d (key_of lsa) lsa)
changed_by s (event.Flush at key) = with_change s at (λ d. aged_out d key)
changed_by s (event.Purge at key) = with_change s at (λ d. remove d key)
changed_by s (event.Interface id area address peer up) = with_interface s id (record { area = area; address = address; peer = peer; up = up })
changed_by s (event.RangeSet area prefix advertise) = with_range_change s area (set_range (range_with prefix advertise))
changed_by s (event.RangeDrop area prefix) = with_range_change s area (drop_range prefix)
changed_by s event.Second = record s { databases = map all_aged s.databases }

-- the result is false exactly if the state looks alike after the event
abbrev pub TellsChangeBy : State → Event → (changed : Bool) → Type 0
TellsChangeBy s e changed = TellsChange s (changed_by s e) changed

-- the result is false exactly if the state looks alike with the interface
abbrev pub TellsInterfaceChange : State → (id : ℕ) → Interface → (changed : Bool) → Type 0
TellsInterfaceChange s id i changed = TellsChange s (with_interface s id i) changed

-- the result is false exactly if the state looks alike after the change of ranges
abbrev pub TellsRangeChange : State → (area : ℕ) → RangeChange → (changed : Bool) → Type 0
TellsRangeChange s area change changed = TellsChange s (with_ranges_by s area change) changed

-- the state after an event that is taken
abbrev pub step : State → Event → State
step s e = record (changed_by s e) { journal = s.journal ++ e ∷ [] }

-- ---- runs

-- the databases and interfaces of the base, and no event
abbrev pub opening : Base → Limits → State
opening base limits = record {
  base = base;
  config = base.config;
  limits = limits;
  databases = databases_in base.lsas base.config.areas;
  interfaces = interfaces_in base.interfaces;
  journal = [];
}

-- the state after these events
abbrev pub run_from : State → List Event → State
run_from s [] = s
run_from s (e ∷ es) = run_from (step s e) es

-- the state after these events, from the base on
abbrev pub run_of : Base → Limits → List Event → State
run_of base limits events = run_from (opening base limits) events

-- each of these events is taken in its turn, however many the journal may hold
abbrev pub AreTaken : State → List Event → Type 0
AreTaken s [] = Unit {0}
AreTaken s (e ∷ es) = (lasting_refusal_of s e ≡ None) × AreTaken (step s e) es

-- a list of events of which each is taken in its turn, from the base on
abbrev pub IsLegalList : Base → Limits → List Event → Type 0
IsLegalList base limits events = AreTaken (opening base limits) events

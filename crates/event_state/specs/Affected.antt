-- The LSAs that an event names.
use Rattle.std.specs.Prelude.{◌≡◌, Bool, true, false, List, Contains, Option, Some, None, map}
use Rattle.ospf_types.specs.declared.key.Key.{Key}
use Rattle.ospf_types.specs.declared.key.Scope.{Scope}
use Rattle.ospf_types.specs.Lsa.{Lsa}
use Rattle.lsdb.specs.Databases.{comes_to_max_age}
use Rattle.event_state.specs.declared.event.Event.{Event}
use Rattle.event_state.specs.States.{State, usable_at}
use Rattle.event_state.specs.Steps.{held_at, step}

-- there is an LSA, and a second brings it to MaxAge
abbrev pub comes_next : Option Lsa → Bool
comes_next None = false
comes_next (Some l) = comes_to_max_age l

-- a second brings the LSA under the key to MaxAge
abbrev pub comes_at : State → Scope → Key → Bool
comes_at s at key = comes_next (held_at s at key)

-- each LSA of the scope that a second brings to MaxAge is named
abbrev pub AreListed : List (Scope × Key) → State → Scope → Type 0
AreListed named s at = (key : Key) → comes_at s at key ≡ true → Contains named (at, key)

-- what the first list has, the second has too
abbrev pub IsAmong : List (Scope × Key) → List (Scope × Key) → Type 0
IsAmong some all = (x : Scope × Key) → Contains some x → Contains all x

-- the event brings no other LSA into use, takes none out of use, and changes none
abbrev pub NamesAll : State → Event → List (Scope × Key) → Type 0
NamesAll s e named = (at : Scope) (key : Key) → (Contains named (at, key) → ⊥) → usable_at (step s e) at key ≡ usable_at s at key

-- each key with the scope
abbrev pub with_scope : Scope → List Key → List (Scope × Key)
with_scope at keys = map (λ key. (at, key)) keys

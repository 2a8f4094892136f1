-- The interfaces of a base in the order of their ids, and its LSAs in that of their scopes and
-- keys.
use Rattle.std.specs.Prelude.{◌&&◌, Bool, true, List, [], ◌∷◌, ℕ, nat_lt}
use Rattle.std.specs.Ordering.{ordering_then, is_lt}
use Rattle.std.specs.declared.cmp.Ordering.{Ordering}
use Rattle.ospf_types.specs.declared.config.Interface.{Interface}
use Rattle.ospf_types.specs.declared.key.Scope.{Scope}
use Rattle.ospf_types.specs.Keys.{key_cmp, scope_cmp}
use Rattle.ospf_types.specs.Lsa.{Lsa, key_of}
use Rattle.event_state.specs.declared.base.Base.{Base}
use Rattle.event_state.specs.declared.base_checks.ScopedKey.{ScopedKey}

abbrev pub scoped_key : Scope × Lsa → ScopedKey
scoped_key x = record { scope = x.0; key = key_of x.1 }

-- by scope, and then by key
abbrev pub scoped_cmp : ScopedKey → ScopedKey → Ordering
scoped_cmp a b = ordering_then (scope_cmp a.scope b.scope) (key_cmp a.key b.key)

-- the LSA comes before the first of the others, where there is one
abbrev pub is_before_first : Scope × Lsa → List (Scope × Lsa) → Bool
is_before_first x [] = true
is_before_first x (y ∷ lsas) = is_lt (scoped_cmp (scoped_key x) (scoped_key y))

-- each LSA comes before the next one
abbrev pub is_ascending : List (Scope × Lsa) → Bool
is_ascending [] = true
is_ascending (x ∷ lsas) = is_before_first x lsas && is_ascending lsas

-- the interface comes before the first of the others, where there is one
abbrev pub is_before_first_id : ℕ × Interface → List (ℕ × Interface) → Bool
is_before_first_id x [] = true
is_before_first_id x (y ∷ interfaces) = nat_lt x.0 y.0

-- each interface comes before the next one
abbrev pub ids_ascend : List (ℕ × Interface) → Bool
ids_ascend [] = true
ids_ascend (x ∷ interfaces) = is_before_first_id x interfaces && ids_ascend interfaces

-- interfaces and LSAs both ascend
abbrev pub is_ordered : Base → Bool
is_ordered b = ids_ascend b.interfaces && is_ascending b.lsas

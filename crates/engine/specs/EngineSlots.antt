-- The slot next to the lock: an engine's state in it has the slot's name.
use Rattle.std.specs.Prelude.{◌≡◌, ◌≢◌, ℕ, [], ◌∷◌, Option, IfSome}
use mathlib.Core.Option.{some}
use Rattle.atomic_table.specs.Table.{State, Step, Me}
use Rattle.engine.specs.EngineStates.{Held}
use Rattle.publication.specs.Names.{Name}

abbrev pub FitsSlot : Name → Option Held → Type 0
FitsSlot name slot = IfSome slot (λ d. d.name ≡ name)

-- the slot is at home if the word is 0
abbrev pub Locks : Name → State (Option Held) Name → Type 0
Locks name s = (n : ℕ) × (s.words ≡ n ∷ []) × (n ≡ 0 → (x : Option Held) × (s.homes ≡ some x ∷ []) × FitsSlot name x)

-- a swap that finds 0 takes the slot
abbrev pub Took : Step (Option Held) → Me (Option Held) Name → ℕ → Me (Option Held) Name → Type 0
Took st m n m' = (n ≡ 0 → (x : Option Held) × (m'.1 ≡ (0, x) ∷ []) × FitsSlot m.0 x) × (n ≢ 0 → m'.1 ≡ [])

-- a store gives it back
abbrev pub Gave : Step (Option Held) → Me (Option Held) Name → ℕ → Me (Option Held) Name → Type 0
Gave st m n m' = (x : ℕ × Option Held) → m.1 ≡ x ∷ [] → m'.1 ≡ []

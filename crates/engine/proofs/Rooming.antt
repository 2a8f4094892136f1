-- The steps of the slot next to the lock keep its rule.
use Rattle.std.proofs.Common.{◌≡◌, ℕ, zero, suc, List, [], ◌∷◌, Option, set, length, slice_index, refl, sym, ap, ◌∙◌, subst, arith}
use mathlib.Core.Option.{some, none}
use lib.ListN.{get_elem?}
use Rattle.atomic_table.specs.Table.{State, Me, Arrives, Allows, keeps, takes, gives, step, Act, Valid, homes_after, carried_after}
use Rattle.engine.specs.EngineStates.{Held}
use Rattle.publication.specs.Names.{Name}
use Rattle.engine.specs.EngineSlots.{FitsSlot, Locks, Took, Gave}

abbrev Lot : Type 0
Lot = State (Option Held) Name

by_word : (name : Name) (slots : ℕ) (s : Lot) (n : ℕ) → s.words ≡ n ∷ [] → (n ≡ 0 → (x : Option Held) × (s.homes ≡ some x ∷ []) × FitsSlot name x)
    → (w : Name) × (a : Act (Option Held)) × Valid s.homes [] a
    × Locks name (record { words = set s.words 0 1; homes = homes_after s.homes [] a; views = s.views })
    × Took (step slots 0 1 0 none) (name, []) (slice_index s.words 0) (w, carried_after [] a)
by_word name slots s zero words home =
    let t = home refl in
    let here : slice_index s.words 0 ≡ 0 = ap (λ (ws : List ℕ). slice_index ws 0) words in (
      name,
      takes 0 t.0,
      ap (λ hs. get_elem? hs 0) t.1,
      (1, ap (λ (ws : List ℕ). set ws 0 1) words, (λ one. absurd (omega arith))),
      ((λ _. (t.0, refl, t.2)), (λ other. absurd (other here))),
    )
by_word name slots s (suc k) words home =
    let here : slice_index s.words 0 ≡ suc k = ap (λ (ws : List ℕ). slice_index ws 0) words in (
      name,
      keeps,
      tt,
      (1, ap (λ (ws : List ℕ). set ws 0 1) words, (λ one. absurd (omega arith))),
      ((λ no. absurd (omega arith)), (λ _. refl)),
    )

-- a swap takes the slot where it is at home
pub takes_slot : (name : Name) (slots : ℕ) → Arrives (Locks name) slots 0 (λ _. 1) (Took (step slots 0 1 0 none) (name, []))
takes_slot name slots s h deep small = by_word name slots s h.0 h.1 h.2

set_one : {A : Type 0} (xs : List A) (y : A) → length xs ≡ 1 → set xs 0 y ≡ y ∷ []
set_one [] y one = absurd (omega arith)
set_one (x ∷ []) y one = refl
set_one (x ∷ z ∷ xs) y one = absurd (omega arith)

set_word : (ws : List ℕ) (n : ℕ) → ws ≡ n ∷ [] → set ws 0 0 ≡ 0 ∷ []
set_word ws n is = ap (λ (l : List ℕ). set l 0 0) is

-- a store gives it back
pub gives_slot : (name v : Name) (slots id : ℕ) (x : Option Held) → slots ≡ 1 → FitsSlot name x
    → Allows (Locks name) slots id (v, (0, x) ∷ []) 0 (λ _. 0) (λ _. Gave (step slots 0 0 0 none) (v, (0, x) ∷ []) 0)
gives_slot name v slots id x one fits s h deep at small =
    (v, gives, tt, (0, set_word s.words h.0 h.1, (λ _. (x, set_one s.homes (some x) (deep ∙ one), fits))), (λ y e. refl))

pub gives_slot_as : (name v : Name) (slots id : ℕ) (x : Option Held) (me : Me (Option Held) Name) → me ≡ (v, (0, x) ∷ []) → slots ≡ 1 → FitsSlot name x
    → Allows (Locks name) slots id me 0 (λ _. 0) (λ _. Gave (step slots 0 0 0 none) me 0)
gives_slot_as name v slots id x me is one fits =
    subst (λ (m : Me (Option Held) Name). Allows (Locks name) slots id m 0 (λ _. 0) (λ _. Gave (step slots 0 0 0 none) m 0)) (sym is) (gives_slot name v slots id x one fits)

-- The events of a worker pass a gate.
use Rattle.std.specs.Prelude.{ℕ, ◌+◌, List, [], ◌∷◌, Result, IfOk}
use Rattle.engine.specs.declared.answer.Answer.{Answer}
use Rattle.engine.specs.declared.answer.Refused.{Refused}

-- the fact of a gate after a method of it was called with a worker and a place
abbrev pub Calls : Type 1
Calls = ℕ → ℕ → Type 0

-- it was called before and after, and inside if the event was taken
pub record HasPassed (came passed left : Calls) (worker place : ℕ) (answer : Result Answer Refused) : Type 0 where
  pub before : came worker place
  pub inside : IfOk answer (λ a. passed worker place)
  pub after : left worker place

-- each event from this place on
abbrev pub HavePassed : Calls → Calls → Calls → ℕ → ℕ → List (Result Answer Refused) → Type 0
HavePassed came passed left worker place [] = Unit {0}
HavePassed came passed left worker place (r ∷ rs) = HasPassed came passed left worker place r × HavePassed came passed left worker (place + 1) rs

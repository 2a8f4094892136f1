-- The elements of a list, and the greatest of some numbers.
use Rattle.std.specs.Prelude.{ℕ, ◌≡◌, ◌↔◌, ◌<◌, Option, Some}
use Rattle.ospf_types.specs.Summaries.{IsGreatest}
pub use Rattle.route_choice.specs.Lists.{ListsExactly, HasMore}

-- the greatest of these numbers that are below the limit, if there is one
abbrev pub IsGreatestBelow : ℕ → (ℕ → Type 0) → Option ℕ → Type 0
IsGreatestBelow limit these result = (n : ℕ) → (result ≡ Some n) ↔ IsGreatest (λ c. these c × (c < limit)) n

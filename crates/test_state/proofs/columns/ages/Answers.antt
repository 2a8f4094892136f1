use Rattle.std.proofs.Common.{ℕ, ◌≤◌, replicate, arith}
use Rattle.std.proofs.lemmas.List.Elements.{All-set, All-replicate}
use Rattle.lanes.specs.Ages.{MaxAge}
use Rattle.test_state.proofs.columns.ages.Goals as goal

pub returns : goal.returns
returns c = All-set (λ (age : ℕ). age ≤ MaxAge) (replicate 65 10) 64 3599 (omega arith) (All-replicate (λ (age : ℕ). age ≤ MaxAge) 65 10 (omega arith))

use Rattle.std.proofs.Common.{ℕ, ◌-◌, ◌≤◌, drop}
use Rattle.std.proofs.lemmas.List.Elements.{All-take, All-drop}
use Rattle.lanes.specs.Ages.{MaxAge}
use Rattle.test_state.proofs.columns.ages_by_one.Goals as goal

pub second-came-requires : goal.second-came-requires
second-came-requires c =
    let from = c.saturating_sub.result in
    let ages = c.ages-ages.result in
    All-take (λ (age : ℕ). age ≤ MaxAge) (65 - from) (drop from ages) (All-drop (λ (age : ℕ). age ≤ MaxAge) from ages c.ages-ages.ensures)

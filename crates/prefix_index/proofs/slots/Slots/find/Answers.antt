use Rattle.std.proofs.Common.{ℕ, ◌+◌, ap}
use Rattle.prefix_index.proofs.Lookups.{placed_as}
use Rattle.prefix_index.proofs.slots.Slots.find.Goals as goal

pub returns-clause-missing : goal.returns-clause-missing
returns-clause-missing g c = λ none i has placed.
    c.probe.ensures.missing none i has (placed_as c.as_slice.ensures.value c.home-home.ensures.value (ap (λ (n : ℕ). n + i) c.base-base.ensures.value) placed)

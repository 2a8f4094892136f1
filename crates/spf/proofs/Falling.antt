-- The number that falls in each round of losing support.
use Rattle.std.proofs.Common.{◌≡◌, ℕ, ◌+◌, ◌-◌, ◌*◌, ◌<◌, ◌≤◌, ◌⊎◌, inl, inr, arith}

-- Of n vertices, each suspected at most once at a time: a round with one more lost, or with one
-- suspect less, lowers this number.
pub lose_support_falls : (n lost more suspects again : ℕ) → more ≤ n → again ≤ n → (lost + 1 ≡ more) ⊎ ((lost ≡ more) × (again < suspects)) → (n - more) * (n + 1) + again < (n - lost) * (n + 1) + suspects
lose_support_falls n lost more suspects again lost_in waits (inl one) =
    let gap : n - lost ≡ (n - more) + 1 = omega arith in
    rw gap (omega arith)
lose_support_falls n lost more suspects again lost_in waits (inr w) = rw w.0 (omega arith)

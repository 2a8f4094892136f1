-- Masks. Addresses are numbers below 2 ^ 32.
use Rattle.std.specs.Prelude.{ℕ, ◌-◌, ◌*◌, ◌/◌, ◌^◌, count_ones}

-- the address with the bits past the length set to zero
abbrev pub masked : ℕ → ℕ → ℕ
masked address length = address / 2 ^ (32 - length) * 2 ^ (32 - length)

-- how many ones a mask of ones and then zeros has
abbrev pub mask_length : ℕ → ℕ
mask_length mask = count_ones mask

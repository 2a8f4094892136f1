-- A word that has no advice.
use Rattle.std.proofs.Common.{ℕ, ◌≡◌, ◌∙◌, List, Option, Some, None, IsNone, option_map, ap, sym, arith}
use Rattle.std.specs.Borrow.{Bor}
use Rattle.std.proofs.lemmas.Fmt.{decimal_injective}
use Rattle.cli_queries.specs.Advice.{advice_of}
use Rattle.cli_queries.specs.Writing.{WritesNumber}
use Rattle.cli_queries.specs.Number.{HasNoAdvice}

-- a word writes one number
one_number : (word : List ℕ) (m n : ℕ) → WritesNumber word m → WritesNumber word n → m ≡ n
one_number word m n h k = decimal_injective m n (omega (arith, h.within)) (omega (arith, k.within)) (sym h.spelled ∙ k.spelled)

pub no_advice : (word : List ℕ) (n : ℕ) (found : Option (Bor (List ℕ))) → WritesNumber word n → option_map (λ t. t.now) found ≡ advice_of n → IsNone found → HasNoAdvice word
no_advice word n None h e none = λ m k. ap advice_of (one_number word m n k h) ∙ sym e
no_advice word n (Some text) h e none = cc

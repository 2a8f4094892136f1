-- One more event of a worker passes its gate.
use Rattle.std.proofs.Common.{◌≡◌, ℕ, ◌+◌, List, [], ◌∷◌, ◌++◌, Result, length, subst, arith}
use Rattle.engine.specs.declared.answer.Answer.{Answer}
use Rattle.engine.specs.declared.answer.Refused.{Refused}
use Rattle.engine.specs.Gates.{Calls, HasPassed, HavePassed}

module _ (came passed left : Calls) (worker : ℕ) where
  pub passed_more : (place : ℕ) (rs : List (Result Answer Refused)) (r : Result Answer Refused) → HavePassed came passed left worker place rs → HasPassed came passed left worker (place + length rs) r
      → HavePassed came passed left worker place (rs ++ r ∷ [])
  passed_more place [] r all one =
      let here : place + 0 ≡ place = omega arith in (subst (λ (n : ℕ). HasPassed came passed left worker n r) here one, tt)
  passed_more place (x ∷ rs) r all one =
      let here : place + length (x ∷ rs) ≡ (place + 1) + length rs = omega arith in
      (all.0, passed_more (place + 1) rs r all.1 (subst (λ (n : ℕ). HasPassed came passed left worker n r) here one))

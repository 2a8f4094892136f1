-- Items that are copied one after the other to the front of a list.
use Rattle.std.proofs.Common.{◌≡◌, ℕ, ◌+◌, ◌<◌, ◌≤◌, List, [], ◌∷◌, ◌++◌, length, get_or, take, drop, set, sym, ap, ◌∙◌, arith}
use Rattle.std.proofs.lemmas.Grind.{drop_more_same}
use Rattle.std.proofs.lemmas.List.{drop-drop, drop-set-lt, drop_more, take-append-drop, take_all, take_more, take_more_set}
use Rattle.abr_c.specs.Given.{copied}

module _ {X : Type 0} (all before out : List X) (n : ℕ) where
  -- the next one is written after those that are there
  pub next_written : (x : X) (more : List X) → take n out ≡ take n all → x ∷ more ≡ drop n all → n < length out → n < length all → take (n + 1) (set out n x) ≡ take (n + 1) all
  next_written x more so_far left in_out in_all =
      let is_x : get_or all n x ≡ x = ap (λ xs. get_or xs 0 x) (sym (drop_more all n x in_all) ∙ sym left) in
      take_more_set out n x in_out ∙ ap (λ xs. xs ++ x ∷ []) so_far ∙ ap (λ y. take n all ++ y ∷ []) (sym is_x) ∙ sym (take_more all n x in_all)

  pub behind_stays : (x : X) → drop n out ≡ drop n before → drop (n + 1) (set out n x) ≡ drop (n + 1) before
  behind_stays x rest = drop-set-lt (n + 1) out n x (omega arith) ∙ drop_more_same out before n rest

  pub one_less_left : (x : X) (more : List X) → x ∷ more ≡ drop n all → more ≡ drop (n + 1) all
  one_less_left x more left = ap (λ xs. drop 1 xs) left ∙ drop-drop 1 n all

  -- all are written
  pub all_written : take n out ≡ take n all → drop n out ≡ drop n before → (length all ≤ n) → n ≤ length all → n ≤ length before → out ≡ copied all before
  all_written so_far rest most least room =
      let is_n : n ≡ length all = omega arith in
      sym (take-append-drop n out) ∙ (λ i. so_far i ++ rest i) ∙ ap (λ k. take n all ++ drop k before) is_n ∙ ap (λ xs. xs ++ drop (length all) before) (take_all n all (omega arith) ∙ sym (take_all (length before) all (omega arith)))

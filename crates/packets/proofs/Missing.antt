-- How many places are empty.
use Rattle.std.proofs.Common.{◌≡◌, ℕ, ◌+◌, ◌*◌, Bool, true, false, cond, not, eqb, List, [], ◌∷◌, ◌++◌, take, drop, replicate, refl, ap, ◌∙◌, arith}
use Rattle.std.specs.List.{list_all, sum_by}
use Rattle.std.proofs.lemmas.List.{drop-drop}
use Rattle.std.proofs.lemmas.List.Sums.{sum_by-append, sum_by-take-drop}
use Rattle.std.proofs.lemmas.List.Folds.{sum_by-replicate, sum_by-zero}
use Rattle.packets.specs.Kept.{count_missing}

abbrev one_if_not : Bool → ℕ
one_if_not came = cond (not came) 1 0

-- this many places at the offset are filled
pub count_marked : (offset count : ℕ) (came : List Bool) → count_missing (take offset came ++ replicate count true ++ drop (offset + count) came) + count_missing (take count (drop offset came)) ≡ count_missing came
count_marked offset count came =
    let front : List Bool = take offset came in
    let marks : List Bool = replicate count true in
    let back : List Bool = drop (offset + count) came in
    let none : sum_by one_if_not marks ≡ count * 0 = sum_by-replicate one_if_not count true in
    let rest : sum_by one_if_not (drop count (drop offset came)) ≡ sum_by one_if_not back = ap (sum_by one_if_not) (drop-drop count offset came) in
    omega (arith, sum_by-append one_if_not (front ++ marks) back, sum_by-append one_if_not front marks, sum_by-take-drop one_if_not came offset, sum_by-take-drop one_if_not (drop offset came) count)

same_tests : (came : List Bool) → list_all (λ c. eqb (one_if_not c) 0) came ≡ list_all (λ c. c) came
same_tests [] = refl
same_tests (true ∷ came) = same_tests came
same_tests (false ∷ came) = refl

pub none_missing : (came : List Bool) → eqb (count_missing came) 0 ≡ list_all (λ c. c) came
none_missing came = sum_by-zero one_if_not came ∙ same_tests came

use Rattle.std.proofs.Common.{ℕ, ◌≡◌, ◌≢◌, ◌<◌, List, [], ap, ◌∙◌, arith, length, lit<, sym, take, length-take, vec_len}
use Rattle.std.proofs.lemmas.Bool.{eqb-true}
use Rattle.std.proofs.lemmas.List.{nil_from_length}
use Rattle.input_reading.specs.declared.line.TheConstants.{LONGEST}
use Rattle.input_reading.proofs.reader.end_line.Goals as goal

-- where nothing is in the line, nothing was taken
nothing : (limit : ℕ) (raw line : List ℕ) → 0 < limit → line ≡ take limit raw → length line ≡ 0 → raw ≡ []
nothing limit raw line some front none =
    let short : length (take limit raw) ≡ 0 = ap length (sym front) ∙ none in
    let empty : length raw ≡ 0 = omega (arith, length-take limit raw) in
    nil_from_length raw empty

pub returns-then-is_empty : goal.returns-then-is_empty
returns-then-is_empty c = λ raw was.
    let none : length c.args.line.now.items ≡ 0 = sym c.args.line.now.ok.0 ∙ eqb-true (vec_len c.args.line.now) 0 (sym c.if-is_empty.ensures) in
    (nothing LONGEST raw c.args.line.now.items (lit< tt) was.front none, nil_from_length c.args.line.now.items none)

pub returns : goal.returns
returns c = λ raw was.
    let some : length c.args.line.now.items ≢ 0 = grind arith in
    (λ none. some (ap length (was.front ∙ ap (take LONGEST) none)), c.in_ok-finish.ensures raw was)

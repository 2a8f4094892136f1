use Rattle.std.proofs.Common.{ℕ, ◌≡◌, ◌+◌, ◌-◌, List, [], ◌∷◌, length, take, drop, sym, ap, subst, ◌∙◌, arith}
use Rattle.std.proofs.lemmas.List.{take_rest, drop-drop}
use Rattle.recording.specs.Faults.{parts_of}
use Rattle.recording.proofs.Cutting.{first_cut, no_cut}
use Rattle.recording.proofs.reader.Lines.next.Goals as goal

pub returns-in_err-end-clause-none : goal.returns-in_err-end-clause-none
returns-in_err-end-clause-none c = λ none.
    let rest = take_rest c.args.self.text.now c.args.self.start in
    subst (λ (t : List ℕ). parts_of t ≡ t ∷ []) rest (no_cut (take (length c.args.self.text.now - c.args.self.start) (drop c.args.self.start c.args.self.text.now)) 10 c.in_err-end.ensures)

pub returns-clause-line : goal.returns-clause-line
returns-clause-line c =
    let text : List ℕ = c.args.self.text.now in
    let start : ℕ = c.args.self.start in
    let end : ℕ = c.in_ok-end.end in
    let rest = take_rest text start in
    let left : List ℕ = take (length text - start) (drop start text) in
    let cut = first_cut left 10 end c.in_ok-end.ensures in
    let sum : start + (end + 1) ≡ start + end + 1 = omega arith in
    let behind : drop (end + 1) left ≡ drop (start + end + 1) text = ap (drop (end + 1)) rest ∙ drop-drop (end + 1) start text ∙ ap (λ (n : ℕ). drop n text) sum in
    ap parts_of (sym rest) ∙ cut ∙ ap (λ (t : List ℕ). take end left ∷ parts_of t) behind

use Rattle.std.proofs.Common.{ℕ, ◌≡◌, ◌+◌, ◌-◌, ◌≤◌, List, length, take, drop, slice_range, sym, ap, ◌∙◌, arith, length-take, drop-drop}
use Rattle.std.proofs.lemmas.List.{drop-take}
use Rattle.input_reading.proofs.reader.LineReader.pass.Goals as goal

further : (xs left : List ℕ) (start end count : ℕ) → slice_range xs start end ≡ left → count ≤ length left → slice_range xs (start + count) end ≡ drop count left
further xs left start end count is within =
    let rest = end - (start + count) in
    let same : length (take (end - start) (drop start xs)) ≡ length left = ap length is in
    let whole : count + rest ≡ end - start = omega (arith, length-take (end - start) (drop start xs)) in
    ap (take rest) (sym (drop-drop count start xs)) ∙ sym (drop-take count rest (drop start xs)) ∙ ap (λ k. drop count (take k (drop start xs))) whole ∙ ap (drop count) is

pub returns : goal.returns
returns c = further c.self.inside.window.items c.args.self.now c.self.inside.start c.self.inside.end c.args.count c.self.view_is c.requires

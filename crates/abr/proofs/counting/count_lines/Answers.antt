use Rattle.std.proofs.Common.{◌≡◌, ◌∙◌, ◌+◌, sym, ap, subst, arith, take}
use Rattle.abr.specs.Counting.{line_feeds}
use Rattle.abr.proofs.Counted.{Counted, kept, more}
use Rattle.abr.proofs.counting.count_lines.Goals.{in-Ok+in_ok-lines-in-Ok, in-Err}
use Rattle.abr.proofs.counting.count_lines.Goals as goal

pub loop-preserved : goal.loop-preserved
loop-preserved g c =
    let before = g.R.Read.remaining c.args.input.now in
    let old = g.R.Read.remaining c.loop.input in
    let new = g.R.Read.remaining c.read.new.self in
    let so_far = c.loop.invariant.0 in (
      elim c.match-read.branch [
        | in-Ok+in_ok-lines-in-Ok w ↦ (
            let piece = take w.in-Ok.count c.read.new.buf in
            let sum : w.in_ok-lines-in-Ok.lines ≡ c.loop.lines + line_feeds piece = w.in_ok-lines-in-Ok.ensures.1 ∙ ap (λ n. c.loop.lines + n) w.line_feeds.ensures in
            subst (λ n. Counted before new n) (sym (w.lines-is ∙ sum)) (more before old new c.loop.lines piece so_far w.in-Ok.ensures.bytes.0))
        | in-Err w ↦ subst (λ n. Counted before new n) (sym w.lines-is) (kept before old new c.loop.lines so_far w.in-Err.ensures.bytes)
      ],
      omega (arith, c.read.auto.buf, c.loop.invariant.1),
    )

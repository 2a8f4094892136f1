use Rattle.std.proofs.Common.{◌≡◌, ◌∙◌, Bool, true, false, sym}
use Rattle.change_log.proofs.Comes.{last_taken, line_taken, none_taken}
use Rattle.change_log.proofs.OpeningSteps.{front_cut, front_ended, front_looked, front_more, front_over, looked_as, takes_as}
use Rattle.change_log.proofs.opening.read_opening.Goals as goal

differ : {b : Bool} → b ≡ true → b ≡ false → ⊥
differ is other = apart (sym is ∙ other)
  where
    apart : true ≡ false → ⊥
    apart e = cc

pub returns-in-Ok-Cut : goal.returns-in-Ok-Cut
returns-in-Ok-Cut g c =
    let last = last_taken _ c.in-Ok-Cut.ensures.taken c.in-Ok-Cut.field-0-is in
    let added = c.in_ok-add_cut-in-Ok-Cut.ensures in
    front_cut _ _ _ _ _ _ _ c.loop.invariant.read _ last _ _ _ added.ends added.front added.line

pub returns-in-Ok-End : goal.returns-in-Ok-End
returns-in-Ok-End g c = front_over _ _ _ _ _ _ _ c.loop.invariant.read _ _ _ c.loop.invariant.front (none_taken _ c.in-Ok-End.ensures.taken c.in-Ok-End.field-0-is)

pub returns-then-not-is_over : goal.returns-then-not-is_over
returns-then-not-is_over g c =
    let line = line_taken _ c.in-Ok-Line.ensures.taken c.in-Ok-Line.field-0-is in
    let added = c.in_ok-add-in-Ok-Line.ensures in
    front_ended _ _ _ _ _ _ _ c.loop.invariant.read _ line _ _ _ added.ends (λ over. differ (c.is_over.ensures.1 over) c.if-not-is_over.true) added.front added.line

pub returns-then-not-is_over-2 : goal.returns-then-not-is_over-2
returns-then-not-is_over-2 g c =
    let line = line_taken _ c.in-Ok-Line.ensures.taken c.in-Ok-Line.field-0-is in
    let added = c.in_ok-add-in-Ok-Line.ensures in
    let over = c.is_over.ensures.0 c.if-not-is_over.false in
    let read = front_more _ _ _ _ _ _ _ c.loop.invariant.read _ line _ _ added.ends over added.front in
    front_looked _ _ _ _ _ _ _ _ (takes_as c.args.lines.now c.next.new.self (g.R.Read.remaining c.args.input.now) (g.R.Read.remaining c.next.new.input) _ _ (sym c.look.ensures.front) read) (looked_as _ _ _ _ (sym c.look.ensures.front) c.look.ensures.end) over (λ e. differ (c.is_over-in-loop.ensures.1 e) c.if-not-is_over-2.true)

pub loop-preserved : goal.loop-preserved
loop-preserved g c =
    let line = line_taken _ c.in-Ok-Line.ensures.taken c.in-Ok-Line.field-0-is in
    let added = c.in_ok-add-in-Ok-Line.ensures in
    let over = c.is_over.ensures.0 c.if-not-is_over.false in
    let read = front_more _ _ _ _ _ _ _ c.loop.invariant.read _ line _ _ added.ends over added.front in
    record {
      front = c.is_over-in-loop.ensures.0 c.if-not-is_over-2.false;
      read = takes_as c.args.lines.now c.next.new.self (g.R.Read.remaining c.args.input.now) (g.R.Read.remaining c.next.new.input) _ _ (sym c.look.ensures.front) read;
    }

-- The elements added first are still there.
use Rattle.inter.proofs.follow.push_dest.Goals as goal

pub returns : goal.returns
returns c =
    let first = c.in_ok-push_led.ensures in
    let second = c.in_ok-push_behind.ensures in
    record {
      kept = λ d there. second.kept d (first.kept d there);
      itself = λ leads. second.kept c.args.dest.now (first.itself leads);
      behind = second.behind;
    }

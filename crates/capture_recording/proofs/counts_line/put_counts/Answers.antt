use Rattle.std.proofs.Common.{◌≡◌, ◌++◌, codes, refl}
use Rattle.std.specs.Prelude.{decimal}
use Rattle.capture_recording.specs.Counts.{counted}
use Rattle.capture_recording.proofs.Counted.{counts_printed}
use Rattle.capture_recording.proofs.counts_line.put_counts.Goals as goal

pub returns : goal.returns
returns c =
    let areas : decimal c.new-areas.result.number ++ codes " " ++ c.new-areas.result.word.now ≡ counted c.args.areas (codes "area") (codes "areas") =
    rw (c.new-areas.ensures.number, c.new-areas.ensures.word) refl in
    let seconds : decimal c.new-seconds.result.number ++ codes " " ++ c.new-seconds.result.word.now ≡ counted c.args.counts.seconds (codes "second") (codes "seconds") =
    rw (c.new-seconds.ensures.number, c.new-seconds.ensures.word) refl in
    counts_printed _ _ _ _ _ _ c.args.counts c.args.areas c.in_ok-push_str.ensures.bytes c.in_ok-put_found.ensures c.in_ok-writeln.ensures.bytes areas seconds

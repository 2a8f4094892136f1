use Rattle.std.proofs.Common.{◌≡◌, ◌+◌, ◌∙◌, arith, ap, length}
use Rattle.std.proofs.lemmas.Result.{IfOk-weaker}
use Rattle.replay.specs.Lines.{first_number}
use Rattle.replay.proofs.Advance.{shows_none}
use Rattle.page_replay.proofs.Ended.{ended, few_enough}
use Rattle.page_replay.proofs.ending.run_to_end.Goals as goal

pub returns-in_err-earlier-clause-progress : goal.returns-in_err-earlier-clause-progress
returns-in_err-earlier-clause-progress g c = shows_none _ _

pub tell_last-requires : goal.tell_last-requires
tell_last-requires g c =
    let opened = c.args.opened in
    let split = c.in_ok-earlier.ensures in
    let number : c.first_event_line-first.result + c.len.result ≡ first_number opened.version opened.core.base + length c.in_ok-earlier.earlier.lines.items =
    let counted = c.first_event_line-first.ensures ∙ ap (first_number opened.version) c.base.ensures.value in
    omega (arith, counted, c.len.ensures, c.in_ok-earlier.earlier.lines.ok.0) in
    few_enough opened.lines.items c.in_ok-earlier.earlier.lines.items c.in_ok-earlier.last.items (first_number opened.version opened.core.base) _ split.earlier split.last number opened.few

pub returns-clause-ended : goal.returns-clause-ended
returns-clause-ended g c =
    let opened = c.args.opened in
    let split = c.in_ok-earlier.ensures in
    let number : c.first_event_line-first.result + c.len.result ≡ first_number opened.version opened.core.base + length c.in_ok-earlier.earlier.lines.items =
    let counted = c.first_event_line-first.ensures ∙ ap (first_number opened.version) c.base.ensures.value in
    omega (arith, counted, c.len.ensures, c.in_ok-earlier.earlier.lines.ok.0) in
    IfOk-weaker c.tell_last.result _ _ (λ end told. ended opened.version opened.core c.in_ok-earlier.earlier.core c.in_ok-core.core end.core opened.lines.items c.in_ok-earlier.earlier.lines.items c.in_ok-earlier.last.items _ end.told.items
    split.core split.earlier split.last number c.in_ok-core.ensures.run told)
    c.tell_last.ensures

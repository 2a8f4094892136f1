use Rattle.std.proofs.Common.{◌+◌, ◌≤◌, length, refl, sym, ◌∙◌, arith}
use Rattle.std.proofs.lemmas.List.{nil_from_length}
use Rattle.std.specs.Vec.Iter.{into_iter_items}
use Rattle.replay.proofs.Written.{err_as}
use Rattle.change_log.proofs.RunSteps.{asked_line, asked_stop, telling_none, telling_more, telling_fits, telling_all, telling_page, telling_stopped}
use Rattle.change_log.proofs.running.print_line_changes.Goals as goal

pub loop-line-init : goal.loop-line-init
loop-line-init g c = record { wanted = refl; answers = refl; told = telling_none _ _ _ _ _ _ _ _ _ c.requires.kept c.requires.current refl (sym c.into_iter-line-iterator.ensures.into_iter_gives.0) }

pub tell_line-requires : goal.tell_line-requires
tell_line-requires g c = record { current = c.loop-line.invariant.told.current }

pub overflow_add-at : goal.overflow_add-at
overflow_add-at g c =
    let room : c.loop-line.at.number + 1 ≤ c.args.from.number + length c.args.lines.items = telling_fits _ _ _ _ _ _ _ _ _ _ _ _ _ _ c.loop-line.invariant.told c.in-Some.ensures.steps.0 in
    omega (arith, c.requires.few)

pub loop-line-preserved : goal.loop-line-preserved
loop-line-preserved g c = record {
  wanted = c.loop-line.invariant.wanted;
  answers = c.loop-line.invariant.answers;
  told =
      telling_more _ _ _ _ _ _ _ _ _ _ _ _ _ _ _ _ _ c.loop-line.invariant.told c.in-Some.ensures.steps.0
      (asked_line _ _ _ _ _ _ _ _ _ _ _ _ c.loop-line.invariant.wanted c.loop-line.invariant.answers c.in_ok-tell_line.ensures.ok) c.in_ok-tell_line.ensures.kept;
}

pub returns-in_err-tell_line-clause-err : goal.returns-in_err-tell_line-clause-err
returns-in_err-tell_line-clause-err g c =
    λ whole. err_as _ c.from_residual.result c.in_err-tell_line.field-0.0 c.from_residual.ensures.1
    (telling_stopped _ _ _ _ _ _ _ _ _ _ _ _ _ _ _ _ _ whole c.loop-line.invariant.told c.in-Some.ensures.steps.0
    (asked_stop _ _ _ _ _ _ _ _ _ _ _ _ c.loop-line.invariant.wanted c.loop-line.invariant.answers (c.in_err-tell_line.ensures.err (telling_page _ _ _ _ _ _ _ _ _ _ _ _ c.loop-line.invariant.told whole))))

pub returns-clause-ok : goal.returns-clause-ok
returns-clause-ok g c =
    telling_all _ _ _ _ _ _ _ _ _ _ _ _ c.loop-line.invariant.told (nil_from_length (into_iter_items c.loop-line.line-iterator) (sym c.loop-line.line-iterator.rest.ok.0 ∙ c.in-None.ensures.steps.0))

pub returns-clause-kept : goal.returns-clause-kept
returns-clause-kept g c = c.loop-line.invariant.told.core

pub returns-clause-current : goal.returns-clause-current
returns-clause-current g c = c.loop-line.invariant.told.current

use Rattle.std.proofs.Common.{refl}
use Rattle.replay.specs.Stops.{stop_of}
use Rattle.replay.proofs.Written.{err_as}
use Rattle.change_log.proofs.FollowSteps.{settled, tells_none, told_memory, told_stops}
use Rattle.change_log.proofs.following.Run.take.Goals as goal

pub returns-in_err-hand_on-clause-err : goal.returns-in_err-hand_on-clause-err
returns-in_err-hand_on-clause-err g c =
    let h = tells_none _ _ _ _ _ c.in_default.is c.in_ok-fault.ensures.ok in
    λ whole. err_as _ c.from_residual-in_err-hand_on.result (stop_of c.in_err-hand_on.field-0.0) c.from_residual-in_err-hand_on.ensures.1
    (told_stops _ _ _ _ _ _ h.0 whole c.in_err-hand_on.ensures.err)

pub returns-in_default-checked_add-clause-err : goal.returns-in_default-checked_add-clause-err
returns-in_default-checked_add-clause-err g c =
    let h = tells_none _ _ _ _ _ c.in_default.is c.in_ok-fault.ensures.ok in
    λ whole. told_memory _ _ _ _ _ _ h.0 c.in_ok-hand_on.ensures.ok whole

pub returns-clause-ok : goal.returns-clause-ok
returns-clause-ok g c =
    let h = tells_none _ _ _ _ _ c.in_default.is c.in_ok-fault.ensures.ok in
    settled _ c.tell.new.self _ _ _ _ h c.in_ok-hand_on.ensures.ok c.in-Some-checked_add.ensures.1 refl refl refl refl refl refl

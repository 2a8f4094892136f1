use Rattle.recording.proofs.Fields.{no_kind, no_id, no_router}
use Rattle.recording.proofs.words.Words.key.Goals as goal

pub returns-then-kind-eq0 : goal.returns-then-kind-eq0
returns-then-kind-eq0 c = no_kind _ _ _ c.in_ok-kind.ensures.1 c.if-kind-eq0.true

pub returns-in_err-id : goal.returns-in_err-id
returns-in_err-id c = rw c.from_residual-in_err-id.ensures (no_id _ _ _ c.in_ok-kind.ensures.1 c.in_err-id.ensures)

pub returns-in_err-router : goal.returns-in_err-router
returns-in_err-router c = rw c.from_residual-in_err-router.ensures (no_router _ _ _ _ _ c.in_ok-kind.ensures.1 c.in_ok-id.ensures.1 c.in_err-router.ensures)

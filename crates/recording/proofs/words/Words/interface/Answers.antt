use Rattle.std.proofs.Common.{arith}
use Rattle.recording.proofs.Saying.{same_rest}
use Rattle.recording.proofs.words.Words.interface.Goals as goal

pub returns-in_err-id : goal.returns-in_err-id
returns-in_err-id c = rw c.from_residual.ensures (λ x rest legal same. let small = legal.0 in c.in_err-id.ensures x.0 _ (omega (arith, small)) same)

pub returns-in_err-area : goal.returns-in_err-area
returns-in_err-area c =
    rw c.from_residual-in_err-area.ensures (λ x rest legal same. c.in_err-area.ensures x.1.area _ legal.1 (same_rest c.in_ok-id.ensures.1 same))

pub returns-in_err-address : goal.returns-in_err-address
returns-in_err-address c =
    rw c.from_residual-in_err-address.ensures
    (λ x rest legal same. c.in_err-address.ensures x.1.address _ legal.2 (same_rest c.in_ok-area.ensures.1 (same_rest c.in_ok-id.ensures.1 same)))

pub returns-in_err-peer : goal.returns-in_err-peer
returns-in_err-peer c =
    rw c.from_residual-in_err-peer.ensures
    (λ x rest legal same. c.in_err-peer.ensures x.1.peer _ legal.3 (same_rest c.in_ok-address.ensures.1 (same_rest c.in_ok-area.ensures.1 (same_rest c.in_ok-id.ensures.1 same))))

-- The matches that are not due stay.
use Rattle.external.proofs.update.Forwarding.update_forwards.Goals as goal

pub follow-requires : goal.follow-requires
follow-requires c = λ a absent. c.requires a (λ due. absent (c.in_ok-due.ensures a due))

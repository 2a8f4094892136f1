use Rattle.output_lines.proofs.Floats.{after_put, after_written}
use Rattle.output_lines.proofs.object.Object.put.Goals as goal

pub invariant_of-self : goal.invariant_of-self
invariant_of-self c = after_put _ _ _ _ _ c.put.ensures.ok c.put.ensures.err c.requires c.self.invariant

pub invariant_of-self-2 : goal.invariant_of-self-2
invariant_of-self-2 c = after_written _ _ _ _ c.in_ok-put.ensures.ok c.requires c.self.invariant

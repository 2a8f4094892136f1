-- Where it is a network.
use Rattle.std.proofs.Common.{sym, subst}
use Rattle.summaries.specs.Touched.{IsNetIn}
use Rattle.summaries.proofs.affected.is_covered.Goals as goal

pub returns-in-Net : goal.returns-in-Net
returns-in-Net c = (λ t. subst (IsNetIn c.args.prefix) (sym c.in-Net.is) (c.covers.ensures.0 t), λ n. c.covers.ensures.1 (subst (IsNetIn c.args.prefix) c.in-Net.is n))

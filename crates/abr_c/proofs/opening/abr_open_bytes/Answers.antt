use Rattle.std.proofs.Common.{inr, sym, subst}
use Rattle.abr_c.specs.Opening.{IsConfigRefusal}
use Rattle.abr_c.proofs.opening.abr_open_bytes.Goals as goal

pub returns-in-Err : goal.returns-in-Err
returns-in-Err c = inr (subst (IsConfigRefusal c.args.config.now) (sym c.refuse.ensures.number) c.in-Err.ensures.refused, c.refuse.ensures.none)

use Rattle.std.proofs.Common.{sym, ap, ◌∙◌}
use Rattle.std.specs.FinMap.{get}
use Rattle.intra.specs.Intras.{IntraValue}
use Rattle.intra.proofs.intra.Intra.entries.Goals as goal

pub returns-clause-exact : goal.returns-clause-exact
returns-clause-exact c = λ p e there. sym (ap (λ (w : IntraValue). get w.entries p) c.self.view_is) ∙ c.entries.ensures.exact p e there
